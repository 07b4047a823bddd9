-- A table, read off an accepted image: layers, rows, columns, and the action of each cell. Outside the table it is NoOp
-- (document 01, "Layout").
-- Assumes nothing.
use Rattle.std.specs.Prelude.{ℕ, zero, suc, max, List, Option, Some, None}
use Rattle.image.specs.Words.{layers_of, rows_of, columns_of, cells_of, cell_of}
use Rattle.image.specs.Record.{cell_at}
use Rattle.image.specs.Tree.{Action, NoOp, tree, longest}
use Rattle.image.specs.Proper.{Times}

pub record Table : Type 0 where
  pub layers : ℕ
  pub rows : ℕ
  pub columns : ℕ
  pub cell : ℕ → ℕ → ℕ → Action

-- the tree of the record that a cell names
unfoldable pub tree_in : List ℕ → Option ℕ → Action
tree_in img (Some n) = tree img n
tree_in img None = NoOp

abbrev pub table_of : List ℕ → Table
table_of img =
    record {
      layers = layers_of img;
      rows = rows_of img;
      columns = columns_of img;
      cell = λ layer row column. tree_in img (cell_at img layer row column);
    }

-- the longest of f 0 .. f (n - 1), 0 where there is none
unfoldable pub longest_below : (ℕ → ℕ) → ℕ → ℕ
longest_below f zero = 0
longest_below f (suc n) = max (longest_below f n) (f n)

-- the longest hold time of an image: over its cells
unfoldable pub times_of : List ℕ → Times
times_of img = record { first = longest_below (λ i. longest (tree img (cell_of img i))) (cells_of img) }
