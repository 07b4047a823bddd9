-- What the list of changed cells is worth: document 02, W-203. Every cell whose action differs is in it, no other, by layer, row and
-- column, each once. It is said of every two images that `compare` does not refuse.
-- Assumes nothing.
use Rattle.std.specs.Prelude.{ℕ, ◌≡◌, Bool, true, false, ◌&&◌, List, [], ◌∷◌, ltb, Ok}
use Rattle.lists.specs.Lists.{has}
use Rattle.image.specs.Record.{cell_place, is_inside}
use Rattle.image.specs.Table.{table_of}
use Rattle.image.specs.Words.{rows_of, columns_of}
use Rattle.table_changes.specs.Same.{unnumbered}
use Rattle.table_changes.specs.Changes.{changed, placed, compare_reply}

-- each number is larger than the one before it
unfoldable pub rising : List ℕ → Bool
rising [] = true
rising (i ∷ []) = true
rising (i ∷ (j ∷ cells)) = ltb i j && rising (j ∷ cells)

-- the cell at a layer, row and column of a table, by its number
pub record CellOf (image : List ℕ) (layer row column i : ℕ) : Type 0 where
  pub inside : is_inside image layer row column ≡ true
  pub number : i ≡ cell_place image layer row column

-- what the cell does in both is the same but for record numbers
abbrev pub SameAction : List ℕ → List ℕ → ℕ → ℕ → ℕ → Type 0
SameAction first second layer row column =
    unnumbered ((table_of first).cell layer row column) ≡ unnumbered ((table_of second).cell layer row column)

pub record Listing (first second : List ℕ) : Type 0 where
  -- the three bytes of a cell are its layer, row and column
  pub bytes :
      (layer row column i : ℕ) → CellOf first layer row column i
      → placed (rows_of first) (columns_of first) (i ∷ []) ≡ layer ∷ row ∷ column ∷ []
  -- what is listed is a cell of the table
  pub cells :
      (i : ℕ) → has i (changed first second) ≡ true
      → (layer : ℕ) × (row : ℕ) × (column : ℕ) × CellOf first layer row column i
  -- a listed cell changes
  pub sharp :
      (layer row column i : ℕ) → CellOf first layer row column i → has i (changed first second) ≡ true
      → SameAction first second layer row column → ⊥
  -- no other does
  pub whole :
      (layer row column i : ℕ) → CellOf first layer row column i → has i (changed first second) ≡ false
      → SameAction first second layer row column
  -- they come by layer, row and column, each once
  pub ordered : rising (changed first second) ≡ true

unfoldable pub Listed : Type 0
Listed = (first second out : List ℕ) (n : ℕ) → (compare_reply first second out).compared ≡ Ok n → Listing first second
