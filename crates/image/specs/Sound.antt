-- What an accepted image is: every count, offset, cell and record keeps its rule. Document 01, "The table image".
-- Assumes nothing.
use Rattle.std.specs.Prelude.{◌≡◌, true, List, ℕ, ◌+◌, ◌*◌, ◌<◌, ◌≤◌, length, ltb}
use Rattle.codes.specs.Codes.{legal}
use Rattle.image.specs.Words.{layers_of, rows_of, columns_of, records_of, entries_of, records_start, list_start, cells_of, size_of, cell_of}
use Rattle.image.specs.Record.{action_at, codes_in, children_in, list_end}
use Rattle.image.specs.Tree.{weight, tree, opens_last, meaning}
use Rattle.image.specs.declared.record.Action.{Action}
use Rattle.lists.specs.Lists.{every}
use Rattle.image.specs.Check.{form_good}

-- the header keeps its rules, and the length is the image's
pub record Framed (img : List ℕ) : Type 0 where
  pub layers : (1 ≤ layers_of img) × (layers_of img ≤ 8)
  pub rows : (1 ≤ rows_of img) × (rows_of img ≤ 8)
  pub columns : (1 ≤ columns_of img) × (columns_of img ≤ 16)
  pub records : (1 ≤ records_of img) × (records_of img ≤ 256)
  pub entries : entries_of img ≤ 1024
  pub records_at : records_start img ≡ 16 + 2 * cells_of img
  pub list_at : list_start img ≡ records_start img + 8 * records_of img
  pub whole : length img ≡ size_of img

-- record n keeps its five rules
pub record Good (img : List ℕ) (n : ℕ) : Type 0 where
  pub form : form_good img n ≡ true
  pub listed : list_end (action_at img n) ≤ entries_of img
  pub codes : every legal (codes_in img (action_at img n)) ≡ true
  pub lower : every (λ k. ltb k n) (children_in img (action_at img n)) ≡ true
  pub settles : opens_last (tree img n) ≡ true
  pub light : weight (tree img n) ≤ 64

pub record Sound (img : List ℕ) : Type 0 where
  pub framed : Framed img
  pub cells : (i : ℕ) → i < cells_of img → cell_of img i < records_of img
  pub records : (n : ℕ) → n < records_of img → Good img n

-- what is known of record n where its action is x: what it means, its children by their own trees, and that its entries
-- are in the list, its codes legal and the records that it names lower
pub record Meant (img : List ℕ) (n : ℕ) (x : Action) : Type 0 where
  pub is : tree img n ≡ meaning img (tree img) n x
  pub listed : list_end x ≤ entries_of img
  pub codes : every legal (codes_in img x) ≡ true
  pub lower : every (λ k. ltb k n) (children_in img x) ≡ true
