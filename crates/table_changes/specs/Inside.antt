-- What the private functions ask and promise, in the words of the public definitions. Assumes nothing.
use Rattle.std.specs.Prelude.{ℕ, ◌≡◌, Bool, ◌&&◌, List, eqb, length}
use Rattle.lists.specs.Lists.{laid}
use Rattle.image.specs.Words.{rows_of, columns_of}
use Rattle.image.specs.declared.words.Shape.{Shape}
use Rattle.table_changes.specs.Changes.{changed, placed}

-- L, R and C of two headers are the same
unfoldable pub equal_sizes : Shape → Shape → Bool
equal_sizes s t = eqb s.layers t.layers && (eqb s.rows t.rows && eqb s.columns t.columns)

-- the cells that differ at the start of a buffer: how many, and the buffer then
abbrev pub ListedTo : List ℕ → List ℕ → List ℕ → ℕ → List ℕ → Type 0
ListedTo first second out count after =
    let listed = changed first second in
    (count ≡ length listed) × (after ≡ laid (placed (rows_of first) (columns_of first) listed) out)
