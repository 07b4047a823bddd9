-- Rows of numbers, which stand between a text and an image. Assumes nothing.
use Prim.Native.Nat.{ℕ, ◌+◌}
use mathlib.Core.Bool.{Bool, ◌&&◌}
use mathlib.Core.List.{List, [], ◌∷◌, ◌++◌}
use lib.Dec.{leb, ltb}
use lib.ListN.{length}
use Rattle.lists.specs.Lists.{every}
use Rattle.image.specs.declared.words.Shape.{Shape}
use Rattle.table_text.specs.Write.{asks, lines_asked}

-- all numbers of rows, in their order
unfoldable pub flat : List (List ℕ) → List ℕ
flat [] = []
flat (row ∷ rows) = row ++ flat rows

-- the rows from line i on are those that the counts ask for
unfoldable pub shaped : Shape → ℕ → List (List ℕ) → Bool
shaped s i [] = ltb (lines_asked s) i
shaped s i (row ∷ rows) = asks s i (length row) && shaped s (i + 1) rows

-- every number is a word
unfoldable pub small : List (List ℕ) → Bool
small rows = every (every (λ n. leb n 65535)) rows
