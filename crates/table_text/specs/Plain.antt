-- The plain form of a text, said of the text alone: single spaces and no leading zeros. Document 02, W-201. Bytes are ASCII: 48 is
-- the digit 0.
-- Assumes nothing.
use Rattle.std.specs.Prelude.{ℕ, Bool, false, cond, not, ◌&&◌, List, [], ◌∷◌, eqb}
use Rattle.number.specs.Number.{is_digit}
use Rattle.table_text.specs.Lines.{single}

unfoldable pub starts_digit : List ℕ → Bool
starts_digit [] = false
starts_digit (c ∷ cs) = is_digit c

-- a zero goes where a digit follows it and none that stays is before it; `behind` says whether there is one
unfoldable pub unzeroed : Bool → List ℕ → List ℕ
unzeroed behind [] = []
unzeroed behind (c ∷ cs) =
    cond (not behind && (eqb c 48 && starts_digit cs)) (unzeroed false cs) (c ∷ unzeroed (is_digit c) cs)

unfoldable pub plain : List ℕ → List ℕ
plain text = unzeroed false (single text)
