-- The line that is written where a text or an image is refused: document 02, W-201. Bytes are ASCII: 32 is the space.
-- Assumes nothing.
use Rattle.std.specs.Prelude.{ℕ, List, [], ◌∷◌, ◌++◌, ◌≡◌}
use Rattle.table_body.specs.Digits.{last_digits, IsDigitCount}
use Rattle.text.specs.Text.{saying, decimal_of}
use Rattle.text.specs.declared.text.Text.{Text}

-- `refused N P`, with so many digits for the place; the line of `text` has five at most, and a text can have more lines
unfoldable pub refused_whole : ℕ → ℕ → ℕ → List ℕ
refused_whole number place count =
    (114 ∷ 101 ∷ 102 ∷ 117 ∷ 115 ∷ 101 ∷ 100 ∷ 32 ∷ []) ++ decimal_of number ++ (32 ∷ last_digits 10 count place)

-- the place is told whole: in the fewest digits that hold it
pub record Refuses (number place : ℕ) (text : Text) : Type 0 where
  pub count : ℕ
  pub fewest : IsDigitCount 10 1 place count
  pub says : text ≡ saying (refused_whole number place count)
