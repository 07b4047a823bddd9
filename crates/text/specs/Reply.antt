-- Lines that both programs answer with: document 01, Bench cases. Bytes are ASCII: 63 is the question mark, 32 the space.
-- Assumes nothing.
use Rattle.std.specs.Prelude.{ℕ, List, [], ◌∷◌, ◌++◌}
use Rattle.text.specs.Text.{decimal_of}

-- `?`, to a line that cannot be read
unfoldable pub unread_line : List ℕ
unread_line = 63 ∷ []

-- `refused N P`: the word, a refusal's number and its place
unfoldable pub refused_line : ℕ → ℕ → List ℕ
refused_line number place = (114 ∷ 101 ∷ 102 ∷ 117 ∷ 115 ∷ 101 ∷ 100 ∷ 32 ∷ []) ++ decimal_of number ++ (32 ∷ decimal_of place)
