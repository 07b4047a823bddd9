-- The numbers of a text, line by line: document 02, W-201. Bytes are ASCII: 10 is the newline, 32 the space.
-- Assumes nothing.
use Rattle.std.specs.Prelude.{ℕ, Bool, false, cond, ◌&&◌, List, [], ◌∷◌, ◌++◌, eqb, Option, Some, None}
use Rattle.number.specs.Number.{read_decimal}

-- one byte more in front of the first part
unfoldable pub ahead : ℕ → List (List ℕ) → List (List ℕ)
ahead c [] = (c ∷ []) ∷ []
ahead c (p ∷ ps) = (c ∷ p) ∷ ps

-- bytes parted at each byte d: one part more than there are d. Parted at the newlines, a text is its closed lines, and last what
-- stands behind the last newline
unfoldable pub parts : ℕ → List ℕ → List (List ℕ)
parts d [] = [] ∷ []
parts d (c ∷ cs) = cond (eqb c d) ([] ∷ parts d cs) (ahead c (parts d cs))

unfoldable pub starts_with : ℕ → List ℕ → Bool
starts_with d [] = false
starts_with d (c ∷ cs) = eqb c d

-- a space that another follows goes: of each run of spaces one is left
unfoldable pub single : List ℕ → List ℕ
single [] = []
single (c ∷ cs) = cond (eqb c 32 && starts_with 32 cs) (single cs) (c ∷ single cs)

-- the numbers of a line; or one of its words is no number
pub data Row : Type 0 where
  Numbers : List ℕ → Row
  Unfit : Row

abbrev pub before : Option ℕ → Row → Row
before (Some n) (Numbers ns) = Numbers (n ∷ ns)
before (Some n) Unfit = Unfit
before None row = Unfit

unfoldable pub read_words : List (List ℕ) → Row
read_words [] = Numbers []
read_words (w ∷ ws) = before (read_decimal w) (read_words ws)

-- a line without its newline. Its numbers are parted by one or more spaces; a space before the first or behind the last would
-- leave an empty word there, which is no number. An empty line has no numbers
unfoldable pub row_of : List ℕ → Row
row_of [] = Numbers []
row_of (c ∷ cs) = read_words (parts 32 (single (c ∷ cs)))

unfoldable pub numbers_in : Row → List ℕ
numbers_in (Numbers ns) = ns
numbers_in Unfit = []

-- the numbers of all these lines, in their order
unfoldable pub numbers_of : List (List ℕ) → List ℕ
numbers_of [] = []
numbers_of (line ∷ lines) = numbers_in (row_of line) ++ numbers_of lines
