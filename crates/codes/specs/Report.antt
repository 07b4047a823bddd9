-- The report: document 01, "Report and keyboard". Byte 0 is the modifiers', byte 1 is kept, bytes 2 to 7 are the six.
-- Assumes nothing.
use Rattle.std.specs.Prelude.{ℕ, cond, List, [], ◌∷◌, ◌++◌, map, eqb, leb, ltb, length, get_or, take, drop, set, replicate}
use Rattle.std.specs.List.{position_or_len}
use Rattle.std.specs.Int.Bits.{bit_or}
use Rattle.codes.specs.Codes.{modifier, modifier_bit}

-- the place of the first zero byte; where none is left, the list's length
unfoldable pub free_place : List ℕ → ℕ
free_place = position_or_len (λ k. eqb k 0)

-- each of the bytes becomes the code
unfoldable pub filled : ℕ → List ℕ → List ℕ
filled code = map (λ k. code)

-- the first zero byte becomes the code; where none is left, each byte becomes 1
unfoldable pub placed : ℕ → List ℕ → List ℕ
placed code six = cond (ltb (free_place six) (length six)) (set six (free_place six) code) (filled 1 six)

-- what a code that is no modifier does to the six: 0 nothing; 1, 2, 3 fill them; every other takes a place
unfoldable pub keyed : ℕ → List ℕ → List ℕ
keyed code six = cond (eqb code 0) six (cond (leb code 3) (filled code six) (placed code six))

-- the report's bytes with one code more
unfoldable pub pressed_of : List ℕ → ℕ → List ℕ
pressed_of bytes code =
    cond (modifier code) (set bytes 0 (bit_or (get_or bytes 0 0) (modifier_bit code)))
    (take 2 bytes ++ keyed code (drop 2 bytes))

-- the report's bytes with each of the codes, one after the other
unfoldable pub with_codes : List ℕ → List ℕ → List ℕ
with_codes bytes [] = bytes
with_codes bytes (code ∷ codes) = with_codes (pressed_of bytes code) codes

-- the report of a list of codes
unfoldable pub report_of : List ℕ → List ℕ
report_of codes = with_codes (replicate 8 0) codes
