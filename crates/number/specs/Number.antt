-- Numbers written in decimal. Bytes are ASCII: 48 to 57 are the digits.
-- Assumes nothing.
use Rattle.std.specs.Prelude.{ℕ, ◌+◌, ◌*◌, ◌-◌, Bool, cond, ◌&&◌, List, [], ◌∷◌, Option, Some, None, leb, length}
use Rattle.lists.specs.Lists.{every}

unfoldable pub is_digit : ℕ → Bool
is_digit c = leb 48 c && leb c 57

-- what digits come to behind others that came to n: each one more makes it ten times as much
unfoldable pub comes_to : ℕ → List ℕ → ℕ
comes_to n [] = n
comes_to n (c ∷ cs) = comes_to (10 * n + (c - 48)) cs

-- digits, however many, that come to 65,535 at most
unfoldable pub read_behind : ℕ → List ℕ → Option ℕ
read_behind n cs = cond (every is_digit cs && leb (comes_to n cs) 65535) (Some (comes_to n cs)) None

-- a word that is a number: not empty, digits alone, zeros in front or not, at most 65,535
unfoldable pub read_decimal : List ℕ → Option ℕ
read_decimal [] = None
read_decimal (c ∷ cs) = read_behind 0 (c ∷ cs)

-- a number that is at most so large, and is written with at most so many digits
abbrev pub not_above : ℕ → Option ℕ → Option ℕ
not_above largest (Some n) = cond (leb n largest) (Some n) None
not_above largest None = None

unfoldable pub read_within : ℕ → ℕ → List ℕ → Option ℕ
read_within digits largest word = cond (leb (length word) digits) (not_above largest (read_decimal word)) None

-- the values of what was read: the number, or none
abbrev pub values_of : Option ℕ → List ℕ
values_of (Some n) = n ∷ []
values_of None = []
