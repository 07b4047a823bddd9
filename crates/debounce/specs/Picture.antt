-- Pictures: document 01, Debounce. A picture holds a number for each switch, row by row, 1 for down and 0 for up, in 128 places of
-- which the unused are 0. Assumes nothing.
use Rattle.std.specs.Prelude.{ℕ, ◌-◌, Bool, ◌&&◌, List, ◌++◌, eqb, leb, length, take, drop, replicate}
use Rattle.lists.specs.Lists.{every}

-- no switch is down
abbrev pub all_up : List ℕ
all_up = replicate 128 0

-- a scan in its 128 places
abbrev pub padded : List ℕ → List ℕ
padded scan = scan ++ replicate (128 - length scan) 0

-- 0 or 1
abbrev pub binary : ℕ → Bool
binary u = leb u 1

abbrev pub unused : ℕ → Bool
unused u = eqb u 0

-- a picture of n switches: each of the first n places is 0 or 1, each other is 0
unfoldable pub is_picture : ℕ → List ℕ → Bool
is_picture n places = every binary (take n places) && every unused (drop n places)

-- a scan of n switches: so many bytes, each 0 or 1
unfoldable pub is_scan : ℕ → List ℕ → Bool
is_scan n scan = eqb (length scan) n && every binary scan
