-- What a line of `panel` says: document 01, Bench cases. Bytes are ASCII: 32 is the space, 112 is p, 114 is r, 116 is t.
-- Assumes nothing.
use Rattle.std.specs.Prelude.{ℕ, ◌+◌, Bool, cond, ◌&&◌, ◌==◌, List, [], ◌∷◌, position, Option, Some, None, length, get_or, take, drop}
use Rattle.event.specs.Bytes.{bytes_of}
use Rattle.event.specs.declared.Coord.{Coord}
use Rattle.event.specs.declared.Event.TheVariants.{Press, Release}
use Rattle.number.specs.Number.{read_within}
use Rattle.panel_line.specs.declared.Line.{Line}
use Rattle.panel_line.specs.declared.Line.TheVariants.{Key, Tick}

-- a row and a column, where both could be read
abbrev pub pair : Option ℕ → Option ℕ → Option Coord
pair (Some i) (Some j) = Some (record { i = i; j = j })
pair (Some i) None = None
pair None column = None

-- what is before the first space and what is behind it, as numbers of one to three digits and up to 255; without a space nothing
abbrev pub parted_at : List ℕ → Option ℕ → Option Coord
parted_at cs (Some n) = pair (read_within 3 255 (take n cs)) (read_within 3 255 (drop (n + 1) cs))
parted_at cs None = None

-- two numbers with one space between them
unfoldable pub coords_of : List ℕ → Option Coord
coords_of cs = parted_at cs (position (λ c. c == 32) cs)

-- a press and a release there
abbrev pub press_at : Option Coord → Option Line
press_at (Some c) = Some (Key (Press c.i c.j))
press_at None = None

abbrev pub release_at : Option Coord → Option Line
release_at (Some c) = Some (Key (Release c.i c.j))
release_at None = None

-- the line begins with this letter and a space
unfoldable pub starts_with : ℕ → List ℕ → Bool
starts_with letter cs = get_or cs 0 0 == letter && get_or cs 1 0 == 32

-- `t`; or `p` or `r` with row and column; anything else cannot be read
unfoldable pub line_of : List ℕ → Option Line
line_of cs =
    cond (length cs == 1 && get_or cs 0 0 == 116) (Some Tick)
    (cond (starts_with 112 cs) (press_at (coords_of (drop 2 cs)))
    (cond (starts_with 114 cs) (release_at (coords_of (drop 2 cs))) None))

-- the values of what is said: an event's three bytes, the letter of a tick, or none
abbrev pub says_of : Option Line → List ℕ
says_of (Some (Key event)) = bytes_of event
says_of (Some Tick) = 116 ∷ []
says_of None = []
