-- An event's coordinates and its three bytes: document 01, Debounce, last sentence.
-- Assumes nothing.
use Rattle.std.specs.Prelude.{ℕ, cond, List, [], ◌∷◌, eqb, get_or, Result, Ok, Err}
use Rattle.event.specs.declared.Event.{Event}
use Rattle.event.specs.declared.Event.TheVariants.{Release, Press}
use Rattle.event.specs.declared.Coord.{Coord}
use Rattle.event.specs.declared.UnknownKind.{UnknownKind}

abbrev pub coord_of : Event → Coord
coord_of (Release i j) = record { i = i; j = j }
coord_of (Press i j) = record { i = i; j = j }

-- 1 press or 0 release, row, column
abbrev pub bytes_of : Event → List ℕ
bytes_of (Release i j) = 0 ∷ i ∷ j ∷ []
bytes_of (Press i j) = 1 ∷ i ∷ j ∷ []

-- the event of a first byte, row and column; another first byte is no event
abbrev pub read_as : ℕ → ℕ → ℕ → Result Event UnknownKind
read_as kind i j = cond (eqb kind 0) (Ok (Release i j)) (cond (eqb kind 1) (Ok (Press i j)) (Err (record { kind = kind })))

abbrev pub read_of : List ℕ → Result Event UnknownKind
read_of bytes = read_as (get_or bytes 0 0) (get_or bytes 1 0) (get_or bytes 2 0)

-- the values of what was read, case by case: the event's three bytes, or the kind that is none
abbrev pub read_values : Result Event UnknownKind → List ℕ
read_values (Ok event) = bytes_of event
read_values (Err unknown) = unknown.kind ∷ []
