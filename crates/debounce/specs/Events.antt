-- The events between two pictures: document 01, Debounce, row by row, then by column. Assumes nothing.
use Rattle.std.specs.Prelude.{ℕ, ◌+◌, ◌/◌, ◌%◌, cond, List, [], ◌∷◌, ◌++◌, eqb}
use Rattle.event.specs.declared.Event.{Event}
use Rattle.event.specs.declared.Event.TheVariants.{Release, Press}
use Rattle.event.specs.Bytes.{bytes_of}

-- the event of the switch at a place of rows of so many columns, which now is so
unfoldable pub event_at : ℕ → ℕ → ℕ → Event
event_at columns place is = cond (eqb is 0) (Release (place / columns) (place % columns)) (Press (place / columns) (place % columns))

-- no event where a switch is as it was, else its event
unfoldable pub change_at : ℕ → ℕ → ℕ → ℕ → List Event
change_at columns place was is = cond (eqb was is) [] (event_at columns place is ∷ [])

-- an event for each switch that differs, from a place on
unfoldable pub changes : ℕ → ℕ → List ℕ → List ℕ → List Event
changes columns place [] after = []
changes columns place (was ∷ before) [] = []
changes columns place (was ∷ before) (is ∷ after) = change_at columns place was is ++ changes columns (place + 1) before after

-- their bytes, one after the other
unfoldable pub written : List Event → List ℕ
written [] = []
written (e ∷ es) = bytes_of e ++ written es
