-- Runs of the layout's steps on its lists, and the events that came in. Document 01, Layout. Runs of the public calls, and
-- how the compiled calls make them, are in specs/Public.antt; proofs/Replies.antt ties the two.
-- Assumes nothing.
use Rattle.std.specs.Prelude.{ℕ, List, [], ◌∷◌, replicate}
use Rattle.event.specs.declared.Event.{Event}
use Rattle.image.specs.Table.{Table}
use Rattle.layout.specs.Model.{Model, Done, still, after}
use Rattle.layout.specs.Steps.{event, tick}

pub data Call : Type 0 where
  Tick : Call
  Enter : Event → Call

unfoldable pub call : Table → Call → Model → Done
call table Tick l = tick table l
call table (Enter e) l = event table e l

-- one call after the other, with the marks of all of them
unfoldable pub run : Table → List Call → Model → Done
run table [] l = still l
run table (k ∷ ks) l = let r = call table k l in after r (run table ks r.layout)

unfoldable pub ticks : ℕ → List Call
ticks n = replicate n Tick

-- the events that came in, in order of arrival
unfoldable pub arrived : List Call → List Event
arrived [] = []
arrived (Tick ∷ ks) = arrived ks
arrived (Enter e ∷ ks) = e ∷ arrived ks
