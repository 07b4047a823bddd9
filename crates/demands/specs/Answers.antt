-- What the answers of a run name: document 01, Layout, its last paragraph. An answer has the event acted on, if any, and
-- the decisions made, at most two: the notes that the marks of its call come to. By the limits of specs/Limits.antt they
-- leave no mark out.
-- Assumes nothing.
use Rattle.std.specs.Prelude.{List, [], ◌∷◌, ◌++◌}
use Rattle.event.specs.declared.Coord.{Coord}
use Rattle.event.specs.declared.Event.{Event}
use Rattle.layout.specs.Notes.{acted_in, made_in}
use Rattle.layout.specs.declared.notes.Notes.{Notes}
use Rattle.layout.specs.declared.notes.Way.{Way}

-- the events that the answers name, and their decisions
unfoldable pub named_events : List Notes → List Event
named_events [] = []
named_events (n ∷ ns) = acted_in n.acted ++ named_events ns

unfoldable pub named_decisions : List Notes → List (Coord × Way)
named_decisions [] = []
named_decisions (n ∷ ns) = made_in n ++ named_decisions ns
