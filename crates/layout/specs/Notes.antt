-- What a step comes to in the notes of an answer: its marks (document 01, Layout, the last paragraph) and how many states it
-- dropped (document 02, W-202). The notes have a place for each decision, by its position among those of the call.
-- Assumes nothing.
use Rattle.std.specs.Prelude.{ℕ, zero, suc, ◌+◌, min, List, [], ◌∷◌, ◌++◌, Option, Some, None}
use Rattle.event.specs.declared.Coord.{Coord}
use Rattle.event.specs.declared.Event.{Event}
use Rattle.layout.specs.Model.{Mark, Acted, Begun, Decided, Done}
use Rattle.layout.specs.declared.notes.Way.{Way}
use Rattle.layout.specs.declared.notes.Decision.{Decision}
use Rattle.layout.specs.declared.notes.Notes.{Notes}

-- no event acted on, no decision, no state dropped
abbrev pub no_notes : Notes
no_notes = record { acted = None; made = 0; first = None; second = None; dropped = 0 }

-- an event is acted on
abbrev pub note_acted : Notes → Event → Notes
note_acted n e = record { acted = Some e; made = n.made; first = n.first; second = n.second; dropped = n.dropped }

-- a decision behind so many; there is room for two
abbrev pub decision_at : ℕ → Option Decision → Notes → Notes
decision_at zero d n = record { acted = n.acted; made = 1; first = d; second = n.second; dropped = n.dropped }
decision_at (suc zero) d n = record { acted = n.acted; made = 2; first = n.first; second = d; dropped = n.dropped }
decision_at (suc (suc k)) d n = n

abbrev pub note_decision : Notes → Coord → Way → Notes
note_decision n c way = decision_at n.made (Some (record { coord = c; way = way })) n

-- the marks of a step, in their order, put into the notes
unfoldable pub noted_marks : Notes → List Mark → Notes
noted_marks n [] = n
noted_marks n (Acted e ∷ marks) = noted_marks (note_acted n e) marks
noted_marks n (Begun c ∷ marks) = noted_marks n marks
noted_marks n (Decided c way ∷ marks) = noted_marks (note_decision n c way) marks

-- a count and so many more. It stops at 65,535, which no call comes near (crates/demands/specs/Dropped.antt: Told)
abbrev pub counted : ℕ → ℕ → ℕ
counted k zero = k
counted k (suc more) = min (k + suc more) 65535

-- so many states were dropped
abbrev pub note_dropped : Notes → ℕ → Notes
note_dropped n k = record { acted = n.acted; made = n.made; first = n.first; second = n.second; dropped = counted n.dropped k }

-- what a step did, put into the notes
abbrev pub noted : Notes → Done → Notes
noted n done = note_dropped (noted_marks n done.marks) done.dropped

-- the decisions that marks name, in their order, and those that notes name
unfoldable pub decisions : List Mark → List (Coord × Way)
decisions [] = []
decisions (Acted e ∷ marks) = decisions marks
decisions (Begun c ∷ marks) = decisions marks
decisions (Decided c way ∷ marks) = (c, way) ∷ decisions marks

abbrev pub made : Option Decision → List (Coord × Way)
made None = []
made (Some d) = (d.coord, d.way) ∷ []

abbrev pub made_in : Notes → List (Coord × Way)
made_in notes = made notes.first ++ made notes.second

-- the events that marks name as acted on, in their order, and the one that notes name
unfoldable pub acted_on : List Mark → List Event
acted_on [] = []
acted_on (Acted e ∷ marks) = e ∷ acted_on marks
acted_on (Begun c ∷ marks) = acted_on marks
acted_on (Decided c way ∷ marks) = acted_on marks

abbrev pub acted_in : Option Event → List Event
acted_in None = []
acted_in (Some e) = e ∷ []
