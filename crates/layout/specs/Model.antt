-- The layout as lists: document 01, Layout, and what a step of it leaves. The words are document 01's.
-- Assumes nothing.
use Rattle.std.specs.Prelude.{ℕ, ◌+◌, Bool, ◌&&◌, List, [], ◌∷◌, ◌++◌, eqb}
use Rattle.event.specs.declared.Coord.{Coord}
use Rattle.event.specs.declared.Event.{Event}
use Rattle.image.specs.Tree.{Action}
use Rattle.layout.specs.declared.active.State.{State}
use Rattle.layout.specs.declared.notes.Way.{Way}

-- nothing, or a hold-tap: its coordinates, ticks left, record number, hold and tap
pub data Waiting : Type 0 where
  Idle : Waiting
  Waits : Coord → ℕ → ℕ → Action → Action → Waiting

-- a queued event, and for how many ticks it has been
pub record Queued : Type 0 where
  pub event : Event
  pub since : ℕ

-- its age
abbrev pub age_of : Queued → ℕ
age_of q = q.since

-- the default layer, the states held, what waits, and the queued events, the oldest first
pub record Model : Type 0 where
  pub base : ℕ
  pub states : List State
  pub waiting : Waiting
  pub queue : List Queued

-- what a step did, in the order of happening: an event acted on, a hold-tap begun, a hold-tap decided
pub data Mark : Type 0 where
  Acted : Event → Mark
  Begun : Coord → Mark
  Decided : Coord → Way → Mark

-- what a step leaves: the layout, the marks of what was done, and how many states were dropped (document 02, W-202)
pub record Done : Type 0 where
  pub layout : Model
  pub marks : List Mark
  pub dropped : ℕ

-- a fresh layout
abbrev pub fresh : Model
fresh = record { base = 0; states = []; waiting = Idle; queue = [] }

-- the same coordinates
abbrev pub same : Coord → Coord → Bool
same c d = eqb c.i d.i && eqb c.j d.j

-- nothing was done
abbrev pub still : Model → Done
still l = record { layout = l; marks = []; dropped = 0 }

-- nothing was done, and a state was dropped
abbrev pub lost : Model → Done
lost l = record { layout = l; marks = []; dropped = 1 }

-- a mark before those of a step
abbrev pub marked : Mark → Done → Done
marked m r = record { layout = r.layout; marks = m ∷ r.marks; dropped = r.dropped }

-- one step, and what comes after it
abbrev pub after : Done → Done → Done
after r s = record { layout = s.layout; marks = r.marks ++ s.marks; dropped = r.dropped + s.dropped }

-- the layout with one part put in
abbrev pub with_base : ℕ → Model → Model
with_base b l = record { base = b; states = l.states; waiting = l.waiting; queue = l.queue }

abbrev pub with_states : List State → Model → Model
with_states s l = record { base = l.base; states = s; waiting = l.waiting; queue = l.queue }

abbrev pub with_waiting : Waiting → Model → Model
with_waiting w l = record { base = l.base; states = l.states; waiting = w; queue = l.queue }

abbrev pub with_queue : List Queued → Model → Model
with_queue q l = record { base = l.base; states = l.states; waiting = l.waiting; queue = q }
