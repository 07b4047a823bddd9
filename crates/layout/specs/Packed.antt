-- A layout as the code holds it, in arrays whose unused places are zero, and the same as lists. Document 01, Layout and "What
-- must change shape".
-- Assumes nothing.
use Rattle.std.specs.Prelude.{ℕ, ◌-◌, List, ◌++◌, map, length, take, replicate, Option, Some, None}
use Rattle.event.specs.declared.Coord.{Coord}
use Rattle.event.specs.declared.Event.TheVariants.{Release}
use Rattle.image.specs.Tree.{Action, NoOp, Trans, KeyCode, MultipleKeyCodes, MultipleActions, Layer, DefaultLayer, HoldTap, tree}
use Rattle.layout.specs.Model.{Queued, Model, Waiting, Idle, Waits}
use Rattle.layout.specs.declared.active.State.{State}
use Rattle.layout.specs.declared.active.State.TheVariants.{NormalKey}
use Rattle.layout.specs.declared.active.WaitingState.{WaitingState}
use Rattle.layout.specs.declared.active.Active.{Active}
use Rattle.layout.specs.declared.queue.Stacked.{Stacked}
use Rattle.layout.specs.declared.queue.Queue.{Queue}
use Rattle.layout.specs.declared.layout.Layout.{Layout}

-- the list, filled up with z to n places
abbrev pub pad : {A : Type 0} → ℕ → A → List A → List A
pad n z l = l ++ replicate (n - length l) z

-- what an unused place holds
abbrev pub no_state : State
no_state = NormalKey 0 (record { i = 0; j = 0 })

abbrev pub no_stacked : Stacked
no_stacked = record { event = Release 0 0; since = 0 }

-- the hold and the tap of a HoldTap; another action has none
abbrev pub hold_of : Action → Action
hold_of NoOp = NoOp
hold_of Trans = NoOp
hold_of (KeyCode k) = NoOp
hold_of (MultipleKeyCodes ks) = NoOp
hold_of (MultipleActions actions) = NoOp
hold_of (Layer v) = NoOp
hold_of (DefaultLayer v) = NoOp
hold_of (HoldTap i timeout hold tap) = hold

abbrev pub tap_of : Action → Action
tap_of NoOp = NoOp
tap_of Trans = NoOp
tap_of (KeyCode k) = NoOp
tap_of (MultipleKeyCodes ks) = NoOp
tap_of (MultipleActions actions) = NoOp
tap_of (Layer v) = NoOp
tap_of (DefaultLayer v) = NoOp
tap_of (HoldTap i timeout hold tap) = tap

-- what waits, its hold and tap looked up in the image
abbrev pub waiting_of : List ℕ → Option WaitingState → Waiting
waiting_of img None = Idle
waiting_of img (Some w) = Waits w.coord w.left w.number (hold_of (tree img w.number)) (tap_of (tree img w.number))

abbrev pub waits_at : Coord → ℕ → ℕ → Option WaitingState
waits_at c left number = Some (record { coord = c; left = left; number = number })

abbrev pub waiting_in : Waiting → Option WaitingState
waiting_in Idle = None
waiting_in (Waits c left i hold tap) = waits_at c left i

-- the states and the queue as lists
abbrev pub states_in : Active → List State
states_in active = take active.len active.states

abbrev pub queued_of : Stacked → Queued
queued_of s = record { event = s.event; since = s.since }

abbrev pub list_in : Queue → List Queued
list_in queue = map queued_of (take queue.queued queue.stacked)

-- the lists that the active part and a queue stand for
abbrev pub model_of : List ℕ → Active → List Queued → Model
model_of img active q =
    record { base = active.default_layer; states = states_in active; waiting = waiting_of img active.waiting; queue = q }

abbrev pub unpack : List ℕ → Layout → Model
unpack img lay = model_of img lay.active (list_in lay.queue)

-- the lists in their arrays
abbrev pub active_of : Model → Active
active_of l =
    record {
      default_layer = l.base;
      states = pad 64 no_state l.states;
      len = length l.states;
      waiting = waiting_in l.waiting;
    }

abbrev pub stacked_of : Queued → Stacked
stacked_of q = record { event = q.event; since = q.since }

abbrev pub queue_of : List Queued → Queue
queue_of q = record { stacked = pad 16 no_stacked (map stacked_of q); queued = length q }

abbrev pub pack : Model → Layout
pack l = record { active = active_of l; queue = queue_of l.queue }
