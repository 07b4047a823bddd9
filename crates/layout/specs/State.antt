-- 13 State, of a layout: document 01, "Refusal numbers", the paragraph on State.
-- Assumes nothing.
use Rattle.std.specs.Prelude.{ℕ, Bool, true, false, ◌&&◌, List, [], ◌∷◌, eqb, leb, ltb, take, drop, Option, Some, None}
use Rattle.lists.specs.Lists.{every}
use Rattle.codes.specs.Codes.{legal}
use Rattle.event.specs.declared.Event.{Event}
use Rattle.event.specs.declared.Event.TheVariants.{Release, Press}
use Rattle.image.specs.Words.{layers_of}
use Rattle.image.specs.Tree.{Action, NoOp, Trans, KeyCode, MultipleKeyCodes, MultipleActions, Layer, DefaultLayer, HoldTap, tree}
use Rattle.layout.specs.Model.{Queued, age_of, same}
use Rattle.layout.specs.Packed.{list_in}
use Rattle.layout.specs.declared.active.State.{State}
use Rattle.layout.specs.declared.active.State.TheVariants.{NormalKey, LayerModifier}
use Rattle.layout.specs.declared.active.WaitingState.{WaitingState}
use Rattle.layout.specs.declared.queue.Stacked.{Stacked}
use Rattle.layout.specs.declared.layout.Layout.{Layout}

-- the codes. A LayerModifier holds any word
abbrev pub legal_state : State → Bool
legal_state (NormalKey k c) = legal k
legal_state (LayerModifier v c) = true

-- the ages of the queue, from the oldest on
unfoldable pub falling : List Queued → Bool
falling [] = true
falling (q ∷ []) = true
falling (q ∷ (next ∷ qs)) = leb (age_of next) (age_of q) && falling (next ∷ qs)

-- what waits. A number past the last record is no HoldTap, since its tree is NoOp
abbrev pub may_wait : Action → ℕ → Bool
may_wait NoOp left = false
may_wait Trans left = false
may_wait (KeyCode k) left = false
may_wait (MultipleKeyCodes ks) left = false
may_wait (MultipleActions actions) left = false
may_wait (Layer v) left = false
may_wait (DefaultLayer v) left = false
may_wait (HoldTap i timeout hold tap) left = leb left timeout

abbrev pub waiting_good : List ℕ → Option WaitingState → Bool
waiting_good img None = true
waiting_good img (Some w) = may_wait (tree img w.number) w.left

-- the unused places
abbrev pub unused_state : State → Bool
unused_state (NormalKey k c) = eqb k 0 && same c (record { i = 0; j = 0 })
unused_state (LayerModifier v c) = false

abbrev pub unused_event : Event → Bool
unused_event (Release i j) = eqb i 0 && eqb j 0
unused_event (Press i j) = false

abbrev pub unused_stacked : Stacked → Bool
unused_stacked s = eqb s.since 0 && unused_event s.event

-- State is not given
unfoldable pub state_good : List ℕ → Layout → Bool
state_good img lay =
    let active = lay.active in
    let queue = lay.queue in
    leb active.len 64
    && (leb queue.queued 16
    && (every legal_state (take active.len active.states)
    && (ltb active.default_layer (layers_of img)
    && (falling (list_in queue)
    && (waiting_good img active.waiting
    && (every unused_state (drop active.len active.states) && every unused_stacked (drop queue.queued queue.stacked)))))))
