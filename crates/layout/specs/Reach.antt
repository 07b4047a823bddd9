-- The layouts that calls lead to, over one image: document 01, Layout. `keycodes` hands no layout on.
--     Starts                what calls may start from
--     Reached               what they lead to from there
--     NeverRefusedState     a call on it is never refused State
-- Assumes nothing.
use Rattle.std.specs.Prelude.{ℕ, ◌≡◌, true, List, [], leb, Option, Ok}
use Rattle.refusal.specs.Verdict.{fine, rule}
use Rattle.refusal.specs.declared.Refusal.TheVariants.{Room}
use Rattle.event.specs.declared.Event.{Event}
use Rattle.image.specs.Check.{check_of}
use Rattle.image.specs.Table.{table_of}
use Rattle.image.specs.declared.words.Shape.{Shape}
use Rattle.layout.specs.Model.{Model, Idle, fresh}
use Rattle.layout.specs.Steps as step
use Rattle.layout.specs.Packed.{pack, unpack}
use Rattle.layout.specs.State.{state_good}
use Rattle.layout.specs.Calls.{judged_of, layout_after}
use Rattle.layout.specs.declared.active.WaitingState.{WaitingState}
use Rattle.layout.specs.declared.layout.Layout.{Layout}

-- how many states a layout holds, how many events are queued in it, and what waits
abbrev pub held_in : Layout → ℕ
held_in lay = lay.active.len

abbrev pub queued_in : Layout → ℕ
queued_in lay = lay.queue.queued

abbrev pub waits_in : Layout → Option WaitingState
waits_in lay = lay.active.waiting

-- State is not given for it, no state is held, nothing waits and nothing is queued
pub record Starts (img : List ℕ) (start : Model) : Type 0 where
  pub good : state_good img (pack start) ≡ true
  pub stateless : start.states ≡ []
  pub idle : start.waiting ≡ Idle
  pub empty : start.queue ≡ []

-- what `Layout::new` promises, `pack fresh`, is such a start over every accepted image
unfoldable pub FreshStarts : Type 0
FreshStarts = (img : List ℕ) (shape : Shape) → check_of img ≡ Ok shape → Starts img fresh

pub data Reached (img : List ℕ) : Layout → Type 0 where
  start : {l : Model} → Starts img l → Reached img (pack l)
  event :
      {lay : Layout} → Reached img lay → (e : Event) (room : ℕ)
      → Reached img (layout_after (judged_of img lay room) (step.event (table_of img) e (unpack img lay)) lay)
  tick :
      {lay : Layout} → Reached img lay → (room : ℕ)
      → Reached img (layout_after (judged_of img lay room) (step.tick (table_of img) (unpack img lay)) lay)

-- only the buffer can be too small
unfoldable pub NeverRefusedState : Type 0
NeverRefusedState =
    (img : List ℕ) (shape : Shape) (lay : Layout) (room : ℕ) → check_of img ≡ Ok shape → Reached img lay
    → judged_of img lay room ≡ rule (leb 64 room) Room 0 fine
