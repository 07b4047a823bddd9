-- The limits of a call: document 01, Layout, its last paragraph. Over an accepted image, whatever the layout, a call acts on
-- at most one event; a tick makes at most one decision and an event at most two.
-- Assumes nothing.
use Rattle.std.specs.Prelude.{ℕ, ◌≤◌, ◌≡◌, List, length, Ok}
use Rattle.event.specs.declared.Event.{Event}
use Rattle.image.specs.Check.{check_of}
use Rattle.image.specs.Table.{table_of}
use Rattle.image.specs.declared.words.Shape.{Shape}
use Rattle.layout.specs.Model.{Mark}
use Rattle.layout.specs.Steps.{event, tick}
use Rattle.layout.specs.Packed.{unpack}
use Rattle.layout.specs.Notes.{acted_on, decisions}
use Rattle.layout.specs.declared.layout.Layout.{Layout}

-- what a step did, where it may make so many decisions
pub record Limits (most : ℕ) (marks : List Mark) : Type 0 where
  pub acts : length (acted_on marks) ≤ 1
  pub decides : length (decisions marks) ≤ most

-- of the two steps on a layout
pub record Limited (img : List ℕ) (lay : Layout) : Type 0 where
  pub event : (e : Event) → Limits 2 (event (table_of img) e (unpack img lay)).marks
  pub tick : Limits 1 (tick (table_of img) (unpack img lay)).marks

unfoldable pub AtMost : Type 0
AtMost = (img : List ℕ) (shape : Shape) → check_of img ≡ Ok shape → (lay : Layout) → Limited img lay
