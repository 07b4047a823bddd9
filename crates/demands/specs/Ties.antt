-- The two ties of document 01, "Easy errors": a release as many ticks after its press as the timeout. Both are said of runs of
-- the public calls (specs/Public.antt), on any layout that calls lead to over an accepted image.
--     LiveTie       the press is acted on at its first tick: at the tick of the tie, before the release can come, it is hold
--     QueuedTie     press and release are queued behind another key's wait: the release decides it, and it is tap
-- Assumes nothing.
use Rattle.std.specs.Prelude.{ℕ, suc, ◌+◌, ◌≤◌, ◌<◌, ◌≡◌, false, List, [], ◌∷◌, ◌++◌, length, Ok}
use Rattle.event.specs.declared.Coord.{Coord}
use Rattle.event.specs.declared.Event.TheVariants.{Release, Press}
use Rattle.image.specs.Check.{check_of}
use Rattle.image.specs.Table.{table_of}
use Rattle.image.specs.Tree.{Action, HoldTap}
use Rattle.image.specs.declared.words.Shape.{Shape}
use Rattle.layout.specs.Model.{Waits, same}
use Rattle.layout.specs.Steps.{pressed}
use Rattle.layout.specs.Packed.{unpack}
use Rattle.layout.specs.Reach.{Reached}
use Rattle.layout.specs.declared.layout.Layout.{Layout}
use Rattle.layout.specs.declared.notes.Way.{Way}
use Rattle.layout.specs.declared.notes.Way.TheVariants.{Tap, Hold}
use Rattle.demands.specs.Runs.{Enter}
use Rattle.demands.specs.Answers.{named_decisions}
use Rattle.demands.specs.Public.{Lent, ticks_on, Roomy, replies, last_layout, notes_of}
use Rattle.demands.specs.Demand3.{AtRest}

-- the decisions that the answers to calls on a layout name
abbrev pub decided_by : List ℕ → Layout → List Lent → List (Coord × Way)
decided_by image layout calls = named_decisions (notes_of (replies image calls layout))

-- what a press of the key runs in a layout is a HoldTap of such a timeout
pub record Keyed (image : List ℕ) (layout : Layout) (c : Coord) (timeout : ℕ) : Type 0 where
  pub number : ℕ
  pub hold : Action
  pub tap : Action
  pub is : pressed (table_of image) c (unpack image layout) ≡ HoldTap number timeout hold tap

-- a press, then ticks alone, one for each buffer
abbrev pub press_on : Coord → List ℕ → List (List ℕ) → List Lent
press_on c b bs = record { call = Enter (Press c.i c.j); buffer = b } ∷ ticks_on bs

-- undecided one tick before the tie, and hold at the tick of the tie
pub record Live (image : List ℕ) (layout : Layout) (c : Coord) (timeout : ℕ) : Type 0 where
  pub before :
      (b : List ℕ) (bs : List (List ℕ)) → Roomy (press_on c b bs)
      → suc (length bs) ≡ timeout → decided_by image layout (press_on c b bs) ≡ []
  pub at :
      (b : List ℕ) (bs : List (List ℕ)) → Roomy (press_on c b bs)
      → length bs ≡ timeout → decided_by image layout (press_on c b bs) ≡ (c, Hold) ∷ []

-- nothing waits and nothing is queued, whatever is held; the timeout is 2 or more
unfoldable pub LiveTie : Type 0
LiveTie =
    (image : List ℕ) (shape : Shape) → check_of image ≡ Ok shape
    → (layout : Layout) → Reached image layout → AtRest layout
    → (c : Coord) (timeout : ℕ) → 2 ≤ timeout → Keyed image layout c timeout → Live image layout c timeout

-- a press, ticks, its release, and ticks again, one for each buffer
abbrev pub press_and_release : Coord → List ℕ → List (List ℕ) → List ℕ → List (List ℕ) → List Lent
press_and_release c p gap r rest =
    record { call = Enter (Press c.i c.j); buffer = p }
    ∷ (ticks_on gap ++ (record { call = Enter (Release c.i c.j); buffer = r } ∷ ticks_on rest))

-- a key waits, with so many ticks left, and nothing is queued
pub record Held (image : List ℕ) (layout : Layout) (d : Coord) (left : ℕ) : Type 0 where
  pub number : ℕ
  pub hold : Action
  pub tap : Action
  pub is : (unpack image layout).waiting ≡ Waits d left number hold tap
  pub empty : (unpack image layout).queue ≡ []

-- the next tick acts on the press, and the release behind it decides: tap at the tie, hold one tick past it
pub record Behind (image : List ℕ) (layout : Layout) (c : Coord) (gap timeout : ℕ) : Type 0 where
  pub at : (b : List ℕ) → 64 ≤ length b → gap ≡ timeout → decided_by image layout (ticks_on (b ∷ [])) ≡ (c, Tap) ∷ []
  pub past : (b : List ℕ) → 64 ≤ length b → gap ≡ suc timeout → decided_by image layout (ticks_on (b ∷ [])) ≡ (c, Hold) ∷ []

-- another key waits, and its ticks end with the last of the calls. Ages stop at 65,535, so they are fewer than that
unfoldable pub QueuedTie : Type 0
QueuedTie =
    (image : List ℕ) (shape : Shape) → check_of image ≡ Ok shape
    → (layout : Layout) → Reached image layout
    → (d : Coord) (left : ℕ) → Held image layout d left → (c : Coord) → same d c ≡ false
    → (p : List ℕ) (gap : List (List ℕ)) (r : List ℕ) (rest : List (List ℕ)) → Roomy (press_and_release c p gap r rest)
    → left ≡ length gap + length rest → 1 ≤ length rest → left < 65535
    → let after = last_layout layout (replies image (press_and_release c p gap r rest) layout) in
    (timeout : ℕ) → Keyed image after c timeout → Behind image after c (length gap) timeout
