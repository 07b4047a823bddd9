-- What the Rust asserts while an action runs, and the difference that it takes: document 01, "What must change shape". Where an
-- action begins, whichever it is, nothing waits (`assert!`); and where a HoldTap does, the first queued release of its key is no
-- older than the delay (`delay - since`).
--     RunsSo        a fact that holds wherever the run of an action comes to an action
--     EventSo, TickSo      the same of every action that a call runs: the walk of specs/Steps.antt
--     NeverWaits    over an accepted image, whatever the layout, nothing waits there: Nested rules the assertion out
--     FirstYounger  in a queue whose ages fall, the first release of a key is no older than the event before it
--     NeverBelow    so where State is not given, the difference is never below 0
-- Assumes nothing.
use Rattle.std.specs.Prelude.{ℕ, ◌-◌, ◌≤◌, ◌≡◌, true, false, List, [], ◌∷◌, ltb, length, Option, Some, None, Ok}
use Rattle.event.specs.declared.Coord.{Coord}
use Rattle.event.specs.declared.Event.{Event}
use Rattle.event.specs.declared.Event.TheVariants.{Release, Press}
use Rattle.image.specs.Check.{check_of}
use Rattle.image.specs.Tree.{Action, Actions, NoOp, Trans, KeyCode, MultipleKeyCodes, MultipleActions, Layer, DefaultLayer, HoldTap, end, ◌&◌}
use Rattle.image.specs.Table.{Table, table_of}
use Rattle.image.specs.declared.words.Shape.{Shape}
use Rattle.layout.specs.Model.{Queued, Model, Waiting, Idle, Waits, age_of, with_waiting, with_queue}
use Rattle.layout.specs.Actions.{find, do_action, chosen}
use Rattle.layout.specs.Steps.{pressed, into_hold, releases, appended, entered, older}
use Rattle.layout.specs.Packed.{unpack}
use Rattle.layout.specs.State.{falling, state_good}
use Rattle.layout.specs.declared.notes.Way.{Way}
use Rattle.layout.specs.declared.notes.Way.TheVariants.{Tap, Hold}
use Rattle.layout.specs.declared.layout.Layout.{Layout}

-- a fact of a moment: the action that begins, its delay, the first queued release and the layout
abbrev pub Fact : Type 1
Fact = Action → ℕ → Option ℕ → Model → Type 0

-- nothing waits, whichever action it is
abbrev pub NothingWaits : Fact
NothingWaits a d f l = l.waiting ≡ Idle

-- the release that is found is no older than the delay
abbrev pub NoOlder : ℕ → Option ℕ → Type 0
NoOlder d None = Unit
NoOlder d (Some age) = age ≤ d

-- so the difference of delay and age, which a HoldTap alone takes, is not below 0
abbrev pub NotBelow : Fact
NotBelow NoOp d f l = Unit
NotBelow Trans d f l = Unit
NotBelow (KeyCode k) d f l = Unit
NotBelow (MultipleKeyCodes ks) d f l = Unit
NotBelow (MultipleActions actions) d f l = Unit
NotBelow (Layer v) d f l = Unit
NotBelow (DefaultLayer v) d f l = Unit
NotBelow (HoldTap i timeout hold tap) d f l = NoOlder d f

-- of the action itself, of each that it names, and of those that a decision runs
unfoldable mutual
  pub RunsSo : Fact → Action → ℕ → Coord → ℕ → Option ℕ → Model → Type 0
  RunsSo P NoOp n c d f l = P NoOp d f l
  RunsSo P Trans n c d f l = P Trans d f l
  RunsSo P (KeyCode k) n c d f l = P (KeyCode k) d f l
  RunsSo P (MultipleKeyCodes ks) n c d f l = P (MultipleKeyCodes ks) d f l
  RunsSo P (MultipleActions actions) n c d f l = P (MultipleActions actions) d f l × AllRunSo P actions n c d f l
  RunsSo P (Layer v) n c d f l = P (Layer v) d f l
  RunsSo P (DefaultLayer v) n c d f l = P (DefaultLayer v) d f l
  RunsSo P (HoldTap i timeout hold tap) n c d f l =
      P (HoldTap i timeout hold tap) d f l × RunsSo P tap n c 0 f (with_waiting Idle l) × RunsSo P hold n c 0 f (with_waiting Idle l)

  pub AllRunSo : Fact → Actions → ℕ → Coord → ℕ → Option ℕ → Model → Type 0
  AllRunSo P end n c d f l = Unit
  AllRunSo P (action & actions) n c d f l = RunsSo P action n c d f l × AllRunSo P actions n c d f (do_action action n c d f l).layout

-- an event is acted on
unfoldable pub ActSo : Fact → Table → Event → ℕ → Model → Type 0
ActSo P T (Release i j) age l = Unit
ActSo P T (Press i j) age l =
    let c : Coord = record { i = i; j = j } in
    RunsSo P (pressed T c l) T.layers c age (find c l.queue) l

-- what waits becomes hold, or tap
unfoldable pub IntoSo : Fact → Way → Table → Waiting → Model → Type 0
IntoSo P way T Idle l = Unit
IntoSo P way T (Waits c left i hold tap) l = RunsSo P (chosen way hold tap) T.layers c 0 (find c l.queue) (with_waiting Idle l)

-- event, with a full queue; before; and its end
unfoldable pub OverflowSo : Fact → Table → Queued → Model → Type 0
OverflowSo P T q l = IntoSo P Hold T l.waiting l × ActSo P T q.event (age_of q) (into_hold T l.waiting l).layout

unfoldable pub EnteredSo : Fact → Table → Event → List Queued → Model → Type 0
EnteredSo P T e [] l = Unit
EnteredSo P T e (q ∷ qs) l = ltb (length (q ∷ qs)) 16 ≡ false → OverflowSo P T q (with_queue (appended e qs) l)

unfoldable pub ReleasedSo : Fact → Table → Event → Model → Type 0
ReleasedSo P T e l = releases e l.waiting ≡ true → IntoSo P Tap T l.waiting l

unfoldable pub EventSo : Fact → Table → Event → Model → Type 0
EventSo P T e l = EnteredSo P T e l.queue l × ReleasedSo P T e (entered T e l.queue l).layout

-- tick, after the ages
unfoldable pub TickedSo : Fact → Table → Waiting → List Queued → Model → Type 0
TickedSo P T (Waits c left i hold tap) q l =
    left - 1 ≡ 0 → IntoSo P Hold T (Waits c (left - 1) i hold tap) (with_waiting (Waits c (left - 1) i hold tap) (with_queue q l))
TickedSo P T Idle [] l = Unit
TickedSo P T Idle (q ∷ qs) l = ActSo P T q.event (age_of q) (with_queue qs l)

unfoldable pub TickSo : Fact → Table → Model → Type 0
TickSo P T l = TickedSo P T l.waiting (older l.queue) l

-- of both calls on a layout
pub record CallsSo (P : Fact) (img : List ℕ) (lay : Layout) : Type 0 where
  pub event : (e : Event) → EventSo P (table_of img) e (unpack img lay)
  pub tick : TickSo P (table_of img) (unpack img lay)

unfoldable pub NeverWaits : Type 0
NeverWaits = (img : List ℕ) (shape : Shape) → check_of img ≡ Ok shape → (lay : Layout) → CallsSo NothingWaits img lay

unfoldable pub FirstYounger : Type 0
FirstYounger = (q : Queued) (qs : List Queued) → falling (q ∷ qs) ≡ true → (c : Coord) (age : ℕ) → find c qs ≡ Some age → age ≤ age_of q

unfoldable pub NeverBelow : Type 0
NeverBelow =
    (img : List ℕ) (shape : Shape) → check_of img ≡ Ok shape → (lay : Layout) → state_good img lay ≡ true → CallsSo NotBelow img lay
