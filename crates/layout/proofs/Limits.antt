-- The limits of a call, over a measure of what steps do: of decisions, of events acted on, and of whatever else adds up.
--     Measured      what is asked of a measure: of an event that is acted on, and of a hold-tap that is decided
--     event-within, tick-within      what a call then comes to
--     weighted      marks weighed by their kind are such a measure over every proper table
--     at_most       so a call acts on one event and makes two decisions at most
-- Assumes nothing.
use Prim.Native.Nat.{ℕ, zero, suc, ◌+◌, ◌-◌, ◌≤◌}
use mathlib.Core.Path.{◌≡◌, refl}
use mathlib.Core.Bool.{Bool, true, false, cond, not}
use mathlib.Core.List.{List, [], ◌∷◌, ◌++◌}
use native.Mathlib.Omega.{arith}
use native.Mathlib.Nat.{le_refl}
use lib.Dec.{ltb}
use lib.ListN.{length}
use lib.Ieee.Bits.{is_true}
use Rattle.lists.proofs.Laws.{both_true}
use Rattle.event.specs.declared.Coord.{Coord}
use Rattle.event.specs.declared.Event.{Event}
use Rattle.event.specs.declared.Event.TheVariants.{Release, Press}
use Rattle.image.specs.Tree.{Action, NoOp, Trans, KeyCode, MultipleKeyCodes, MultipleActions, Layer, DefaultLayer, HoldTap, tree, open?, opens_last}
use Rattle.image.specs.Proper.{closed, Times, holdable, proper}
use Rattle.image.specs.Sound.{Sound}
use Rattle.image.specs.Table.{Table, table_of, times_of}
use Rattle.image.proofs.Accepted.{accepted, settles, open_closed, proper_table}
use Rattle.layout.specs.Model.{Queued, Model, Waiting, Idle, Waits, Mark, Acted, Begun, Decided, Done, age_of, still, after, with_waiting, with_queue}
use Rattle.layout.specs.Actions.{find, decided}
use Rattle.layout.specs.Steps.{pressed, act, into, into_hold, into_tap, releases, released, overflow, appended, entered, event, older, tick_wait, ticked, tick}
use Rattle.layout.specs.Packed.{waiting_of, hold_of, tap_of, unpack}
use Rattle.layout.specs.Notes.{decisions, acted_on}
use Rattle.layout.specs.Limits.{Limits, Limited, AtMost}
use Rattle.layout.specs.Reach.{waits_in}
use Rattle.layout.specs.declared.notes.Way.{Way}
use Rattle.layout.specs.declared.notes.Way.TheVariants.{Tap, Hold}
use Rattle.layout.specs.declared.active.WaitingState.{WaitingState}
use Rattle.std.specs.Prelude.{Option, Some, None}
use Rattle.layout.specs.declared.layout.Layout.{Layout}
use Rattle.layout.proofs.Running.{kept, Comes, nothing, begun, settled, ran, pressed_proper}

-- a measure of what is done, where `spare` is what a hold-tap that waits may still come to: acting on an event comes to `most`
-- at most, what it leaves waiting counted; and deciding what waits to its spare at most, and then nothing waits
pub record Measured (T : Table) (measure : Done → ℕ) (Fine : Waiting → Type 0) (spare : Waiting → ℕ) (most : ℕ) : Type 0 where
  pub nothing : (l : Model) → measure (still l) ≡ 0
  pub adds : (r s : Done) → measure (after r s) ≡ measure r + measure s
  pub acts : (e : Event) (age : ℕ) (l : Model) → l.waiting ≡ Idle → let r = act T e age l in Fine r.layout.waiting × (measure r + spare r.layout.waiting ≤ most)
  pub decides : (way : Way) (l : Model) → Fine l.waiting → let r = into way T l.waiting l in (measure r ≤ spare l.waiting) × (r.layout.waiting ≡ Idle)
  pub sooner : (c : Coord) (j k i : ℕ) (h p : Action) → Fine (Waits c k i h p) → Fine (Waits c j i h p) × (spare (Waits c j i h p) ≤ spare (Waits c k i h p))

module _ (T : Table) (measure : Done → ℕ) (Fine : Waiting → Type 0) (spare : Waiting → ℕ) (most : ℕ) (x : Measured T measure Fine spare most) where
  -- of a budget, with what waits behind it counted
  pub record Within (budget : ℕ) (r : Done) : Type 0 where
    pub fine : Fine r.layout.waiting
    all : measure r + spare r.layout.waiting ≤ budget

  within_overflow : (q : Queued) (l : Model) → Fine l.waiting → Within (most + spare l.waiting) (overflow T q l)
  unfolding overflow
  within_overflow q l f =
      let r = into_hold T l.waiting l in
      let h = x.decides Hold l f in
      let a = x.acts q.event (age_of q) r.layout h.1 in
      record { fine = a.0; all = omega (arith, x.adds r (act T q.event (age_of q) r.layout), h.0, a.1) }

  within_still : (q : List Queued) (l : Model) → Fine l.waiting → Within (most + spare l.waiting) (still (with_queue q l))
  within_still q l f = record { fine = f; all = omega (arith, x.nothing (with_queue q l)) }

  pub within_entered : (e : Event) (q : List Queued) (l : Model) → Fine l.waiting → Within (most + spare l.waiting) (entered T e q l)
  unfolding entered
  within_entered e [] l f = within_still (appended e []) l f
  within_entered e (q ∷ qs) l f = go (ltb (length (q ∷ qs)) 16)
    where
      go : (b : Bool) → Within (most + spare l.waiting) (cond b (still (with_queue (appended e (q ∷ qs)) l)) (overflow T q (with_queue (appended e qs) l)))
      go true = within_still (appended e (q ∷ qs)) l f
      go false = within_overflow q (with_queue (appended e qs) l) f

  within_released : (e : Event) (l : Model) → Fine l.waiting → measure (released T e l) ≤ spare l.waiting
  unfolding released
  within_released e l f = go (releases e l.waiting)
    where
      go : (b : Bool) → measure (cond b (into_tap T l.waiting l) (still l)) ≤ spare l.waiting
      go true = (x.decides Tap l f).0
      go false = omega (arith, x.nothing l)

  pub event_within : (e : Event) (l : Model) → Fine l.waiting → measure (event T e l) ≤ most + spare l.waiting
  unfolding event
  event_within e l f =
      let r = entered T e l.queue l in
      let w = within_entered e l.queue l f in
      omega (arith, x.adds r (released T e r.layout), w.all, within_released e r.layout w.fine)

  within_wait : (k : ℕ) (l : Model) → Fine l.waiting → measure (tick_wait T k l) ≤ spare l.waiting
  within_wait zero l f = (x.decides Hold l f).0
  within_wait (suc k) l f = omega (arith, x.nothing l)

  within_ticked : (w : Waiting) (q : List Queued) (l : Model) → l.waiting ≡ w → Fine w → (b : ℕ) → most ≤ b → spare w ≤ b → measure (ticked T w q l) ≤ b
  unfolding ticked
  within_ticked (Waits c k i h p) q l e f b m s =
      let y = x.sooner c (k - 1) k i h p f in
      omega (arith, y.1, within_wait (k - 1) (with_waiting (Waits c (k - 1) i h p) (with_queue q l)) y.0)
  within_ticked Idle [] l e f b m s = omega (arith, x.nothing (with_queue [] l))
  within_ticked Idle (q ∷ qs) l e f b m s = omega (arith, (x.acts q.event (age_of q) (with_queue qs l) e).1)

  pub tick_within : (l : Model) → Fine l.waiting → (b : ℕ) → most ≤ b → spare l.waiting ≤ b → measure (tick T l) ≤ b
  unfolding tick
  tick_within l f b m s = within_ticked l.waiting (older l.queue) l refl f b m s

-- what a mark of each kind weighs
pub record Weights : Type 0 where
  pub acted : ℕ
  pub begun : ℕ
  pub decided : ℕ

abbrev weigh : Weights → Mark → ℕ
weigh w (Acted e) = w.acted
weigh w (Begun c) = w.begun
weigh w (Decided c way) = w.decided

unfoldable pub weighed : Weights → List Mark → ℕ
weighed w [] = 0
weighed w (m ∷ ms) = weigh w m + weighed w ms

weighed_append : (w : Weights) (a b : List Mark) → weighed w (a ++ b) ≡ weighed w a + weighed w b
unfolding weighed
weighed_append w [] b = omega arith
weighed_append w (m ∷ a) b = omega (arith, weighed_append w a b)

-- what waits has a hold and a tap that are not open
abbrev pub Calm : Waiting → Type 0
Calm Idle = Unit
Calm (Waits c k i h p) = (closed h ≡ true) × (closed p ≡ true)

abbrev pub spare : Weights → Waiting → ℕ
spare w Idle = 0
spare w (Waits c k i h p) = w.decided

comes_weighed : (w : Weights) {m : Times} {c : Coord} {d : ℕ} {ms : List Mark} {x : Waiting} → Comes m c d ms x → Calm x × (weighed w ms + spare w x ≤ w.begun + w.decided)
unfolding weighed holdable
comes_weighed w nothing = (tt, omega arith)
comes_weighed w (begun t i h p le th tp) = ((th, tp), omega arith)
comes_weighed w (settled way) = (tt, omega arith)

module _ (T : Table) (m : Times) (ok : (layer row column : ℕ) → proper (T.cell layer row column) m ≡ true) (w : Weights) where
  act_weighed : (e : Event) (age : ℕ) (l : Model) → l.waiting ≡ Idle → let r = act T e age l in Calm r.layout.waiting × (weighed w r.marks + spare w r.layout.waiting ≤ w.acted + w.begun + w.decided)
  unfolding act weighed
  act_weighed (Release i j) age l e = rw e (tt, omega arith)
  act_weighed (Press i j) age l e =
      let c : Coord = record { i = i; j = j } in
      let y = comes_weighed w (ran (pressed T c l) m T.layers c age (find c l.queue) l (pressed_proper T m ok c l) e).comes in
      (y.0, omega (arith, y.1))

  into_weighed : (way : Way) (x : Waiting) (l : Model) → l.waiting ≡ x → Calm x → let r = into way T x l in (weighed w r.marks ≤ spare w x) × (r.layout.waiting ≡ Idle)
  unfolding into decided weighed
  into_weighed way Idle l e c = (omega arith, e)
  into_weighed Tap (Waits k left i h p) l e c = let y = kept p T.layers k 0 (find k l.queue) (with_waiting Idle l) c.1 in (rw y.marks (omega arith), y.waiting)
  into_weighed Hold (Waits k left i h p) l e c = let y = kept h T.layers k 0 (find k l.queue) (with_waiting Idle l) c.0 in (rw y.marks (omega arith), y.waiting)

  pub weighted : Measured T (λ r. weighed w r.marks) Calm (spare w) (w.acted + w.begun + w.decided)
  unfolding weighed
  weighted =
      record {
        nothing = λ l. refl;
        adds = λ r s. weighed_append w r.marks s.marks;
        acts = act_weighed;
        decides = λ way l c. into_weighed way l.waiting l refl c;
        sooner = λ c j k i h p f. (f, le_refl w.decided);
      }

-- events acted on, and decisions, by their weights
abbrev event_weights : Weights
event_weights = record { acted = 1; begun = 0; decided = 0 }

abbrev decision_weights : Weights
decision_weights = record { acted = 0; begun = 0; decided = 1 }

count_acted : (ms : List Mark) → weighed event_weights ms ≡ length (acted_on ms)
unfolding weighed acted_on
count_acted [] = refl
count_acted (Acted e ∷ ms) = omega (arith, count_acted ms)
count_acted (Begun c ∷ ms) = omega (arith, count_acted ms)
count_acted (Decided c way ∷ ms) = omega (arith, count_acted ms)

count_decisions : (ms : List Mark) → weighed decision_weights ms ≡ length (decisions ms)
unfolding weighed decisions
count_decisions [] = refl
count_decisions (Acted e ∷ ms) = omega (arith, count_decisions ms)
count_decisions (Begun c ∷ ms) = omega (arith, count_decisions ms)
count_decisions (Decided c way ∷ ms) = omega (arith, count_decisions ms)

spare_most : (w : Weights) (x : Waiting) → spare w x ≤ w.decided
spare_most w Idle = omega arith
spare_most w (Waits c k i h p) = omega arith

module _ (T : Table) (m : Times) (ok : (layer row column : ℕ) → proper (T.cell layer row column) m ≡ true) (l : Model) (calm : Calm l.waiting) where
  event_weight : (w : Weights) (e : Event) → weighed w (event T e l).marks ≤ w.acted + w.begun + w.decided + w.decided
  event_weight w e = omega (arith, event_within T _ Calm (spare w) _ (weighted T m ok w) e l calm, spare_most w l.waiting)

  tick_weight : (w : Weights) → weighed w (tick T l).marks ≤ w.acted + w.begun + w.decided
  tick_weight w = tick_within T _ Calm (spare w) _ (weighted T m ok w) l calm _ (le_refl _) (omega (arith, spare_most w l.waiting))

  pub event_limits : (e : Event) → Limits 2 (event T e l).marks
  event_limits e =
      record {
        acts = omega (arith, count_acted (event T e l).marks, event_weight event_weights e);
        decides = omega (arith, count_decisions (event T e l).marks, event_weight decision_weights e);
      }

  pub tick_limits : Limits 1 (tick T l).marks
  tick_limits =
      record {
        acts = omega (arith, count_acted (tick T l).marks, tick_weight event_weights);
        decides = omega (arith, count_decisions (tick T l).marks, tick_weight decision_weights);
      }

-- every cell of an accepted table is proper, and what waits in a layout over it is looked up in it
pub proper_cells : (img : List ℕ) → Sound img → (layer row column : ℕ) → proper ((table_of img).cell layer row column) (times_of img) ≡ true
proper_cells img s layer row column = is_true (proper ((table_of img).cell layer row column) (times_of img)) (proper_table img layer row column s)

calm_tree : (a : Action) → opens_last a ≡ true → (closed (hold_of a) ≡ true) × (closed (tap_of a) ≡ true)
unfolding opens_last closed
calm_tree NoOp s = (refl, refl)
calm_tree Trans s = (refl, refl)
calm_tree (KeyCode x) s = (refl, refl)
calm_tree (MultipleKeyCodes xs) s = (refl, refl)
calm_tree (MultipleActions actions) s = (refl, refl)
calm_tree (Layer v) s = (refl, refl)
calm_tree (DefaultLayer v) s = (refl, refl)
calm_tree (HoldTap j t h p) s = let b = both_true (not (open? h)) (not (open? p)) s in (rw (open_closed h) b.0, rw (open_closed p) b.1)

pub calm_held : (img : List ℕ) (w : Option WaitingState) → Sound img → Calm (waiting_of img w)
calm_held img None s = tt
calm_held img (Some w) s = calm_tree (tree img w.number) (settles img w.number s)

pub limited : (img : List ℕ) (lay : Layout) → Sound img → Limited img lay
limited img lay s =
    let calm : Calm (unpack img lay).waiting = calm_held img (waits_in lay) s in
    record {
      event = event_limits (table_of img) (times_of img) (proper_cells img s) (unpack img lay) calm;
      tick = tick_limits (table_of img) (times_of img) (proper_cells img s) (unpack img lay) calm;
    }

pub at_most : AtMost
unfolding AtMost
at_most img shape e lay = limited img lay (accepted img shape e).1
