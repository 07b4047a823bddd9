-- Nothing waits where an action begins, and where a HoldTap does the first queued release of its key is no older than its press.
-- Assumes nothing.
use Prim.Native.Nat.{ℕ, ◌≤◌}
use mathlib.Core.Path.{◌≡◌, refl, sym, subst, ◌∙◌}
use mathlib.Core.Bool.{Bool, true, false, cond, ◌&&◌, ◌||◌}
use mathlib.Core.List.{List, [], ◌∷◌}
use native.Mathlib.Omega.{arith}
use Rattle.std.specs.Prelude.{Option, Some, None}
use borrow.Author.Tests.{leb-true}
use lib.Dec.{leb}
use Rattle.lists.proofs.Laws.{both_true}
use Rattle.event.specs.declared.Coord.{Coord}
use Rattle.event.specs.declared.Event.{Event}
use Rattle.event.specs.declared.Event.TheVariants.{Release, Press}
use Rattle.image.specs.Tree.{Action, Actions, NoOp, Trans, KeyCode, MultipleKeyCodes, MultipleActions, Layer, DefaultLayer, HoldTap, end, ◌&◌}
use Rattle.image.specs.Proper.{closed, closed_all, Times, holdable, is_end, proper, proper_all}
use Rattle.image.specs.Sound.{Sound}
use Rattle.image.specs.Table.{Table, table_of, times_of}
use Rattle.image.proofs.Accepted.{accepted}
use Rattle.layout.specs.Model.{Queued, Model, Waiting, Idle, Waits, age_of, with_waiting, with_queue}
use Rattle.layout.specs.Actions.{is_release, find, do_action, chosen, decided}
use Rattle.layout.specs.Steps.{pressed, into, into_hold, appended, entered, older}
use Rattle.layout.specs.Packed.{unpack}
use Rattle.layout.specs.State.{falling}
use Rattle.layout.specs.Reach.{waits_in}
use Rattle.layout.specs.Asserted.{Fact, NothingWaits, NoOlder, NotBelow, RunsSo, AllRunSo, ActSo, IntoSo, OverflowSo, EnteredSo, ReleasedSo, EventSo, TickedSo, TickSo, CallsSo, NeverWaits, FirstYounger, NeverBelow}
use Rattle.layout.specs.declared.notes.Way.{Way}
use Rattle.layout.specs.declared.notes.Way.TheVariants.{Tap, Hold}
use Rattle.layout.specs.declared.layout.Layout.{Layout}
use Rattle.layout.proofs.Running.{kept, pressed_proper}
use Rattle.layout.proofs.Lawful.{falling_older, falling_new}
use Rattle.layout.proofs.Reach.{good_lawful}
use Rattle.layout.proofs.Limits.{Calm, spare, Weights, weighted, within_entered, proper_cells, calm_held}

-- a fact that holds of a closed action whenever nothing waits
module _ (P : Fact) (shut : (a : Action) → closed a ≡ true → (d : ℕ) (f : Option ℕ) (k : Model) → k.waiting ≡ Idle → P a d f k) where
  -- so it does wherever the run of one comes to an action, since nothing waits after any of them
  mutual
    unfolding closed RunsSo

    closed_so : (a : Action) (n : ℕ) (c : Coord) (d : ℕ) (f : Option ℕ) (l : Model) → closed a ≡ true → l.waiting ≡ Idle → RunsSo P a n c d f l
    closed_so NoOp n c d f l t e = shut NoOp t d f l e
    closed_so Trans n c d f l t e = shut Trans t d f l e
    closed_so (KeyCode k) n c d f l t e = shut (KeyCode k) t d f l e
    closed_so (MultipleKeyCodes ks) n c d f l t e = shut (MultipleKeyCodes ks) t d f l e
    closed_so (MultipleActions as') n c d f l t e = (shut (MultipleActions as') t d f l e, all_closed_so as' n c d f l t e)
    closed_so (Layer v) n c d f l t e = shut (Layer v) t d f l e
    closed_so (DefaultLayer v) n c d f l t e = shut (DefaultLayer v) t d f l e
    closed_so (HoldTap i x h p) n c d f l t e = let z : ◌≡◌ {A = ℕ} 0 1 = cc in absurd (omega arith)

    all_closed_so : (as' : Actions) (n : ℕ) (c : Coord) (d : ℕ) (f : Option ℕ) (l : Model) → closed_all as' ≡ true → l.waiting ≡ Idle → AllRunSo P as' n c d f l
    all_closed_so end n c d f l t e = tt
    all_closed_so (a & as') n c d f l t e =
        let u = both_true (closed a) (closed_all as') t in
        (closed_so a n c d f l u.0 e, all_closed_so as' n c d f (do_action a n c d f l).layout u.1 ((kept a n c d f l u.0).waiting ∙ e))

  -- either the entry is closed, and nothing waits after it, or it is the last
  rest_so : (a : Action) (as' : Actions) (n : ℕ) (c : Coord) (d : ℕ) (f : Option ℕ) (l : Model) (b : Bool) → closed a ≡ b → b || is_end as' ≡ true → l.waiting ≡ Idle
      → ((k : Model) → k.waiting ≡ Idle → AllRunSo P as' n c d f k) → AllRunSo P as' n c d f (do_action a n c d f l).layout
  unfolding RunsSo
  rest_so a as' n c d f l true ea t e next = next (do_action a n c d f l).layout ((kept a n c d f l ea).waiting ∙ e)
  rest_so a end n c d f l false ea t e next = tt
  rest_so a (b & bs) n c d f l false ea t e next = let z : ◌≡◌ {A = ℕ} 0 1 = cc in absurd (omega arith)

  -- an action of an accepted table, where the fact holds of its delay whenever nothing waits
  mutual
    unfolding proper holdable RunsSo

    proper_so : (a : Action) (m : Times) (n : ℕ) (c : Coord) (d : ℕ) (f : Option ℕ) (l : Model) → proper a m ≡ true → l.waiting ≡ Idle → ((a : Action) (k : Model) → k.waiting ≡ Idle → P a d f k) → RunsSo P a n c d f l
    proper_so NoOp m n c d f l t e y = y NoOp l e
    proper_so Trans m n c d f l t e y = y Trans l e
    proper_so (KeyCode k) m n c d f l t e y = y (KeyCode k) l e
    proper_so (MultipleKeyCodes ks) m n c d f l t e y = y (MultipleKeyCodes ks) l e
    proper_so (MultipleActions as') m n c d f l t e y = (y (MultipleActions as') l e, all_proper_so as' m n c d f l t e y)
    proper_so (Layer v) m n c d f l t e y = y (Layer v) l e
    proper_so (DefaultLayer v) m n c d f l t e y = y (DefaultLayer v) l e
    proper_so (HoldTap i x h p) m n c d f l t e y =
        let u = both_true (leb x m.first) (closed h && closed p) t in
        let v = both_true (closed h) (closed p) u.1 in
        (y (HoldTap i x h p) l e, closed_so p n c 0 f (with_waiting Idle l) v.1 refl, closed_so h n c 0 f (with_waiting Idle l) v.0 refl)

    all_proper_so : (as' : Actions) (m : Times) (n : ℕ) (c : Coord) (d : ℕ) (f : Option ℕ) (l : Model) → proper_all as' m ≡ true → l.waiting ≡ Idle → ((a : Action) (k : Model) → k.waiting ≡ Idle → P a d f k) → AllRunSo P as' n c d f l
    all_proper_so end m n c d f l t e y = tt
    all_proper_so (a & as') m n c d f l t e y =
        let u = both_true ((closed a || is_end as') && proper a m) (proper_all as' m) t in
        let v = both_true (closed a || is_end as') (proper a m) u.0 in
        (proper_so a m n c d f l v.1 e y, rest_so a as' n c d f l (closed a) refl v.0 e (λ k ek. all_proper_so as' m n c d f k u.1 ek y))

  -- the fact holds of an event acted on while nothing waits, with these behind it in the queue
  Holds : ℕ → List Queued → Type 0
  Holds age qs = (a : Action) (c : Coord) (k : Model) → k.waiting ≡ Idle → P a age (find c qs) k

  module _ (T : Table) (m : Times) (ok : (layer row column : ℕ) → proper (T.cell layer row column) m ≡ true) where
    act_so : (e : Event) (age : ℕ) (l : Model) → l.waiting ≡ Idle → Holds age l.queue → ActSo P T e age l
    unfolding ActSo Holds
    act_so (Release i j) age l e y = tt
    act_so (Press i j) age l e y =
        let c : Coord = record { i = i; j = j } in
        proper_so (pressed T c l) m T.layers c age (find c l.queue) l (pressed_proper T m ok c l) e (λ a k. y a c k)

    chosen_so : (way : Way) (h p : Action) → closed h ≡ true → closed p ≡ true → closed (chosen way h p) ≡ true
    chosen_so Tap h p eh ep = ep
    chosen_so Hold h p eh ep = eh

    into_so : (way : Way) (x : Waiting) (l : Model) → Calm x → IntoSo P way T x l
    unfolding IntoSo
    into_so way Idle l c = tt
    into_so way (Waits k left i h p) l c = closed_so (chosen way h p) T.layers k 0 (find k l.queue) (with_waiting Idle l) (chosen_so way h p c.0 c.1) refl

    into_idle : (x : Waiting) (l : Model) → l.waiting ≡ x → Calm x → ((into_hold T x l).layout.queue ≡ l.queue) × ((into_hold T x l).layout.waiting ≡ Idle)
    unfolding into decided
    into_idle Idle l e c = (refl, e)
    into_idle (Waits k left i h p) l e c = let y = kept h T.layers k 0 (find k l.queue) (with_waiting Idle l) c.0 in (y.queue, y.waiting)

    overflow_so : (q : Queued) (l : Model) → Calm l.waiting → Holds (age_of q) l.queue → OverflowSo P T q l
    unfolding OverflowSo
    overflow_so q l c y =
        let r = into_idle l.waiting l refl c in
        (into_so Hold l.waiting l c, act_so q.event (age_of q) (into_hold T l.waiting l).layout r.1 (subst (Holds (age_of q)) (sym r.0) y))

    entered_so : (e : Event) (qs : List Queued) (l : Model) → Calm l.waiting → ((q : Queued) (rest : List Queued) → qs ≡ q ∷ rest → Holds (age_of q) (appended e rest)) → EnteredSo P T e qs l
    unfolding EnteredSo
    entered_so e [] l c y = tt
    entered_so e (q ∷ qs) l c y = λ full. overflow_so q (with_queue (appended e qs) l) c (y q qs refl)

    event_so : (e : Event) (l : Model) → Calm l.waiting → ((q : Queued) (rest : List Queued) → l.queue ≡ q ∷ rest → Holds (age_of q) (appended e rest)) → EventSo P T e l
    unfolding EventSo ReleasedSo
    event_so e l c y =
        let w : Weights = record { acted = 0; begun = 0; decided = 0 } in
        (entered_so e l.queue l c y, λ up. into_so Tap (entered T e l.queue l).layout.waiting (entered T e l.queue l).layout (within_entered T _ Calm (spare w) _ (weighted T m ok w) e l.queue l c).fine)

    ticked_so : (x : Waiting) (qs : List Queued) (l : Model) → l.waiting ≡ x → Calm x → ((q : Queued) (rest : List Queued) → qs ≡ q ∷ rest → Holds (age_of q) rest) → TickedSo P T x qs l
    unfolding TickedSo
    ticked_so (Waits k left i h p) qs l e c y = λ up. into_so Hold _ _ c
    ticked_so Idle [] l e c y = tt
    ticked_so Idle (q ∷ qs) l e c y = act_so q.event (age_of q) (with_queue qs l) e (y q qs refl)

  calls_so : (img : List ℕ) (lay : Layout) → Sound img
      → ((e : Event) (q : Queued) (rest : List Queued) → (unpack img lay).queue ≡ q ∷ rest → Holds (age_of q) (appended e rest))
      → ((q : Queued) (rest : List Queued) → older (unpack img lay).queue ≡ q ∷ rest → Holds (age_of q) rest) → CallsSo P img lay
  unfolding TickSo
  calls_so img lay s y z =
      let l = unpack img lay in
      let calm : Calm l.waiting = calm_held img (waits_in lay) s in
      record {
        event = λ e. event_so (table_of img) (times_of img) (proper_cells img s) e l calm (y e);
        tick = ticked_so (table_of img) (times_of img) (proper_cells img s) l.waiting (older l.queue) l refl calm z;
      }

pub never_waits : NeverWaits
unfolding NeverWaits Holds
never_waits img shape e lay =
    calls_so NothingWaits (λ a t d f k idle. idle) img lay (accepted img shape e).1 (λ x q rest i a c k idle. idle) (λ q rest i a c k idle. idle)

no_older : (j k : ℕ) (f : Option ℕ) → j ≤ k → NoOlder j f → NoOlder k f
no_older j k None h x = tt
no_older j k (Some age) h x = omega arith

-- in a queue whose ages fall, the first release is no older than what stands before it
younger : (q : Queued) (qs : List Queued) (c : Coord) → falling (q ∷ qs) ≡ true → NoOlder (age_of q) (find c qs)
unfolding falling find
younger q [] c h = tt
younger q (r ∷ qs) c h =
    let b = both_true (leb (age_of r) (age_of q)) (falling (r ∷ qs)) h in
    let le = leb-true (age_of r) (age_of q) b.0 in
    go (is_release c r.event) le (no_older (age_of r) (age_of q) (find c qs) le (younger r qs c b.1))
  where
    go : (t : Bool) → age_of r ≤ age_of q → NoOlder (age_of q) (find c qs) → NoOlder (age_of q) (cond t (Some (age_of r)) (find c qs))
    go true le x = le
    go false le x = x

pub first_younger : FirstYounger
unfolding FirstYounger
first_younger q qs h c age e = subst (NoOlder (age_of q)) e (younger q qs c h)

-- a closed action takes no difference, and any other action at most this one
closed_below : (a : Action) → closed a ≡ true → (d : ℕ) (f : Option ℕ) (l : Model) → NotBelow a d f l
unfolding closed
closed_below NoOp t d f l = tt
closed_below Trans t d f l = tt
closed_below (KeyCode k) t d f l = tt
closed_below (MultipleKeyCodes ks) t d f l = tt
closed_below (MultipleActions as') t d f l = tt
closed_below (Layer v) t d f l = tt
closed_below (DefaultLayer v) t d f l = tt
closed_below (HoldTap i x h p) t d f l = let z : ◌≡◌ {A = ℕ} 0 1 = cc in absurd (omega arith)

not_below : (a : Action) (d : ℕ) (f : Option ℕ) (l : Model) → NoOlder d f → NotBelow a d f l
not_below NoOp d f l x = tt
not_below Trans d f l x = tt
not_below (KeyCode k) d f l x = tt
not_below (MultipleKeyCodes ks) d f l x = tt
not_below (MultipleActions as') d f l x = tt
not_below (Layer v) d f l x = tt
not_below (DefaultLayer v) d f l x = tt
not_below (HoldTap i t h p) d f l x = x

pub never_below : NeverBelow
unfolding NeverBelow Holds
never_below img shape e lay g =
    let s = (accepted img shape e).1 in
    let l = unpack img lay in
    let ages = (good_lawful img lay s g).ages in
    calls_so NotBelow (λ a t d f k idle. closed_below a t d f k) img lay s
    (λ x q rest i a c k idle. not_below a (age_of q) _ k (younger q (appended x rest) c (falling_new x (q ∷ rest) (rw i at ages))))
    (λ q rest i a c k idle. not_below a (age_of q) _ k (younger q rest c (rw i at (falling_older l.queue ages))))
