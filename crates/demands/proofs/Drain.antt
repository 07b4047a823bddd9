-- Ticks alone empty the queue: the count of Cost.antt falls by one a tick. Demand 3; document 01, Layout, tick.
-- Assumes nothing.
use Prim.Native.Nat.{ℕ, zero, suc, ◌-◌, ◌≤◌, min}
use mathlib.Core.Path.{◌≡◌, refl}
use mathlib.Core.Bool.{Bool}
use mathlib.Core.List.{List, [], ◌∷◌}
use native.Mathlib.Omega.{arith}
use lib.ListN.{length, length-map}
use Rattle.event.specs.declared.Coord.{Coord}
use Rattle.image.specs.Proper.{Times}
use Rattle.image.specs.Table.{Table}
use Rattle.layout.specs.Model.{Queued, Waiting, Idle, Waits, Model, age_of, with_waiting, with_queue}
use Rattle.layout.specs.Steps.{act, older, tick_wait, ticked, tick}
use Rattle.demands.specs.Runs.{call, run, ticks}
use Rattle.demands.specs.Words.{bound}
use Rattle.demands.proofs.Cost.{cost, share, each, cost_idle, cost_pos, cost_less, cost_tick, Due, due_acted, due_start}
use Rattle.demands.proofs.Proper.{Proper, Quiet}
use Rattle.demands.proofs.Waits.{Good, good_cost}
use Rattle.demands.proofs.Calls.{Fit, fit_wait, acts, expires, goes_tick}

-- n ticks into the draining, every queued age is at least n, or stands at 65,535
unfoldable Old : ℕ → List Queued → Type 0
Old n [] = Unit {0}
Old n (q ∷ qs) = (min n 65535 ≤ age_of q) × Old n qs

old_zero : (qs : List Queued) → Old 0 qs
unfolding Old
old_zero [] = tt
old_zero (q ∷ qs) = (omega arith, old_zero qs)

old_older : (n : ℕ) (qs : List Queued) → Old n qs → Old (suc n) (older qs)
unfolding Old
old_older n [] o = tt
old_older n (q ∷ qs) o = (omega (arith, o.0), old_older n qs o.1)

pub record Draining (m : Times) (n r : ℕ) (l : Model) : Type 0 where
  old : Old n l.queue
  due : Due m n r (cost m l.waiting) (length l.queue)

module _ (t : Table) (m : Times) (ok : Proper t m) where
  -- what waits comes to cost at most y
  drains_to : (n r x y : ℕ) (q : List Queued) (k : Model) → k.queue ≡ q → cost m k.waiting ≤ y → suc y ≤ x → Old (suc n) q → Due m n (suc r) x (length q) → Draining m (suc n) r k
  drains_to n r x y q k eq le lt o d = record { old = rw eq o; due = rw eq (record { soon = omega arith; late = omega arith }) }

  drains_wait : (n r : ℕ) (h : Coord → Bool) (j x : ℕ) (k : Model) → Fit m h k → Old (suc n) k.queue → Due m n (suc r) x (length k.queue)
      → (j ≡ 0 → (1 ≤ cost m k.waiting) × (cost m k.waiting ≤ x)) → ((i : ℕ) → j ≡ suc i → suc (cost m k.waiting) ≤ x) → Draining m (suc n) r (tick_wait t j k).layout
  drains_wait n r h zero x k f o d p q =
      let z = expires t m _ h k k.waiting refl f.wait f.down in
      let u = p refl in
      drains_to n r x (cost m k.waiting - 1) k.queue _ z.queue (good_cost m _ h _ z.wait) (omega arith) o d
  drains_wait n r h (suc j) x k f o d p q = drains_to n r x (cost m k.waiting) k.queue k refl (omega arith) (q j refl) o d

  drains_ticked : (n r : ℕ) (h : Coord → Bool) (l : Model) → Fit m h l → (w : Waiting) → l.waiting ≡ w → (q : List Queued) → Old (suc n) q → Due m n (suc r) (cost m w) (length q)
      → Draining m (suc n) r (ticked t w q l).layout
  unfolding ticked Old
  drains_ticked n r h l f (Waits c k i a b) e q o d =
      drains_wait n r h (k - 1) (cost m (Waits c k i a b)) (with_waiting (Waits c (k - 1) i a b) (with_queue q l)) (fit_wait t m ok h l c k (k - 1) i a b q (omega arith) e f) o d
      (λ z. (cost_pos m c i a b (k - 1), cost_less m c i a b (k - 1) k (omega arith))) (λ j z. cost_tick m c i a b j k z)
  drains_ticked n r h l f Idle e [] o d = let z = cost_idle m l.waiting e in let y = cost_idle m Idle refl in record { old = tt; due = record { soon = omega arith; late = omega arith } }
  drains_ticked n r h l f Idle e (q ∷ qs) o d =
      let s = act t q.event (age_of q) (with_queue qs l) in
      let y = acts t m ok q.event (age_of q) h (with_queue qs l) e f.down in
      record {
        old = rw y.queue o.1;
        due = rw y.queue (due_acted m n r (age_of q) (cost m s.layout.waiting) (length qs) ok.word (good_cost m (share m (age_of q)) _ s.layout.waiting y.wait) o.0 (rw (cost_idle m Idle refl) at d));
      }

  drains_tick : (n r : ℕ) (h : Coord → Bool) (l : Model) → Fit m h l → Draining m n (suc r) l → Draining m (suc n) r (tick t l).layout
  unfolding tick
  drains_tick n r h l f x = drains_ticked n r h l f l.waiting refl (older l.queue) (old_older n l.queue x.old) (rw length-map x.due)

  quiet_due : (n : ℕ) (w : Waiting) (q : List Queued) → Due m n 0 (cost m w) (length q) → (q ≡ []) × (w ≡ Idle)
  unfolding each
  quiet_due n Idle [] d = (refl, refl)
  quiet_due n Idle (x ∷ q) d = absurd (omega arith)
  quiet_due n (Waits c k i a b) q d = absurd (omega (arith, cost_pos m c i a b k))

  pub drains : (r n : ℕ) (h : Coord → Bool) (l : Model) → Fit m h l → Draining m n r l → Quiet (run t (ticks r) l).layout
  unfolding run call ticks
  drains zero n h l f x = let y = quiet_due n l.waiting l.queue x.due in record { empty = y.0; idle = y.1 }
  drains (suc r) n h l f x = drains r (suc n) _ (tick t l).layout (goes_tick t m ok h l f).fit (drains_tick n r h l f x)

pub draining_start : (m : Times) (r : ℕ) (h : Coord → Bool) (l : Model) → Good m (share m 0) h l.waiting → bound (length l.queue) m ≤ r → Draining m 0 r l
draining_start m r h l g b = record { old = old_zero l.queue; due = due_start m r (cost m l.waiting) (length l.queue) (good_cost m (share m 0) h l.waiting g) b }
