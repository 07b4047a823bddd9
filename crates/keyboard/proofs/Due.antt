-- What a user wants of the idle clock: at rate n, from the start of a period and with no change and no Set_Idle, a report is due at
-- every 4n-th clock call and at no other; at rate 0 at none: `specs/Idle.antt`. Assumes nothing.
use Prim.Native.Nat.{ℕ, zero, suc, ◌+◌, ◌*◌, ◌%◌, ◌<◌, ◌≤◌}
use mathlib.Core.Bool.{Bool, true, false, cond}
use mathlib.Core.Path.{◌≡◌, refl, sym, ap, ◌∙◌}
use native.Mathlib.Nat.{zero-mod, mod-lt, suc-mod, mod_self, mod-eq_of_lt, min-eq_left}
use native.Mathlib.Numerals.{add-one}
use native.Mathlib.Omega.{arith}
use borrow.Author.Tests.{ne_eqb, le-leb, lt-leb, leb-true, leb-false}
use lib.Dec.{eqb, leb}
use Rattle.keyboard.specs.Idle.{with_idle, counted, is_due, clocked, clocks, NeverDue, DueAt}
use Rattle.keyboard.specs.declared.Keyboard.{Keyboard}
use Rattle.keyboard.specs.declared.Clocked.{Clocked}

-- at rate 0: a call leaves the rate as it is, and is not due
rate_kept : (k : Keyboard) → (clocked k).keyboard.idle ≡ k.idle
unfolding clocked
rate_kept k = go (is_due k)
  where
    go : (due : Bool)
        → (cond {A = Clocked} due (record { due = true; keyboard = with_idle k k.idle 0 }) (record { due = false; keyboard = with_idle k k.idle (counted k) })).keyboard.idle
        ≡ k.idle
    go true = refl
    go false = refl

rate_after : (j : ℕ) (k : Keyboard) → (clocks j k).idle ≡ k.idle
unfolding clocks
rate_after zero k = refl
rate_after (suc j) k = rate_kept (clocks j k) ∙ rate_after j k

none_due : (k : Keyboard) → k.idle ≡ 0 → (clocked k).due ≡ false
unfolding clocked
none_due k e = rw e

pub never : NeverDue
unfolding NeverDue
never k e j = none_due (clocks j k) (rate_after j k ∙ e)

-- one call c calls into a period of 4n: the count goes on, or the report is due and a period starts
module _ (k : Keyboard) (some : 1 ≤ k.idle) (few : k.idle ≤ 255) (c : ℕ) where
  abbrev at : Keyboard
  at = with_idle k k.idle c

  goes_on : c + 1 < 4 * k.idle → ((clocked at).due ≡ false) × ((clocked at).keyboard ≡ with_idle k k.idle (c + 1))
  unfolding clocked
  goes_on h =
      let low : c + 1 ≤ 1020 = omega arith in
      rw (min-eq_left low, ne_eqb k.idle 0 (λ z. omega arith), lt-leb (4 * k.idle) (c + 1) h) (refl, refl)

  comes_due : c + 1 ≡ 4 * k.idle → ((clocked at).due ≡ true) × ((clocked at).keyboard ≡ with_idle k k.idle 0)
  unfolding clocked
  comes_due h =
      let low : c + 1 ≤ 1020 = omega arith in
      rw (min-eq_left low, ne_eqb k.idle 0 (λ z. omega arith), le-leb (4 * k.idle) (c + 1) (omega arith)) (refl, refl)

-- the call after j calls, where the count is what is left of j: due exactly if j + 1 is a multiple of 4n
turn : (k : Keyboard) → 1 ≤ k.idle → k.idle ≤ 255 → (j : ℕ)
    → ((clocked (with_idle k k.idle (j % (4 * k.idle)))).due ≡ eqb (suc j % (4 * k.idle)) 0)
    × ((clocked (with_idle k k.idle (j % (4 * k.idle)))).keyboard ≡ with_idle k k.idle (suc j % (4 * k.idle)))
turn k some few j = go (leb (4 * k.idle) (j % (4 * k.idle) + 1)) refl
  where
    below : j % (4 * k.idle) < 4 * k.idle
    below = mod-lt j (omega arith)

    next : suc j % (4 * k.idle) ≡ suc (j % (4 * k.idle)) % (4 * k.idle)
    next = suc-mod j (4 * k.idle)

    go : (full : Bool) → leb (4 * k.idle) (j % (4 * k.idle) + 1) ≡ full
        → ((clocked (with_idle k k.idle (j % (4 * k.idle)))).due ≡ eqb (suc j % (4 * k.idle)) 0)
        × ((clocked (with_idle k k.idle (j % (4 * k.idle)))).keyboard ≡ with_idle k k.idle (suc j % (4 * k.idle)))
    go true e =
        let here : j % (4 * k.idle) + 1 ≡ 4 * k.idle = omega (arith, below, leb-true (4 * k.idle) (j % (4 * k.idle) + 1) e) in
        let zero_left : suc j % (4 * k.idle) ≡ 0 =
        next ∙ ap (λ (n : ℕ). n % (4 * k.idle)) (sym (add-one (j % (4 * k.idle))) ∙ here) ∙ mod_self (4 * k.idle) in
        rw zero_left (comes_due k some few (j % (4 * k.idle)) here)
    go false e =
        let more : j % (4 * k.idle) + 1 < 4 * k.idle = leb-false (4 * k.idle) (j % (4 * k.idle) + 1) e in
        let one_more : suc j % (4 * k.idle) ≡ j % (4 * k.idle) + 1 =
        next ∙ ap (λ (n : ℕ). n % (4 * k.idle)) (sym (add-one (j % (4 * k.idle)))) ∙ mod-eq_of_lt more in
        rw (one_more, ne_eqb (j % (4 * k.idle) + 1) 0 (λ z. omega arith)) (goes_on k some few (j % (4 * k.idle)) more)

-- after j calls from the start of a period the count is what is left of j
counts : (k : Keyboard) → 1 ≤ k.idle → k.idle ≤ 255 → k.count ≡ 0 → (j : ℕ) → clocks j k ≡ with_idle k k.idle (j % (4 * k.idle))
unfolding clocks
counts k some few start zero = rw (zero-mod (4 * k.idle)) (ap (λ (n : ℕ). with_idle k k.idle n) start)
counts k some few start (suc j) = ap (λ (at : Keyboard). (clocked at).keyboard) (counts k some few start j) ∙ (turn k some few j).1

pub due_at : DueAt
unfolding DueAt
due_at k some few start j =
    ap (λ (at : Keyboard). (clocked at).due) (counts k some few start j) ∙ (turn k some few j).0
    ∙ ap (λ (n : ℕ). eqb (n % (4 * k.idle)) 0) (sym (add-one j))
