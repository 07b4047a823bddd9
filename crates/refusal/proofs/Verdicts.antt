-- Laws of rules in their order: a rule, the first refusal of two, and of many places. Assumes nothing.
use mathlib.Core.Path.{◌≡◌, refl, sym}
use mathlib.Core.Bool.{Bool, true, false}
use Prim.Native.Nat.{ℕ, zero, suc, ◌+◌, ◌-◌, ◌<◌, ◌≤◌}
use native.Mathlib.Nat.{le_of_suc-le-suc, not-suc-le-zero}
use native.Mathlib.Omega.{arith}
use Rattle.std.specs.Prelude.{Ok, Err, ⊤}
use Rattle.refusal.specs.Verdict.{Verdict, fine, refused, rule, kept_or, or_else, first_fault}
use Rattle.refusal.specs.declared.Refusal.{Refusal}
use Rattle.refusal.specs.declared.Fault.{Fault}

-- a rule: broken, kept, and what it says of the rest that there is no fault
module _ (t : Bool) (r : Refusal) (p : ℕ) (rest : Verdict) where
  pub rule_no : t ≡ false → refused r p ≡ rule t r p rest
  unfolding rule
  rule_no e = rw e

  pub rule_yes : {x : Verdict} → t ≡ true → x ≡ rest → x ≡ rule t r p rest
  unfolding rule
  rule_yes e f = rw e f

-- a rule asked alone, with `?` behind it: what it refuses is refused; where it is kept the rest decides
pub rule_stop : (t : Bool) (r : Refusal) (p : ℕ) (rest : Verdict) {a : Fault} → kept_or t r p ≡ Err a → Err a ≡ rule t r p rest
unfolding rule
rule_stop true r p rest e = cc
rule_stop false r p rest e = sym e

pub rule_on : (t : Bool) (r : Refusal) (p : ℕ) (rest : Verdict) {x : Verdict} → kept_or t r p ≡ fine → x ≡ rest → x ≡ rule t r p rest
unfolding rule
rule_on true r p rest e f = f
rule_on false r p rest e f = cc

pub rule_broken : (t : Bool) (r : Refusal) (p : ℕ) {a : Fault} → kept_or t r p ≡ Err a → (t ≡ false) × (Err a ≡ refused {A = ⊤} r p)
unfolding rule
rule_broken true r p e = (cc, cc)
rule_broken false r p e = (refl, sym e)

pub rule_kept : (t : Bool) (r : Refusal) (p : ℕ) → kept_or t r p ≡ fine → t ≡ true
unfolding rule
rule_kept true r p e = refl
rule_kept false r p e = cc

pub rule_fine : (t : Bool) (r : Refusal) (p : ℕ) (rest : Verdict) → rule t r p rest ≡ fine → (t ≡ true) × (rest ≡ fine)
unfolding rule
rule_fine true r p rest e = (refl, e)
rule_fine false r p rest e = (cc, cc)

-- what follows a rule matters where it is kept
pub rule_with : (t : Bool) (r : Refusal) (p : ℕ) (x y : Verdict) → (t ≡ true → x ≡ y) → rule t r p x ≡ rule t r p y
unfolding rule
rule_with true r p x y f = f refl
rule_with false r p x y f = refl

-- the first fault of two
pub or_stop : (f g : Verdict) (a : Fault) → f ≡ Err a → f ≡ or_else f g
unfolding or_else
or_stop f g a e = rw e

pub or_on : (f g : Verdict) → f ≡ fine → or_else f g ≡ g
unfolding or_else
or_on f g e = rw e

pub or_fine : (f g : Verdict) → or_else f g ≡ fine → (f ≡ fine) × (g ≡ fine)
unfolding or_else
or_fine (Ok u) g e = (refl, e)
or_fine (Err f) g e = (cc, cc)

-- a loop that looks for the first fault: it goes on, it stops, it ends
module _ (f : ℕ → Verdict) (i n : ℕ) where
  pub fault_on : i < n → f i ≡ fine → first_fault f i (n - i) ≡ first_fault f (i + 1) (n - (i + 1))
  unfolding first_fault or_else
  fault_on h e =
      let k : n - i ≡ suc (n - (i + 1)) = omega arith in
      rw (k, e)

  pub fault_here : (a : Fault) → i < n → f i ≡ Err a → first_fault f i (n - i) ≡ Err a
  unfolding first_fault or_else
  fault_here a h e =
      let k : n - i ≡ suc (n - (i + 1)) = omega arith in
      rw (k, e)

  pub fault_none : n ≤ i → first_fault f i (n - i) ≡ fine
  unfolding first_fault
  fault_none h =
      let k : n - i ≡ 0 = omega arith in
      rw k

-- no fault among n places from 0 on: none at any of them
fine_at : (f : ℕ → Verdict) (i n : ℕ) → first_fault f i n ≡ fine → (k : ℕ) → k < n → f (i + k) ≡ fine
unfolding first_fault
fine_at f i zero e k h = absurd (not-suc-le-zero h)
fine_at f i (suc n) e zero h =
    let s : i + 0 ≡ i = omega arith in
    rw s (or_fine (f i) _ e).0
fine_at f i (suc n) e (suc k) h =
    let s : i + suc k ≡ i + 1 + k = omega arith in
    rw s (fine_at f (i + 1) n (or_fine (f i) _ e).1 k (le_of_suc-le-suc h))

pub fine_all : (f : ℕ → Verdict) (n : ℕ) → first_fault f 0 n ≡ fine → (k : ℕ) → k < n → f k ≡ fine
fine_all f n e k h =
    let s : 0 + k ≡ k = omega arith in
    rw s at (fine_at f 0 n e k h)
