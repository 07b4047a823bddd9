-- The report's first byte: bit k is 1 just where the code 0xE0 + k is among the codes. Assumes nothing.
use Prim.Native.Nat.{ℕ, zero, suc, ◌+◌, ◌-◌, ◌/◌, ◌%◌, ◌^◌, ◌<◌}
use mathlib.Core.Bool.{Bool, true, false, ◌&&◌, ◌||◌, beq, true≢false}
use mathlib.Core.List.{List, [], ◌∷◌}
use mathlib.Core.Logic.{◌⊎◌, inl, inr, ⊎_elim}
use mathlib.Core.Path.{◌≡◌, refl, sym, ap, ◌∙◌}
use native.Mathlib.Nat.{mod-lt, zero-div}
use native.Mathlib.Omega.{arith}
use borrow.Author.Tests.{eq-eqb, ne_eqb, eqb-true, eqb-false, ltb-true, ltb-false}
use lib.Bits.{bit_or, or_shr, or_mod}
use lib.Dec.{eqb, ltb}
use Rattle.codes.specs.Codes.{modifier, modifier_bit}
use Rattle.lists.specs.Lists.{has}
use Rattle.codes.specs.Hid111.{bit}
use Rattle.lists.proofs.Laws.{both_true}
use Rattle.codes.proofs.Laws.{modifier_range, modifier_in}

-- the first byte after each of the codes
unfoldable pub modified : ℕ → List ℕ → ℕ
modified m [] = m
modified m (c ∷ cs) = modified (bit_or m (modifier_bit c)) cs

-- a test that passes at each number below a bound
all_below : (ℕ → Bool) → ℕ → Bool
all_below p zero = true
all_below p (suc n) = p n && all_below p n

or_digits : (x y : ℕ) → x < 2 → y < 2 → eqb (bit_or x y) 1 ≡ eqb x 1 || eqb y 1
or_digits zero zero h g = refl
or_digits zero (suc zero) h g = refl
or_digits (suc zero) zero h g = refl
or_digits (suc zero) (suc zero) h g = refl
or_digits zero (suc (suc y)) h g = absurd (omega arith)
or_digits (suc zero) (suc (suc y)) h g = absurd (omega arith)
or_digits (suc (suc x)) y h g = absurd (omega arith)

-- a bit of two numbers joined
bit_or_lem : (a b k : ℕ) → bit (bit_or a b) k ≡ bit a k || bit b k
unfolding bit
bit_or_lem a b k =
    rw (or_shr, or_mod (a / 2 ^ k) (b / 2 ^ k) 1)
    (or_digits (a / 2 ^ k % 2) (b / 2 ^ k % 2) (mod-lt (a / 2 ^ k) (omega arith)) (mod-lt (b / 2 ^ k) (omega arith)))

beq_true : (a b : Bool) → beq a b ≡ true → a ≡ b
beq_true true true e = refl
beq_true true false e = sym e
beq_true false true e = e
beq_true false false e = refl

lt_or_eq : (k n : ℕ) → k < suc n → (k < n) ⊎ (k ≡ n)
lt_or_eq k n h = go (ltb k n) refl
  where
    go : (t : Bool) → ltb k n ≡ t → (k < n) ⊎ (k ≡ n)
    go true e = inl (ltb-true k n e)
    go false e = inr (omega (arith, ltb-false k n e))

pub no_bit : (k : ℕ) → bit 0 k ≡ false
unfolding bit
no_bit k = rw (zero-div (2 ^ k))

-- what passes at each number below a bound passes at one of them
all_at : (p : ℕ → Bool) (n : ℕ) → all_below p n ≡ true → (k : ℕ) → k < n → p k ≡ true
unfolding all_below
all_at p zero e k h = absurd (omega arith)
all_at p (suc n) e k h = go (eqb k n) refl (all_at p n (both_true (p n) (all_below p n) e).1 k)
  where
    go : (last : Bool) → eqb k n ≡ last → (k < n → p k ≡ true) → p k ≡ true
    go true same below = ap p (eqb-true k n same) ∙ (both_true (p n) (all_below p n) e).0
    go false other below = below (let ne = eqb-false k n other in ⊎_elim (λ g. g) (λ g. absurd (ne g)) (lt_or_eq k n h))

-- of a power of two below 256, its one bit
pow_bit : (j k : ℕ) → j < 8 → k < 8 → bit (2 ^ j) k ≡ eqb j k
unfolding bit all_below
pow_bit j k hj hk =
    beq_true (bit (2 ^ j) k) (eqb j k)
    (all_at (λ k. beq (bit (2 ^ j) k) (eqb j k)) 8
    (all_at (λ j. all_below (λ k. beq (bit (2 ^ j) k) (eqb j k)) 8) 8 refl j hj) k hk)

-- two tests that hold of the same numbers are one
same_test : (a b m n : ℕ) → (a ≡ b → m ≡ n) → (m ≡ n → a ≡ b) → eqb a b ≡ eqb m n
same_test a b m n f g = go (eqb a b) refl
  where
    go : (t : Bool) → eqb a b ≡ t → eqb a b ≡ eqb m n
    go true e = e ∙ sym (eq-eqb m n (f (eqb-true a b e)))
    go false e = e ∙ sym (ne_eqb m n (λ q. eqb-false a b e (g q)))

-- a modifier's bit is the one of its code, and no other code has one
bit_modifier : (c k : ℕ) → k < 8 → bit (modifier_bit c) k ≡ eqb c (0xE0 + k)
unfolding modifier_bit
bit_modifier c k h = go (modifier c) refl
  where
    go : (m : Bool) → modifier c ≡ m → bit (modifier_bit c) k ≡ eqb c (0xE0 + k)
    go true e =
        let range = modifier_range c e in
        rw e (pow_bit (c - 0xE0) k (omega arith) h ∙ same_test (c - 0xE0) k c (0xE0 + k) (λ q. omega arith) (λ q. omega arith))
    go false e = rw e (no_bit k ∙ sym (ne_eqb c (0xE0 + k) (λ q. true≢false (sym (modifier_in c (omega arith) (omega arith)) ∙ e))))

or_false : (a : Bool) → a || false ≡ a
or_false true = refl
or_false false = refl

or_joins : (a b c : Bool) → (a || b) || c ≡ a || (b || c)
or_joins true b c = refl
or_joins false b c = refl

pub modified_bit : (m : ℕ) (cs : List ℕ) (k : ℕ) → k < 8 → bit (modified m cs) k ≡ bit m k || has (0xE0 + k) cs
unfolding modified
modified_bit m [] k h = sym (or_false (bit m k))
modified_bit m (c ∷ cs) k h =
    modified_bit (bit_or m (modifier_bit c)) cs k h
    ∙ rw (bit_or_lem, bit_modifier c k h) (or_joins (bit m k) (eqb c (0xE0 + k)) (has (0xE0 + k) cs))
