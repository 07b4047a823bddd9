-- The first place of a byte, and of one that is no space, as `position` answers it. Assumes nothing.
use Prim.Native.Nat.{ℕ, suc, ◌+◌, ◌-◌, ◌≤◌}
use mathlib.Core.Bool.{Bool, true, false, cond, not}
use mathlib.Core.List.{List, [], ◌∷◌}
use mathlib.Core.Path.{◌≡◌, refl, sym, ap, ◌∙◌}
use native.Mathlib.Omega.{arith}
use lib.Dec.{eqb, ltb}
use lib.ListN.{length, length-drop, take, drop}
use lib.Seq.{take-length}
use Rattle.std.specs.Prelude.{Option, Some, None, unwrap_or}
use Rattle.std.specs.List.{position, position_or_len}
use Rattle.std.proofs.lemmas.Grind.{common_steps}
use Rattle.std.proofs.lemmas.List.Recursion.{is_position_or_len}
use Rattle.std.proofs.lemmas.List.Sums.{prefix_len-le-length}
use Rattle.table_text.specs.Inside.{index_of, unspaced}

-- what is lent from a place on is all that is there
pub whole : (l : List ℕ) (i : ℕ) → take (length l - i) (drop i l) ≡ drop i l
whole l i = ap (λ n. take n (drop i l)) (sym (length-drop i l)) ∙ take-length (drop i l)

at_most : (k n : ℕ) → k ≤ n → unwrap_or (cond (ltb k n) (Some k) None) n ≡ k
at_most k n h = grind (arith, common_steps)

-- the place, or the length where there is none
first : (p : ℕ → Bool) (l : List ℕ) (place : Option ℕ) → place ≡ position p l → unwrap_or place (length l) ≡ position_or_len p l
first p l place e = ap (λ o. unwrap_or o (length l)) e ∙ at_most _ (length l) (prefix_len-le-length _ l)

index_step : (d x : ℕ) (xs : List ℕ) → index_of d (x ∷ xs) ≡ cond (eqb x d) 0 (1 + index_of d xs)
unfolding index_of
index_step d x xs =
    let e : suc (index_of d xs) ≡ 1 + index_of d xs = omega arith in
    ap (cond (eqb x d) 0) e

index_none : (d : ℕ) → index_of d [] ≡ 0
unfolding index_of
index_none d = refl

pub found : (d : ℕ) (l : List ℕ) (place : Option ℕ) → place ≡ position (λ c. eqb c d) l → unwrap_or place (length l) ≡ index_of d l
found d l place e = first _ l place e ∙ sym (is_position_or_len (index_of d) _ (index_none d) (index_step d) l)

-- the spaces in front
abbrev pub spaces : List ℕ → ℕ
spaces l = position_or_len (λ c. not (eqb c 32)) l

pub spaces_within : (l : List ℕ) → spaces l ≤ length l
spaces_within l = prefix_len-le-length _ l

pub passed : (l : List ℕ) (place : Option ℕ) → place ≡ position (λ c. not (eqb c 32)) l → unwrap_or place (length l) ≡ spaces l
passed l place e = first _ l place e

pub unspaced_is : (l : List ℕ) → drop (spaces l) l ≡ unspaced l
unfolding unspaced
unspaced_is [] = refl
unspaced_is (c ∷ cs) = go (eqb c 32) (unspaced_is cs)
  where
    go : (t : Bool) → drop (spaces cs) cs ≡ unspaced cs
        → drop (cond (not (not t)) (1 + spaces cs) 0) (c ∷ cs) ≡ cond t (unspaced cs) (c ∷ cs)
    go true e = let s : 1 + spaces cs ≡ suc (spaces cs) = omega arith in rw s e
    go false e = refl
