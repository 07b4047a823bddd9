-- Laws of the codes and layers that states hold, one state at a time. Assumes nothing.
use mathlib.Core.Path.{◌≡◌, refl, ap, ◌∙◌}
use mathlib.Core.List.{List, [], ◌∷◌, ◌++◌, append-nil}
use Prim.Native.Nat.{ℕ, ◌+◌, ◌<◌}
use native.Mathlib.Numerals.{add-one}
use native.Mathlib.Omega.{arith}
use lib.ListN.{length, take, get_or}
use lib.Seq.{take-suc}
use Rattle.std.specs.Prelude.{Option, Some, None}
use Rattle.std.specs.Option.{unwrap_or}
use Rattle.event.specs.declared.Coord.{Coord}
use Rattle.layout.specs.Steps.{sum, current, held, codes}
use Rattle.layout.specs.declared.active.State.{State}
use Rattle.layout.specs.declared.active.State.TheVariants.{NormalKey, LayerModifier}

-- the sum of the numbers, if there are any
abbrev pub summed : List ℕ → Option ℕ
summed [] = None
summed (x ∷ xs) = Some (sum (x ∷ xs))

sum_append : (xs ys : List ℕ) → sum (xs ++ ys) ≡ sum xs + sum ys
unfolding sum
sum_append [] ys = omega arith
sum_append (x ∷ xs) ys = omega (arith, sum_append xs ys)

summed_more : (xs : List ℕ) (v : ℕ) → summed (xs ++ (v ∷ [])) ≡ Some (unwrap_or (summed xs) 0 + v)
unfolding sum
summed_more [] v = let e : v + 0 ≡ 0 + v = omega arith in ap (λ (k : ℕ). Some k) e
summed_more (x ∷ xs) v = ap (λ (k : ℕ). Some k) (omega (arith, sum_append xs (v ∷ [])))

pub current_is : (base : ℕ) (xs : List ℕ) → unwrap_or (summed xs) base ≡ current base xs
unfolding current
current_is base [] = refl
current_is base (x ∷ xs) = refl

held_append : (k l : List State) → held (k ++ l) ≡ held k ++ held l
unfolding held
held_append [] l = refl
held_append (NormalKey u c ∷ k) l = held_append k l
held_append (LayerModifier v c ∷ k) l = ap (λ (x : List ℕ). v ∷ x) (held_append k l)

held_more : (l : List State) (i : ℕ) (d : State) → i < length l → held (take (i + 1) l) ≡ held (take i l) ++ held (get_or l i d ∷ [])
held_more l i d h = rw (add-one, take-suc l i d, held_append)

-- one state more is a layer, or it is none
module _ (l : List State) (i : ℕ) (d : State) (h : i < length l) where
  pub layer_more : (v : ℕ) (c : Coord) → get_or l i d ≡ LayerModifier v c → summed (held (take (i + 1) l)) ≡ Some (unwrap_or (summed (held (take i l))) 0 + v)
  unfolding held
  layer_more v c e = ap summed (held_more l i d h ∙ ap (λ (s : State). held (take i l) ++ held (s ∷ [])) e) ∙ summed_more (held (take i l)) v

  pub no_layer : ((v : ℕ) (c : Coord) → get_or l i d ≡ LayerModifier v c → ⊥) → summed (held (take (i + 1) l)) ≡ summed (held (take i l))
  unfolding held
  no_layer n = ap summed (held_more l i d h ∙ go (get_or l i d) n)
    where
      go : (s : State) → ((v : ℕ) (c : Coord) → s ≡ LayerModifier v c → ⊥) → held (take i l) ++ held (s ∷ []) ≡ held (take i l)
      go (NormalKey u c) n = append-nil (held (take i l))
      go (LayerModifier v c) n = absurd (n v c refl)

codes_append : (k l : List State) → codes (k ++ l) ≡ codes k ++ codes l
unfolding codes
codes_append [] l = refl
codes_append (NormalKey u c ∷ k) l = ap (λ (x : List ℕ). u ∷ x) (codes_append k l)
codes_append (LayerModifier v c ∷ k) l = codes_append k l

codes_more : (l : List State) (i : ℕ) (d : State) → i < length l → codes (take (i + 1) l) ≡ codes (take i l) ++ codes (get_or l i d ∷ [])
codes_more l i d h = rw (add-one, take-suc l i d, codes_append)

-- one state more is a key, or it is none
module _ (l : List State) (i : ℕ) (d : State) (h : i < length l) where
  pub key_more : (u : ℕ) (c : Coord) → get_or l i d ≡ NormalKey u c → codes (take (i + 1) l) ≡ codes (take i l) ++ (u ∷ [])
  unfolding codes
  key_more u c e = codes_more l i d h ∙ ap (λ (s : State). codes (take i l) ++ codes (s ∷ [])) e

  pub no_key : ((u : ℕ) (c : Coord) → get_or l i d ≡ NormalKey u c → ⊥) → codes (take (i + 1) l) ≡ codes (take i l)
  unfolding codes
  no_key n = codes_more l i d h ∙ go (get_or l i d) n
    where
      go : (s : State) → ((u : ℕ) (c : Coord) → s ≡ NormalKey u c → ⊥) → codes (take i l) ++ codes (s ∷ []) ≡ codes (take i l)
      go (NormalKey u c) n = absurd (n u c refl)
      go (LayerModifier v c) n = append-nil (codes (take i l))
