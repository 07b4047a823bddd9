-- Laws of the words on lists, and of tests that hold. Assumes nothing.
use Prim.Native.Nat.{ℕ, zero, suc, ◌+◌, ◌<◌, ◌≤◌}
use mathlib.Core.Bool.{Bool, true, false, ◌&&◌, and-true, and-false, and_assoc}
use mathlib.Core.List.{List, [], ◌∷◌, ◌++◌}
use mathlib.Core.Path.{◌≡◌, refl, sym, ap, ◌∙◌}
use native.Mathlib.Numerals.{add-one}
use native.Mathlib.Omega.{arith}
use borrow.Author.Tests.{eq-eqb, ne_eqb, eqb-true}
use lib.Dec.{eqb}
use lib.ListN.{length, take, drop, get_or, replicate, length-append, length-drop, drop_of_length-le, take-append-drop}
use lib.Seq.{drop-cons, sets, sets-eq}
use Rattle.lists.specs.Lists.{alike, laid, count, every}

-- both halves of a test that holds
pub both_true : (a b : Bool) → a && b ≡ true → (a ≡ true) × (b ≡ true)
both_true true b e = (refl, e)
both_true false b e = (e, cc)

-- a loop that tells whether all pass a test, and goes to the end: `good` tells of those so far, `rest` of those that are left
pub seen_fails : {all rest : Bool} (good : Bool) → all ≡ good && rest → rest ≡ false → all ≡ false
seen_fails good inv e = inv ∙ rw e (and-false good)

pub seen_all : {all rest : Bool} (good : Bool) → all ≡ good && rest → rest ≡ true → good ≡ all
seen_all good inv e = sym (inv ∙ rw e (and-true good))

module _ {A : Type 0} (p : A → Bool) where
  -- the first and the others
  pub every_head : (x : A) (xs : List A) → every p (x ∷ xs) ≡ true → (p x ≡ true) × (every p xs ≡ true)
  every_head x xs e = both_true (p x) (every p xs) e

  pub every_split : (xs ys : List A) → every p (xs ++ ys) ≡ every p xs && every p ys
  every_split [] ys = refl
  every_split (x ∷ xs) ys = rw (every_split xs ys) (sym (and_assoc (p x) (every p xs) (every p ys)))

  pub every_append : (xs ys : List A) → every p xs ≡ true → every p ys ≡ true → every p (xs ++ ys) ≡ true
  every_append xs ys e f = rw (every_split xs ys, e) f

  pub every_replicate : (n : ℕ) (x : A) → p x ≡ true → every p (replicate n x) ≡ true
  every_replicate zero x e = refl
  every_replicate (suc n) x e = rw e (every_replicate n x e)

  pub count_append : (xs ys : List A) → count p (xs ++ ys) ≡ count p xs + count p ys
  unfolding count
  count_append [] ys = omega arith
  count_append (x ∷ xs) ys = go (p x) refl (count_append xs ys)
    where
      go : (t : Bool) → p x ≡ t → count p (xs ++ ys) ≡ count p xs + count p ys → count p (x ∷ xs ++ ys) ≡ count p (x ∷ xs) + count p ys
      go true t rest = rw t (omega arith)
      go false t rest = rw t rest

  -- from a place on: the element there passes, and then those from the next place on; or it does not; or none is left
  module _ (l : List A) (i : ℕ) (d : A) where
    pub every_on : i < length l → p (get_or l i d) ≡ true → every p (drop i l) ≡ every p (drop (i + 1) l)
    every_on h e = rw (add-one, drop-cons l i d, e)

    pub every_fails : i < length l → p (get_or l i d) ≡ false → every p (drop i l) ≡ false
    every_fails h e = rw (drop-cons l i d, e)

    pub every_none : length l ≤ i → every p (drop i l) ≡ true
    every_none h = rw (drop_of_length-le l h)

-- from a place on: equal there and then from the next place on; not equal there; none left
module _ (a b : List ℕ) (i : ℕ) where
  pub alike_on : i < length a → i < length b → get_or a i 0 ≡ get_or b i 0 → alike (drop i a) (drop i b) ≡ alike (drop (i + 1) a) (drop (i + 1) b)
  alike_on h g e = rw (add-one, drop-cons a i 0, drop-cons b i 0, eq-eqb (get_or a i 0) (get_or b i 0) e)

  pub alike_fails : i < length a → i < length b → (get_or a i 0 ≡ get_or b i 0 → ⊥) → alike (drop i a) (drop i b) ≡ false
  alike_fails h g n = rw (drop-cons a i 0, drop-cons b i 0, ne_eqb (get_or a i 0) (get_or b i 0) n)

  pub alike_none : length a ≤ i → length b ≤ i → alike (drop i a) (drop i b) ≡ true
  alike_none h g = rw (drop_of_length-le a h, drop_of_length-le b g)

-- lists that pass the test are equal, and equal ones pass it; so others do not
pub alike_is : (a b : List ℕ) → alike a b ≡ true → a ≡ b
alike_is [] [] e = refl
alike_is [] (y ∷ b) e = cc
alike_is (x ∷ a) [] e = cc
alike_is (x ∷ a) (y ∷ b) e =
    let h = both_true (eqb x y) (alike a b) e in
    rw (eqb-true x y h.0, alike_is a b h.1)

pub alike_self : (a : List ℕ) → alike a a ≡ true
alike_self [] = refl
alike_self (x ∷ a) = rw (eq-eqb x x refl) (alike_self a)

pub alike_not : (a b : List ℕ) → (a ≡ b → ⊥) → alike a b ≡ false
alike_not a b n = go (alike a b) refl
  where
    go : (t : Bool) → alike a b ≡ t → t ≡ false
    go true e = absurd (n (alike_is a b e))
    go false e = refl

-- a buffer whose first bytes are these, and which is as it was past them; bytes that fit leave a buffer as long as it was
pub laid_is : (buffer was bytes : List ℕ) (k : ℕ) → k ≡ length bytes → take k buffer ≡ bytes → drop k buffer ≡ drop k was → buffer ≡ laid bytes was
laid_is buffer was bytes k long first past = sym (take-append-drop k buffer) ∙ rw (first, past, long)

pub laid_long : (bytes buffer : List ℕ) → length bytes ≤ length buffer → length (laid bytes buffer) ≡ length buffer
laid_long bytes buffer h = simp (length-append, length-drop) (omega arith)

-- bytes that fit, put from the start on
pub sets_front : (buffer bytes : List ℕ) → length bytes ≤ length buffer → sets buffer 0 bytes ≡ laid bytes buffer
sets_front buffer bytes h =
    let n : 0 + length bytes ≡ length bytes = omega arith in
    sets-eq bytes buffer 0 (omega arith) ∙ ap (λ k. bytes ++ drop k buffer) n
