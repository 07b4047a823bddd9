-- Laws of the list: one step along its entries, what a test of every entry says, and words one after the other.
-- Assumes nothing.
use mathlib.Core.Path.{◌≡◌, refl, sym, ap, ◌∙◌}
use mathlib.Core.Bool.{Bool, true, false, ◌&&◌, ◌||◌}
use mathlib.Core.List.{List, [], ◌∷◌, ◌++◌}
use mathlib.Core.Logic.{◌⊎◌, inl, inr, ⊎_elim}
use Prim.Native.Nat.{ℕ, zero, suc, ◌+◌, ◌-◌, ◌*◌, ◌<◌, ◌≤◌}
use native.Mathlib.Nat.{le_of_suc-le-suc, not-suc-le-zero}
use native.Mathlib.Numerals.{sub-one}
use native.Mathlib.Omega.{arith}
use borrow.Author.Tests.{leb-true}
use lib.ListN.{length}
use lib.Dec.{leb}
use Rattle.lists.specs.Lists.{every}
use Rattle.lists.proofs.Laws.{both_true, every_head}
use Rattle.codes.specs.Codes.{legal}
use Rattle.image.specs.Words.{list_start, entry_of, entries, word_at, words_from}
use Rattle.image.specs.Tree.{Action, end, ◌&◌, named}
use Rattle.image.proofs.Tests.{and-true}

-- a legal code fits a byte
or_cases : (a b c : Bool) → (a || (b && c)) ≡ true → (a ≡ true) ⊎ (c ≡ true)
or_cases true b c e = inl refl
or_cases false b c e = inr (both_true b c e).1

pub below_byte : (k : ℕ) → legal k ≡ true → k < 256
unfolding legal
below_byte k e = ⊎_elim (λ h. omega (arith, leb-true k 0xA4 h)) (λ h. omega (arith, leb-true k 0xFB h)) (or_cases (leb k 0xA4) (leb 0xE0 k) (leb k 0xFB) e)

-- one entry, and those after it: every loop over the list rests on this
pub entries_step : (img : List ℕ) (e n : ℕ) → 0 < n → entries img e n ≡ entry_of img e ∷ entries img (e + 1) (n - 1)
unfolding entries
entries_step img e zero h = absurd (not-suc-le-zero h)
entries_step img e (suc n) h = rw (sub-one (suc n))

entries_none : (img : List ℕ) (e n : ℕ) → n ≤ 0 → entries img e n ≡ []
unfolding entries
entries_none img e zero h = refl
entries_none img e (suc n) h = absurd (not-suc-le-zero h)

pub length_entries : (img : List ℕ) (e n : ℕ) → length (entries img e n) ≡ n
unfolding entries
length_entries img e zero = refl
length_entries img e (suc n) = ap suc (length_entries img (e + 1) n)

-- a test of every entry: it goes on, it stops, it ends; and what its passing says
module _ (t : ℕ → Bool) (img : List ℕ) (e n : ℕ) where
  pub all_on : 0 < n → t (entry_of img e) ≡ true → every t (entries img e n) ≡ every t (entries img (e + 1) (n - 1))
  all_on h g = rw (entries_step img e n h, g)

  pub all_no : 0 < n → t (entry_of img e) ≡ false → every t (entries img e n) ≡ false
  all_no h g = rw (entries_step img e n h, g)

  pub all_none : n ≤ 0 → every t (entries img e n) ≡ true
  all_none h = rw (entries_none img e n h)

  pub all_head : 0 < n → every t (entries img e n) ≡ true → t (entry_of img e) ≡ true
  all_head h g = (every_head t _ _ (rw (entries_step img e n h) at g)).0

  pub all_tail : 0 < n → every t (entries img e n) ≡ true → every t (entries img (e + 1) (n - 1)) ≡ true
  all_tail h g = (every_head t _ _ (rw (entries_step img e n h) at g)).1

pub all_at : (t : ℕ → Bool) (img : List ℕ) (e n i : ℕ) → i < n → every t (entries img e n) ≡ true → t (entry_of img (e + i)) ≡ true
unfolding entries
all_at t img e zero i h g = absurd (not-suc-le-zero h)
all_at t img e (suc n) zero h g =
    let s : e + 0 ≡ e = omega arith in
    rw s (every_head t _ _ g).0
all_at t img e (suc n) (suc i) h g =
    let s : e + suc i ≡ e + 1 + i = omega arith in
    rw s (all_at t img (e + 1) n i (le_of_suc-le-suc h) (every_head t _ _ g).1)

-- a test of two numbers
pub all_two : (t : ℕ → Bool) (x y : ℕ) → every t (x ∷ y ∷ []) ≡ (t x && t y)
all_two t x y = ap (λ b. t x && b) (and-true (t y))

pub two_of : (t : ℕ → Bool) (x y : ℕ) → every t (x ∷ y ∷ []) ≡ true → (t x ≡ true) × (t y ≡ true)
two_of t x y e = both_true (t x) (t y) (sym (all_two t x y) ∙ e)

-- the trees that a stretch of the list names, one step along it
module _ (l : ℕ → Action) (img : List ℕ) (e n : ℕ) where
  pub named_step : 0 < n → named l (entries img e n) ≡ l (entry_of img e) & named l (entries img (e + 1) (n - 1))
  unfolding named
  named_step h = rw (entries_step img e n h)

  pub named_none : n ≤ 0 → named l (entries img e n) ≡ end
  unfolding named
  named_none h = rw (entries_none img e n h)

-- of so many words from a byte offset, those after the first i
abbrev pub words_after : List ℕ → ℕ → ℕ → ℕ → List ℕ
words_after img at n i = words_from img (at + 2 * i) (n - i)

pub words_all : (img : List ℕ) (at n : ℕ) → words_after img at n 0 ≡ words_from img at n
words_all img at n =
    let s : at + 2 * 0 ≡ at = omega arith in
    let k : n - 0 ≡ n = omega arith in
    rw (s, k)

-- one of them, and those after it: every loop over words rests on this
module _ (img : List ℕ) (at n i : ℕ) where
  pub words_step : i < n → words_after img at n i ≡ word_at img (at + 2 * i) ∷ words_after img at n (i + 1)
  unfolding words_from
  words_step h =
      let k : n - i ≡ suc (n - (i + 1)) = omega arith in
      let s : at + 2 * i + 2 ≡ at + 2 * (i + 1) = omega arith in
      ap (words_from img (at + 2 * i)) k ∙ ap (λ x. word_at img (at + 2 * i) ∷ words_from img x (n - (i + 1))) s

  pub words_head : (t : ℕ → Bool) → i < n → every t (words_after img at n i) ≡ true → t (word_at img (at + 2 * i)) ≡ true
  words_head t h g = (every_head t _ _ (rw (words_step h) at g)).0

  pub words_tail : (t : ℕ → Bool) → i < n → every t (words_after img at n i) ≡ true → every t (words_after img at n (i + 1)) ≡ true
  words_tail t h g = (every_head t _ _ (rw (words_step h) at g)).1

  pub words_on : (l : ℕ → Action) → i < n → named l (words_after img at n i) ≡ l (word_at img (at + 2 * i)) & named l (words_after img at n (i + 1))
  unfolding named
  words_on l h = rw (words_step h)

  pub below_on : (t : ℕ → Bool) → i < n → t (word_at img (at + 2 * i)) ≡ true → every t (words_after img at n i) ≡ every t (words_after img at n (i + 1))
  below_on t h e = rw (words_step h, e)

  pub below_no : (t : ℕ → Bool) → i < n → t (word_at img (at + 2 * i)) ≡ false → every t (words_after img at n i) ≡ false
  below_no t h e = rw (words_step h, e)

-- no word
module _ (img : List ℕ) (at n : ℕ) where
  pub words_none : (l : ℕ → Action) → n ≤ 0 → named l (words_from img at n) ≡ end
  unfolding named words_from
  words_none l h =
      let k : n ≡ 0 = omega arith in
      rw k

  pub below_none : (t : ℕ → Bool) → n ≤ 0 → every t (words_from img at n) ≡ true
  unfolding words_from
  below_none t h =
      let k : n ≡ 0 = omega arith in
      rw k

pub length_words : (img : List ℕ) (at n : ℕ) → length (words_from img at n) ≡ n
unfolding words_from
length_words img at zero = refl
length_words img at (suc n) = ap suc (length_words img (at + 2) n)

-- words are those but the last, and the last
words_end : (img : List ℕ) (at n : ℕ) → words_from img at (suc n) ≡ words_from img at n ++ word_at img (at + 2 * n) ∷ []
unfolding words_from
words_end img at zero =
    let s : at + 2 * 0 ≡ at = omega arith in
    rw s
words_end img at (suc n) =
    let s : at + 2 * suc n ≡ at + 2 + 2 * n = omega arith in
    rw s (ap (λ ks. word_at img at ∷ ks) (words_end img (at + 2) n))

pub words_last : (img : List ℕ) (at n : ℕ) → 0 < n → words_from img at n ≡ words_from img at (n - 1) ++ word_at img (at + 2 * (n - 1)) ∷ []
words_last img at n h =
    let k : n ≡ suc (n - 1) = omega arith in
    ap (words_from img at) k ∙ words_end img at (n - 1)

-- a stretch of the list is words one after the other
pub entries_words : (img : List ℕ) (e n : ℕ) → entries img e n ≡ words_from img (list_start img + 2 * e) n
unfolding entries entry_of words_from
entries_words img e zero = refl
entries_words img e (suc n) =
    let s : list_start img + 2 * e + 2 ≡ list_start img + 2 * (e + 1) = omega arith in
    rw s (ap (λ r. word_at img (list_start img + 2 * e) ∷ r) (entries_words img (e + 1) n))
