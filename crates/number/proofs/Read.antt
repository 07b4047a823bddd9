-- What the proofs of reading decimal share. Assumes nothing.
use Rattle.std.proofs.Common.{ℕ, ◌+◌, ◌*◌, ◌-◌, ◌<◌, ◌≤◌, ◌≡◌, refl, sym, ap, ◌∙◌, List, [], ◌∷◌, length, get_or, drop, Some, None, true, false, arith}
use mathlib.Core.Bool.{cond, and-false}
use borrow.Author.Tests.{le-leb, lt-leb}
use lib.Dec.{leb}
use lib.ListN.{drop_of_length-le}
use Rattle.std.specs.Prelude.{Option}
use Rattle.std.specs.Char.{is_ascii_digit}
use Rattle.std.proofs.lemmas.Grind.{common_steps}
use Rattle.std.proofs.lemmas.List.{at_drop_more}
use Rattle.number.specs.Number.{is_digit, comes_to, read_behind, read_decimal, not_above, read_within, values_of}

-- a digit is what the library says it is
digit_is : (c : ℕ) → is_digit c ≡ is_ascii_digit c
unfolding is_digit
digit_is c = refl

-- more digits come to no less
grows : (n : ℕ) (cs : List ℕ) → n ≤ comes_to n cs
unfolding comes_to
grows n [] = omega arith
grows n (c ∷ cs) = omega (arith, grows (10 * n + (c - 48)) cs)

too_much : (n : ℕ) (cs : List ℕ) → 65535 < n → read_behind n cs ≡ None
unfolding read_behind
too_much n cs h =
    let past : 65535 < comes_to n cs = omega (arith, grows n cs) in
    rw (lt-leb (comes_to n cs) 65535 past, and-false)

-- the next byte of a word: it is no digit, it is read, or with it the word comes to too much
module _ (n : ℕ) (l : List ℕ) (i : ℕ) (h : i < length l) where
  pub read_odd : is_ascii_digit (get_or l i 0) ≡ false → read_behind n (drop i l) ≡ None
  unfolding read_behind
  read_odd e = at_drop_more (read_behind n) l i 0 h ∙ rw (digit_is (get_or l i 0), e)

  pub read_on : (m : ℕ) → is_ascii_digit (get_or l i 0) ≡ true → m ≡ 10 * n + (get_or l i 0 - 48) → read_behind n (drop i l) ≡ read_behind m (drop (i + 1) l)
  unfolding read_behind comes_to
  read_on m e come = at_drop_more (read_behind n) l i 0 h ∙ rw (digit_is (get_or l i 0), e, come)

  pub read_much : is_ascii_digit (get_or l i 0) ≡ true → 65535 < 10 * n + (get_or l i 0 - 48) → read_behind n (drop i l) ≡ None
  read_much e past = read_on _ e refl ∙ too_much _ _ past

-- no byte is left
pub read_end : (n : ℕ) (l : List ℕ) (i : ℕ) → length l ≤ i → n ≤ 65535 → read_behind n (drop i l) ≡ Some n
unfolding read_behind comes_to
read_end n l i past h = rw (drop_of_length-le l past, le-leb n 65535 h)

-- a word by its length
pub number_none : (l : List ℕ) → length l ≡ 0 → read_decimal l ≡ None
unfolding read_decimal
number_none [] e = refl
number_none (c ∷ cs) e = absurd (omega arith)

pub number_some : (l : List ℕ) → (length l ≡ 0 → ⊥) → read_decimal l ≡ read_behind 0 l
unfolding read_decimal
number_some [] n = absurd (n refl)
number_some (c ∷ cs) n = refl

pub ruleset reading = (number_none, number_some, read_odd, read_on, read_much, read_end)

-- a number that has to be within bounds is no larger
bounded : (largest m n : ℕ) → cond (leb m largest) (Some m) None ≡ Some n → n ≤ largest
bounded largest m n e = grind (arith, common_steps)

most : (largest : ℕ) (x : Option ℕ) (n : ℕ) → not_above largest x ≡ Some n → n ≤ largest
most largest (Some m) n e = bounded largest m n e
most largest None n e = cc

pub within_fits : (digits largest : ℕ) (word : List ℕ) (n : ℕ) → read_within digits largest word ≡ Some n → n ≤ largest
unfolding read_within
within_fits digits largest word n e = grind (arith, common_steps, most)

-- what was read is known by its values
abbrev back : List ℕ → Option ℕ
back [] = None
back (n ∷ ns) = Some n

values_back : (x : Option ℕ) → back (values_of x) ≡ x
values_back (Some n) = refl
values_back None = refl

pub number_one : (x y : Option ℕ) → values_of x ≡ values_of y → x ≡ y
number_one x y e = sym (values_back x) ∙ ap back e ∙ values_back y
