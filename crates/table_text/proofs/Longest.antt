-- No accepted image's text is longer than 14,352 bytes: 16 for the counts, 4 a cell, 16 a record, 6 an entry. Assumes nothing.
use Prim.Native.Nat.{ℕ, zero, suc, ◌+◌, ◌*◌, ◌<◌, ◌≤◌}
use mathlib.Core.Bool.{Bool, true, false, cond}
use mathlib.Core.List.{List, [], ◌∷◌}
use mathlib.Core.Path.{◌≡◌, refl, ◌∙◌}
use native.Mathlib.Nat.{add-zero, suc-mul}
use native.Mathlib.Omega.{arith}
use borrow.Author.Tests.{leb-true, eqb-true}
use lib.Dec.{eqb, leb}
use lib.ListN.{length, length-append}
use Rattle.image.specs.Words.{word_at, words_from, layers_of, rows_of, columns_of, records_of, entries_of, records_start, list_start}
use Rattle.image.specs.Words.{shape_of, cells_of, cell_of, field_of}
use Rattle.image.specs.Record.{action_of, action_at}
use Rattle.image.specs.Check.{form, form_good}
use Rattle.image.specs.Sound.{Sound}
use Rattle.image.specs.declared.record.Action.TheVariants.{HoldTap}
use Rattle.image.proofs.Accepted.{accepted, hold_lower}
use Rattle.image.proofs.HeaderRules.{small}
use Rattle.image.proofs.Trees.{action_inside, meant}
use Rattle.lists.proofs.Laws.{both_true}
use Rattle.text.proofs.Laws.{place_past}
use Rattle.text.specs.Text.{decimal_of}
use Rattle.table_text.specs.Longest.{LongestText}
use Rattle.table_text.specs.Print.{rows_from, line_of, text_from, text_of}
use Rattle.image.proofs.Faults.{check_fine}
use Rattle.table_text.proofs.Decimal.{place_short, decimal_short}
use Rattle.table_text.proofs.Printed.{line_short, text_is}

-- a number below 10, 100, 1,000, 10,000 has as many digits as the zeros of that
module _ (n : ℕ) where
  one_digit : n < 10 → length (decimal_of n) ≤ 1
  unfolding decimal_of
  one_digit h =
      rw (place_past n 10000 (omega arith) (omega arith), place_past n 1000 (omega arith) (omega arith))
      (rw (place_past n 100 (omega arith) (omega arith), place_past n 10 (omega arith) h) (omega arith))

  two_digits : n < 100 → length (decimal_of n) ≤ 2
  unfolding decimal_of
  two_digits h =
      rw (place_past n 10000 (omega arith) (omega arith), place_past n 1000 (omega arith) (omega arith), place_past n 100 (omega arith) h)
      (simp length-append (omega (arith, place_short n 10)))

  three_digits : n < 1000 → length (decimal_of n) ≤ 3
  unfolding decimal_of
  three_digits h =
      rw (place_past n 10000 (omega arith) (omega arith), place_past n 1000 (omega arith) h)
      (simp length-append (omega (arith, place_short n 100, place_short n 10)))

  four_digits : n < 10000 → length (decimal_of n) ≤ 4
  unfolding decimal_of
  four_digits h =
      rw (place_past n 10000 (omega arith) h)
      (simp length-append (omega (arith, place_short n 1000, place_short n 100, place_short n 10)))

-- a line of four numbers, and one of five: their digits, and a byte behind each
line_four : (k a b c : ℕ) → length (line_of (k ∷ a ∷ b ∷ c ∷ []))
    ≡ length (decimal_of k) + length (decimal_of a) + length (decimal_of b) + length (decimal_of c) + 4
unfolding line_of
line_four k a b c = simp length-append (omega arith)

line_five : (k a b c d : ℕ) → length (line_of (k ∷ a ∷ b ∷ c ∷ d ∷ []))
    ≡ length (decimal_of k) + length (decimal_of a) + length (decimal_of b) + length (decimal_of c) + length (decimal_of d) + 5
unfolding line_of
line_five k a b c d = simp length-append (omega arith)

-- a line of numbers below 1,000: at most four bytes a number
line_cells : (img : List ℕ) (at w : ℕ) → 1 ≤ w → ((i : ℕ) → i < w → word_at img (at + 2 * i) < 1000)
    → length (line_of (words_from img at w)) ≤ 4 * w
unfolding line_of words_from
line_cells img at zero h f = absurd (omega arith)
line_cells img at (suc zero) h f =
    let first : word_at img at < 1000 = rw add-zero at (f 0 h) in
    simp length-append (omega (arith, three_digits (word_at img at) first))
line_cells img at (suc (suc w)) h f =
    let first : word_at img at < 1000 = rw add-zero at (f 0 (omega arith)) in
    let p : (i : ℕ) → at + 2 + 2 * i ≡ at + 2 * suc i = λ i. omega arith in
    let rest = line_cells img (at + 2) (suc w) (omega arith) (λ i l. rw (p i) (f (suc i) (omega arith))) in
    simp length-append (omega (arith, three_digits (word_at img at) first, rest))

-- so many such lines
lines_cells : (img : List ℕ) (at n w : ℕ) → 1 ≤ w → ((i : ℕ) → i < n * w → word_at img (at + 2 * i) < 1000)
    → length (text_from (rows_from img at n w)) ≤ 4 * (n * w)
unfolding text_from rows_from
lines_cells img at zero w h f = omega arith
lines_cells img at (suc n) w h f =
    let m : suc n * w ≡ w + n * w = omega (arith, suc-mul n w) in
    let p : (i : ℕ) → at + 2 * w + 2 * i ≡ at + 2 * (w + i) = λ i. omega arith in
    let first = line_cells img at w h (λ i l. f i (omega arith)) in
    let rest = lines_cells img (at + 2 * w) n w h (λ i l. rw (p i) (f (w + i) (omega arith))) in
    simp length-append (omega arith)

-- lines of one width, each of at most k bytes
lines_within : (img : List ℕ) (at n w k : ℕ) → ((i : ℕ) → i < n → length (line_of (words_from img (at + i * (2 * w)) w)) ≤ k)
    → length (text_from (rows_from img at n w)) ≤ n * k
unfolding text_from rows_from
lines_within img at zero w k f = omega arith
lines_within img at (suc n) w k f =
    let z : at + 0 * (2 * w) ≡ at = omega arith in
    let p : (i : ℕ) → at + 2 * w + i * (2 * w) ≡ at + suc i * (2 * w) = λ i. omega (arith, suc-mul i (2 * w)) in
    let first : length (line_of (words_from img at w)) ≤ k = rw z at (f 0 (omega arith)) in
    let rest = lines_within img (at + 2 * w) n w k (λ i l. rw (p i) (f (suc i) (omega arith))) in
    simp length-append (omega (arith, suc-mul n k))

-- a choice that holds: the first where it is taken, or the second
kept : (P : Type 0) (t x y : Bool) → cond t x y ≡ true → (t ≡ true → x ≡ true → P) → (y ≡ true → P) → P
kept P true x y e f g = f refl e
kept P false x y e f g = g e

-- what a good form says: of the last three words only the first is used; or two, whose sum is in the list; or all, by a HoldTap
by_form : (P : Type 0) (e k a b c : ℕ) → form e k a b c ≡ true
    → (k ≤ 6 → b + c ≡ 0 → P) → (k ≤ 4 → a + b ≤ e → c ≡ 0 → P) → (k ≡ 7 → P) → P
unfolding form
by_form P e k a b c f one two three =
    kept P (leb k 1) _ _ f (λ t u. one (omega (arith, leb-true k 1 t)) (omega (arith, eqb-true (a + b + c) 0 u))) (λ f.
    kept P (eqb k 2) _ _ f (λ t u. one (omega (arith, eqb-true k 2 t)) (eqb-true (b + c) 0 u)) (λ f.
    kept P (leb k 4) _ _ f
    (λ t u. let h = both_true (leb (a + b) e) (eqb c 0) u in two (leb-true k 4 t) (leb-true (a + b) e h.0) (eqb-true c 0 h.1)) (λ f.
    kept P (leb k 6) _ _ f (λ t u. one (leb-true k 6 t) (eqb-true (b + c) 0 u)) (λ f. three (eqb-true k 7 f)))))

-- a record's line has at most 16 bytes: its words by its form, and those of a HoldTap below its own number
four_short : (e k a b c n : ℕ) → form e k a b c ≡ true → e ≤ 1024 → n < 256 → (k ≡ 7 → (b < n) × (c < n))
    → length (line_of (k ∷ a ∷ b ∷ c ∷ [])) ≤ 16
four_short e k a b c n f l m held =
    rw (line_four k a b c)
    (by_form _ e k a b c f
    (λ h z. omega (arith, one_digit k (omega arith), decimal_short a, one_digit b (omega arith), one_digit c (omega arith)))
    (λ h s z. omega (arith, one_digit k (omega arith), four_digits a (omega arith), four_digits b (omega arith), one_digit c (omega arith)))
    (λ h. let g = held h in
    omega (arith, one_digit k (omega arith), decimal_short a, three_digits b (omega arith), three_digits c (omega arith))))

-- the four words of a record
record_words : (img : List ℕ) (n : ℕ) → words_from img (records_start img + n * 8) 4
    ≡ field_of img n 0 ∷ field_of img n 2 ∷ field_of img n 4 ∷ field_of img n 6 ∷ []
unfolding words_from field_of
record_words img n =
    let from = records_start img + 8 * n in
    let is : records_start img + n * 8 ≡ from = omega arith in
    let four : from + 2 + 2 ≡ from + 4 = omega arith in
    let six : from + 4 + 2 ≡ from + 6 = omega arith in
    rw (is, four, six, add-zero)

-- the parts of an accepted image's text, and the whole
module _ (img : List ℕ) (s : Sound img) where
  -- the counts: at most 8 8 16 256 1024 and the newline
  counts_short : length (line_of (words_from img 2 5)) ≤ 16
  unfolding words_from
  counts_short =
      let f = s.framed in
      rw (line_five (layers_of img) (rows_of img) (columns_of img) (records_of img) (entries_of img))
      (omega (
        arith,
        one_digit (layers_of img) (omega (arith, f.layers.1)),
        one_digit (rows_of img) (omega (arith, f.rows.1)),
        two_digits (columns_of img) (omega (arith, f.columns.1)),
        three_digits (records_of img) (omega (arith, f.records.1)),
        four_digits (entries_of img) (omega (arith, f.entries)),
      ))

  -- the cells: each names a record
  cells_short : length (text_from (rows_from img 16 (layers_of img * rows_of img) (columns_of img))) ≤ 4 * cells_of img
  unfolding cell_of
  cells_short = lines_cells img 16 _ _ s.framed.columns.0 (λ i l. omega (arith, s.cells i l, s.framed.records.1))

  -- hold and tap of a HoldTap are lower records
  children_lower : (n : ℕ) → n < records_of img → field_of img n 0 ≡ 7 → (field_of img n 4 < n) × (field_of img n 6 < n)
  unfolding action_of
  children_lower n h is =
      let same : action_at img n ≡ HoldTap (field_of img n 2) (field_of img n 4) (field_of img n 6) = action_inside img n h ∙ rw is in
      hold_lower img n (field_of img n 4) (field_of img n 6) (field_of img n 2) (meant img n (s.records n h) refl same)

  -- a record, and all of them
  record_short : (n : ℕ) → n < records_of img → length (line_of (words_from img (records_start img + n * 8) 4)) ≤ 16
  unfolding form_good
  record_short n h =
      let below : n < 256 = omega (arith, s.framed.records.1) in
      rw (record_words img n)
      (four_short (entries_of img) _ _ _ _ n (s.records n h).form s.framed.entries below (children_lower n h))

  records_short : length (text_from (rows_from img (records_start img) (records_of img) 4)) ≤ records_of img * 16
  records_short = lines_within img (records_start img) (records_of img) 4 16 record_short

  -- the entries: any words
  entries_short : length (text_from (rows_from img (list_start img) (entries_of img) 1)) ≤ entries_of img * 6
  entries_short = lines_within img (list_start img) (entries_of img) 1 6 (λ i l. line_short img (list_start img + i * 2) 1 (omega arith))

  all_short : length (text_of img) ≤ 14352
  all_short =
      let few = (small img (shape_of img) s.framed refl).1 in
      rw (text_is img (shape_of img) refl)
      (simp length-append
      (omega (arith, few, counts_short, cells_short, records_short, entries_short, s.framed.records.1, s.framed.entries)))

pub longest_text : LongestText
unfolding LongestText
longest_text image kept = all_short image (accepted image (shape_of image) (check_fine image kept)).1
