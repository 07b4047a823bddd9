-- Laws of the printed text: how long a number and a line are, and a line and the lines one step along. Assumes nothing.
use Prim.Native.Nat.{ℕ, zero, suc, ◌+◌, ◌*◌, ◌-◌, ◌<◌, ◌≤◌}
use mathlib.Core.Bool.{Bool, true, false, cond}
use mathlib.Core.List.{List, [], ◌∷◌, ◌++◌, append_assoc}
use mathlib.Core.Path.{◌≡◌, refl, sym, ap, ◌∙◌}
use native.Mathlib.Nat.{mul-suc}
use native.Mathlib.Omega.{arith}
use borrow.Author.Tests.{eq-eqb, ne_eqb, eqb-true, eqb-false}
use lib.Dec.{eqb}
use lib.ListN.{length, length-append}
use Rattle.image.specs.Words.{word_at, layers_of, rows_of, columns_of, records_of, entries_of, records_start, list_start, words_from, shape_of}
use Rattle.image.specs.declared.words.Shape.{Shape}
use Rattle.image.proofs.Entries.{length_words}
use Rattle.image.proofs.HeaderRules.{small}
use Rattle.text.specs.Text.{decimal_of}
use Rattle.table_text.specs.Print.{line_of, text_from, rows_from, rows_in, text_of}
use Rattle.table_text.specs.Inside.{marked, Headed}
use Rattle.table_text.proofs.Decimal.{decimal_short}

-- a number takes five bytes at most, and one behind it
marked_short : (ns : List ℕ) → length (marked ns) ≤ 6 * length ns
unfolding marked
marked_short [] = omega arith
marked_short (n ∷ []) = simp length-append (omega (arith, decimal_short n))
marked_short (n ∷ (m ∷ ns)) = simp length-append (omega (arith, decimal_short n, marked_short (m ∷ ns)))

-- a line that has a number
line_marked : (ns : List ℕ) → 0 < length ns → line_of ns ≡ marked ns
unfolding line_of marked
line_marked [] h = absurd (omega arith)
line_marked (n ∷ []) h = refl
line_marked (n ∷ (m ∷ ns)) h = ap (λ l. decimal_of n ++ (32 ∷ l)) (line_marked (m ∷ ns) (omega arith))

pub line_is : (img : List ℕ) (from width : ℕ) → 1 ≤ width → line_of (words_from img from width) ≡ marked (words_from img from width)
line_is img from width h = line_marked (words_from img from width) (rw (length_words img from width) h)

pub line_short : (img : List ℕ) (from width : ℕ) → 1 ≤ width → length (line_of (words_from img from width)) ≤ 6 * width
line_short img from width h =
    let e : length (words_from img from width) ≡ width = length_words img from width in
    rw (line_is img from width h) (omega (arith, e, marked_short (words_from img from width)))

-- one number of a line more, and what stands behind it
marks_one : (img : List ℕ) (at left : ℕ) → marked (words_from img at (suc left))
    ≡ decimal_of (word_at img at) ++ (cond (eqb left 0) 10 32 ∷ []) ++ marked (words_from img (at + 2) left)
unfolding marked words_from
marks_one img at zero = sym (append_assoc (decimal_of (word_at img at)) (10 ∷ []) [])
marks_one img at (suc left) =
    let more : suc left ≡ 0 → ⊥ = λ e. omega arith in
    rw (ne_eqb (suc left) 0 more) (sym (append_assoc (decimal_of (word_at img at)) (32 ∷ []) (marked (words_from img (at + 2) (suc left)))))

pub marks_on : (img : List ℕ) (from width i : ℕ) → i < width
    → marked (words_from img (from + 2 * i) (width - i))
    ≡ decimal_of (word_at img (from + 2 * i)) ++ (cond (eqb (i + 1) width) 10 32 ∷ []) ++ marked (words_from img (from + 2 * (i + 1)) (width - (i + 1)))
marks_on img from width i h =
    let k : width - i ≡ suc (width - (i + 1)) = omega arith in
    let p : from + 2 * i + 2 ≡ from + 2 * (i + 1) = omega arith in
    rw (k, marks_one img (from + 2 * i) (width - (i + 1)), p, last (i + 1) width (omega arith))
  where
    last : (j w : ℕ) → j ≤ w → eqb (w - j) 0 ≡ eqb j w
    last j w l = go (eqb j w) refl
      where
        go : (t : Bool) → eqb j w ≡ t → eqb (w - j) 0 ≡ t
        go true e = eq-eqb (w - j) 0 (omega (arith, eqb-true j w e))
        go false e =
            let other : j ≡ w → ⊥ = eqb-false j w e in
            ne_eqb (w - j) 0 (λ z. other (omega arith))

pub marks_none : (img : List ℕ) (at n : ℕ) → n ≡ 0 → marked (words_from img at n) ≡ []
unfolding marked words_from
marks_none img at n e = rw e

-- one line more
pub lines_on : (img : List ℕ) (from count width i : ℕ) → i < count
    → text_from (rows_from img (from + 2 * width * i) (count - i) width)
    ≡ line_of (words_from img (from + 2 * width * i) width) ++ text_from (rows_from img (from + 2 * width * (i + 1)) (count - (i + 1)) width)
unfolding text_from rows_from
lines_on img from count width i h =
    let k : count - i ≡ suc (count - (i + 1)) = omega arith in
    let p : from + 2 * width * i + 2 * width ≡ from + 2 * width * (i + 1) = omega (arith, mul-suc (2 * width) i) in
    rw (k, p)

pub lines_none : (img : List ℕ) (at left width : ℕ) → left ≡ 0 → text_from (rows_from img at left width) ≡ []
unfolding text_from rows_from
lines_none img at left width e = rw e

pub lines_short : (img : List ℕ) (at n width : ℕ) → 1 ≤ width → width ≤ 16 → length (text_from (rows_from img at n width)) ≤ 96 * n
unfolding text_from rows_from
lines_short img at zero width h k = omega arith
lines_short img at (suc n) width h k =
    simp length-append (omega (arith, line_short img at width h, lines_short img (at + 2 * width) n width h k))

-- the lines of two lists of rows; and so the whole text, by the header's numbers
text_append : (a b : List (List ℕ)) → text_from (a ++ b) ≡ text_from a ++ text_from b
unfolding text_from
text_append [] b = refl
text_append (row ∷ a) b = rw (text_append a b) (sym (append_assoc (line_of row) (text_from a) (text_from b)))

pub text_is : (img : List ℕ) (s : Shape) → s ≡ shape_of img → text_of img
    ≡ line_of (words_from img 2 5) ++ text_from (rows_from img 16 (s.layers * s.rows) s.columns)
    ++ text_from (rows_from img s.records_at s.records 4) ++ text_from (rows_from img s.list_at s.entries 1)
unfolding text_of rows_in text_from
text_is img s e =
    let first = words_from img 2 5 in
    let cells = rows_from img 16 (layers_of img * rows_of img) (columns_of img) in
    let records = rows_from img (records_start img) (records_of img) 4 in
    let entries = rows_from img (list_start img) (entries_of img) 1 in
    rw e (text_append (first ∷ cells ++ records) entries ∙ ap (λ l. l ++ text_from entries) (text_append (first ∷ cells) records))

-- what the header's rules say of the header's numbers
pub record Few (s : Shape) : Type 0 where
  pub rows : s.layers * s.rows ≤ 64
  pub column : 1 ≤ s.columns
  pub columns : s.columns ≤ 16
  pub records : s.records ≤ 256
  pub entries : s.entries ≤ 1024
  pub records_at : s.records_at ≤ 2064
  pub list_at : s.list_at ≤ 4112

pub few : (img : List ℕ) (s : Shape) → Headed img s → Few s
few img s h =
    let f = h.0 in
    let cells = small img (shape_of img) f refl in
    rw h.1
    (record {
      rows = cells.0;
      column = f.columns.0;
      columns = f.columns.1;
      records = f.records.1;
      entries = f.entries;
      records_at = omega (arith, cells.1, f.records_at);
      list_at = omega (arith, cells.1, f.records_at, f.list_at, f.records.1);
    })
