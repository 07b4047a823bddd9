-- Laws of a text that is read line by line. Assumes nothing.
use Prim.Native.Nat.{ℕ, suc, ◌+◌, ◌*◌, ◌<◌, ◌≤◌}
use mathlib.Core.Bool.{true, false}
use mathlib.Core.List.{List, [], ◌∷◌, ◌++◌, append_assoc, append-nil}
use mathlib.Core.Path.{◌≡◌, refl, sym, ap, ◌∙◌}
use native.Mathlib.Omega.{arith}
use borrow.Author.Tests.{ne_eqb, le-ltb, lt-ltb}
use lib.ListN.{length, length-append, length-take, take, drop, get_or}
use lib.Seq.{sets, sets-eq}
use Rattle.std.specs.Prelude.{Option, Some, None, Result, Ok, Err, ⊤, ok_or}
use Rattle.image.specs.Words.{words_from}
use Rattle.image.specs.declared.words.Shape.{Shape}
use Rattle.refusal.specs.Verdict.{fine, fault_at, refused, rule, granted}
use Rattle.refusal.specs.declared.Fault.{Fault}
use Rattle.refusal.specs.declared.Refusal.TheVariants.{Text}
use Rattle.table_text.specs.Lines.{parts, Row, Numbers, Unfit, row_of, numbers_in, numbers_of}
use Rattle.table_text.specs.Write.{shape_from, asks, lines_asked, fits_at, lines_fault, counts_in, text_fault, bytes_of}
use Rattle.table_text.specs.Inside.{index_of, counted_of, ReadsLine, ReadsLines, ReadsText}
use Rattle.table_text.proofs.Asked.{asks_first}
use Rattle.table_text.proofs.Laid.{sets_append}
use Rattle.table_text.proofs.Parts.{parts_cut, parts_none, parts_some, index_free, index_cut, index_none}
use Rattle.table_text.proofs.TextRows.{fault_on}
use Rattle.table_text.proofs.WordBytes.{bytes_append, bytes_length, words_back}

-- what a count says of a line
pub counted_numbers : (row : Row) (n : ℕ) → Some n ≡ counted_of row → (row ≡ Numbers (numbers_in row)) × (length (numbers_in row) ≡ n)
unfolding numbers_in
counted_numbers (Numbers ns) n e = (refl, cc)
counted_numbers Unfit n e = (cc, cc)

pub counted_unfit : (row : Row) → None ≡ counted_of row → row ≡ Unfit
counted_unfit (Numbers ns) e = cc
counted_unfit Unfit e = refl

-- of the first line, which is told by its length: how many numbers it has; there are no more of them than bytes, and they are laid
-- as words from word k on; or it has a word that is no number
module _ (T : List ℕ) (m : ℕ) (x : Option ℕ) (e : m ≡ index_of 10 T) where
  pub line_numbers : (n : ℕ) → x ≡ counted_of (row_of (take m T)) → x ≡ Some n
      → Some n ≡ counted_of (row_of (take (index_of 10 T) T))
  line_numbers n r is = sym is ∙ r ∙ ap (λ j. counted_of (row_of (take j T))) e

  pub line_laid : (n k : ℕ) (was image : List ℕ) → ReadsLine (take m T) k was x image → x ≡ Some n
      → (n ≤ index_of 10 T) × (image ≡ sets was (2 * k) (bytes_of (numbers_in (row_of (take (index_of 10 T) T)))))
  line_laid n k was image r is =
      let p = counted_numbers _ _ (line_numbers n r.0 is) in
      let told = r.1 _ (ap (λ j. row_of (take j T)) e ∙ p.0) in
      (omega (arith, p.1, simp length-take at told.0, e), told.1)

  pub line_unfit : x ≡ counted_of (row_of (take m T)) → x ≡ None → row_of (take (index_of 10 T) T) ≡ Unfit
  line_unfit r is = ap (λ j. row_of (take j T)) (sym e) ∙ counted_unfit _ (sym is ∙ r)

-- a line that has so many numbers fits its place or not, and one that has a word that is no number does not
pub fits_numbers : (s : Shape) (i : ℕ) (row : Row) → row ≡ Numbers (numbers_in row) → fits_at s i row ≡ asks s i (length (numbers_in row))
unfolding fits_at
fits_numbers s i row e = ap (fits_at s i) e

pub fits_unfit : (s : Shape) (i : ℕ) (row : Row) → row ≡ Unfit → fits_at s i row ≡ false
unfolding fits_at
fits_unfit s i row e = ap (fits_at s i) e

-- a line of which nothing is read is refused
pub unread : (x : Option ℕ) (i : ℕ) (a : Fault) → Err a ≡ ok_or x (fault_at Text i) → (x ≡ None) × (refused {A = ⊤} Text i ≡ Err a)
unread (Some n) i a e = (cc, cc)
unread None i a e = (refl, cc)

-- the first line of what is left of a text, closed by a newline
pub line_cut : (l : List ℕ) → index_of 10 l < length l → parts 10 l ≡ take (index_of 10 l) l ∷ parts 10 (drop (suc (index_of 10 l)) l)
line_cut l h = ap (parts 10) (index_cut 10 l h) ∙ parts_cut 10 (take (index_of 10 l) l) (drop (suc (index_of 10 l)) l) (index_free 10 l)

-- what is left: not closed; a closed line that does not fit, or that does; nothing
module _ (s : Shape) (i : ℕ) (l : List ℕ) where
  pub fault_open : 0 < length l → index_of 10 l ≡ length l → lines_fault s i (parts 10 l) ≡ refused Text i
  unfolding lines_fault rule
  fault_open h e =
      let some : length l ≡ 0 → ⊥ = λ z. omega arith in
      rw (parts_none 10 l (index_none 10 l e), ne_eqb (length l) 0 some)

  module _ (h : index_of 10 l < length l) where
    pub fault_line : fits_at s i (row_of (take (index_of 10 l) l)) ≡ false → lines_fault s i (parts 10 l) ≡ refused Text i
    unfolding lines_fault rule
    fault_line e = rw (line_cut l h, parts_some 10 (drop (suc (index_of 10 l)) l), e)

    pub fault_next : fits_at s i (row_of (take (index_of 10 l) l)) ≡ true
        → lines_fault s i (parts 10 l) ≡ lines_fault s (i + 1) (parts 10 (drop (suc (index_of 10 l)) l))
    fault_next e =
        ap (lines_fault s i) (line_cut l h) ∙ fault_on s i (take (index_of 10 l) l) _ (parts_some 10 (drop (suc (index_of 10 l)) l)) e

    pub numbers_next : numbers_of (parts 10 l) ≡ numbers_in (row_of (take (index_of 10 l) l)) ++ numbers_of (parts 10 (drop (suc (index_of 10 l)) l))
    unfolding numbers_of
    numbers_next = ap numbers_of (line_cut l h)

pub fault_missing : (s : Shape) (i : ℕ) → i ≤ lines_asked s → lines_fault s i (parts 10 []) ≡ refused Text i
unfolding lines_fault parts rule
fault_missing s i h = rw (le-ltb (lines_asked s) i h)

pub fault_none : (s : Shape) (i : ℕ) → lines_asked s < i → lines_fault s i (parts 10 []) ≡ fine
unfolding lines_fault parts rule
fault_none s i h = rw (lt-ltb (lines_asked s) i h)

-- a text of which the lines up to line i are read, with their numbers laid behind the header up to word k, and this is left
pub record Lines (whole was image : List ℕ) (s : Shape) (i k : ℕ) (left : List ℕ) : Type 0 where
  pub ns : List ℕ
  pub many : length ns + 8 ≡ k
  pub judges : lines_fault s 2 (parts 10 whole) ≡ lines_fault s i (parts 10 left)
  pub numbers : numbers_of (parts 10 whole) ≡ ns ++ numbers_of (parts 10 left)
  pub holds : image ≡ sets was 16 (bytes_of ns)

pub lines_start : (whole was : List ℕ) (s : Shape) → Lines whole was was s 2 8 whole
unfolding bytes_of
lines_start whole was s = record { ns = []; many = refl; judges = refl; numbers = refl; holds = refl }

module _ {whole was image : List ℕ} {s : Shape} {i k : ℕ} {left : List ℕ} (so : Lines whole was image s i k left) where
  -- a line more, which fits
  pub lines_more : (h : index_of 10 left < length left) (n : ℕ) (after : List ℕ) → Some n ≡ counted_of (row_of (take (index_of 10 left) left))
      → asks s i n ≡ true → after ≡ sets image (2 * k) (bytes_of (numbers_in (row_of (take (index_of 10 left) left))))
      → Lines whole was after s (i + 1) (k + n) (drop (suc (index_of 10 left)) left)
  lines_more h n after c e a =
      let row = row_of (take (index_of 10 left) left) in
      let p = counted_numbers row n c in
      let at : 16 + length (bytes_of so.ns) ≡ 2 * k = omega (arith, bytes_length so.ns, so.many) in
      let fits : fits_at s i row ≡ true = fits_numbers s i row p.0 ∙ ap (asks s i) p.1 ∙ e in
      record {
        ns = so.ns ++ numbers_in row;
        many = simp length-append (omega (arith, so.many, p.1));
        judges = so.judges ∙ fault_next s i left h fits;
        numbers = so.numbers ∙ ap (λ l. so.ns ++ l) (numbers_next s i left h) ∙ sym (append_assoc so.ns (numbers_in row) _);
        holds = a ∙ rw (bytes_append so.ns (numbers_in row), sets_append was 16 (bytes_of so.ns) (bytes_of (numbers_in row)), at, ← so.holds);
      }

  -- the line at fault, whatever is laid; and the end of a text that fits
  pub lines_fault_lem : (a : Fault) (after : List ℕ) → lines_fault s i (parts 10 left) ≡ Err a → ReadsLines whole s was (Err a) after
  lines_fault_lem a after e =
      let is : lines_fault s 2 (parts 10 whole) ≡ Err a = so.judges ∙ e in
      (rw is, λ kept. (let no : ◌≡◌ {A = ℕ} 0 1 = cc in absurd (omega arith)))

  pub lines_end : left ≡ [] → lines_asked s < i → ReadsLines whole s was (Ok s) image
  unfolding numbers_of parts numbers_in row_of
  lines_end none past =
      let is : lines_fault s 2 (parts 10 whole) ≡ fine = so.judges ∙ ap (λ l. lines_fault s i (parts 10 l)) none ∙ fault_none s i past in
      let all : numbers_of (parts 10 whole) ≡ so.ns = so.numbers ∙ ap (λ l. so.ns ++ numbers_of (parts 10 l)) none ∙ append-nil so.ns in
      (rw is, λ kept. so.holds ∙ ap (λ l. sets was 16 (bytes_of l)) (sym all))

-- a text whose first line is not closed
pub text_open : (text : List ℕ) → index_of 10 text ≡ length text → text_fault text ≡ refused Text 1
unfolding text_fault
text_open [] e = fault_missing (counts_in []) 1 (omega arith)
text_open (c ∷ cs) e = fault_open (counts_in (c ∷ cs)) 1 (c ∷ cs) (omega arith) e

-- a text whose first line is: its counts, and its other lines
module _ (text : List ℕ) (h : index_of 10 text < length text) where
  pub first_is : get_or (parts 10 text) 0 [] ≡ take (index_of 10 text) text
  first_is = ap (λ ps. get_or ps 0 []) (line_cut text h)

  pub others_are : drop 1 (parts 10 text) ≡ parts 10 (drop (suc (index_of 10 text)) text)
  others_are = ap (drop 1) (line_cut text h)

  pub text_line : fits_at (counts_in text) 1 (row_of (take (index_of 10 text) text)) ≡ false → text_fault text ≡ refused Text 1
  unfolding text_fault
  text_line e = fault_line (counts_in text) 1 text h e

  pub text_next : fits_at (counts_in text) 1 (row_of (take (index_of 10 text) text)) ≡ true
      → text_fault text ≡ lines_fault (counts_in text) 2 (parts 10 (drop (suc (index_of 10 text)) text))
  unfolding text_fault
  text_next e = fault_next (counts_in text) 1 text h e

  pub counts_are : counts_in text ≡ shape_from (numbers_in (row_of (take (index_of 10 text) text)))
  unfolding counts_in
  counts_are = ap (λ l. shape_from (numbers_in (row_of l))) first_is

-- the text is refused at a line, whatever is laid
pub text_fault_lem : (text was : List ℕ) (a : Fault) (after : List ℕ) → text_fault text ≡ Err a → ReadsText text was (Err a) after
text_fault_lem text was a after e = (rw e, λ kept. (let no : ◌≡◌ {A = ℕ} 0 1 = cc in absurd (omega arith)))

-- five words behind the version are there to be read
pub five_words : (image five : List ℕ) → length image ≡ 6160 → length five ≡ 5 → words_from (sets image 2 (bytes_of five)) 2 5 ≡ five
five_words image five full e =
    let long : length (bytes_of five) ≡ 10 = omega (arith, bytes_length five, e) in
    let two : length (take 2 image) ≡ 2 = simp length-take (omega (arith, full)) in
    let back = words_back (take 2 image) five (drop (2 + length (bytes_of five)) image) 2 two in
    rw (sets-eq (bytes_of five) image 2 (omega (arith, long, full)), append_assoc (take 2 image) (bytes_of five) (drop (2 + length (bytes_of five)) image), ← e) back

-- the first line has the counts, and the others are read by them
pub text_read : (text was image after : List ℕ) (x : Result Shape Fault) (h : index_of 10 text < length text)
    → (let row = row_of (take (index_of 10 text) text) in
    row ≡ Numbers (numbers_in row) → length (numbers_in row) ≡ 5 → image ≡ sets was 2 (bytes_of (numbers_in row))
    → ReadsLines (drop (suc (index_of 10 text)) text) (counts_in text) image x after → ReadsText text was x after)
text_read text was image after x h is five laid reads =
    let s = counts_in text in
    let row = row_of (take (index_of 10 text) text) in
    let fits : fits_at s 1 row ≡ true = fits_numbers s 1 row is ∙ ap (asks s 1) five ∙ asks_first s 1 5 (omega arith) in
    let next = text_next text h fits in (
      reads.0 ∙ ap (λ f. granted f s) (sym next),
      λ kept. reads.1 (sym next ∙ kept) ∙ rw (first_is text h, others_are text h, laid),
    )
