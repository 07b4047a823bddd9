-- The rows of a text that fits, and the text of rows that fit. Assumes nothing.
use Prim.Native.Nat.{ℕ, ◌+◌}
use mathlib.Core.Bool.{true}
use mathlib.Core.List.{List, [], ◌∷◌, ◌++◌}
use mathlib.Core.Path.{◌≡◌, refl, sym, ap, ◌∙◌}
use native.Mathlib.Omega.{arith}
use borrow.Author.Tests.{eqb-true}
use lib.Dec.{eqb, leb, ltb}
use lib.ListN.{length, drop, get_or}
use lib.Seq.{append_snoc}
use Rattle.image.specs.declared.words.Shape.{Shape}
use Rattle.lists.proofs.Laws.{both_true, every_head}
use Rattle.lists.specs.Lists.{every}
use Rattle.refusal.proofs.Verdicts.{rule_fine}
use Rattle.refusal.specs.Verdict.{fine, rule}
use Rattle.refusal.specs.declared.Refusal.TheVariants.{Text}
use Rattle.table_text.proofs.Parts.{parts_cut, parts_some}
use Rattle.table_text.proofs.PlainText.{plain_past, joined, joined_parts, line_plain, written, line_written, written_free, row_back}
use Rattle.table_text.proofs.Rows.{flat, shaped, small}
use Rattle.table_text.specs.Lines.{parts, single, Row, Numbers, Unfit, row_of, numbers_in, numbers_of}
use Rattle.table_text.specs.Plain.{plain, unzeroed}
use Rattle.table_text.specs.Print.{text_from}
use Rattle.table_text.specs.Write.{asks, lines_asked, fits_at, lines_fault, counts_in, shape_from, text_fault}

-- the rows of the closed lines: of all parts but the last
unfoldable pub rows_of_parts : List (List ℕ) → List (List ℕ)
rows_of_parts [] = []
rows_of_parts (last ∷ []) = []
rows_of_parts (line ∷ (next ∷ more)) = numbers_in (row_of line) ∷ rows_of_parts (next ∷ more)

unfoldable pub rows_of_text : List ℕ → List (List ℕ)
rows_of_text text = rows_of_parts (parts 10 text)

-- a row that fits has numbers, as many as are asked for
pub fits_row : (s : Shape) (i : ℕ) (row : Row) → fits_at s i row ≡ true
    → (row ≡ Numbers (numbers_in row)) × (asks s i (length (numbers_in row)) ≡ true)
unfolding fits_at numbers_in
fits_row s i (Numbers ns) e = (refl, e)
fits_row s i Unfit e = (cc, cc)

-- the last part fits: it is empty, and no line is missing
pub last_fits : (s : Shape) (i : ℕ) (p : List ℕ) → lines_fault s i (p ∷ []) ≡ fine → (p ≡ []) × (ltb (lines_asked s) i ≡ true)
unfolding lines_fault
last_fits s i p e =
    let h = both_true (eqb (length p) 0) (ltb (lines_asked s) i) (rule_fine _ Text i fine e).0 in
    (none p (eqb-true (length p) 0 h.0), h.1)
  where
    none : (l : List ℕ) → length l ≡ 0 → l ≡ []
    none [] z = refl
    none (c ∷ cs) z = absurd (omega arith)

-- a closed line fits, and those behind it
pub line_fits : (s : Shape) (i : ℕ) (p q : List ℕ) (ps : List (List ℕ)) → lines_fault s i (p ∷ q ∷ ps) ≡ fine
    → (row_of p ≡ Numbers (numbers_in (row_of p))) × (asks s i (length (numbers_in (row_of p))) ≡ true) × (lines_fault s (i + 1) (q ∷ ps) ≡ fine)
unfolding lines_fault
line_fits s i p q ps e =
    let h = rule_fine (fits_at s i (row_of p)) Text i (lines_fault s (i + 1) (q ∷ ps)) e in
    let r = fits_row s i (row_of p) h.0 in
    (r.0, r.1, h.1)

-- of parts that fit: their rows are as the counts ask, of words; their numbers are the rows'; their plain form is the rows' text
pub parts_shaped : (s : Shape) (i : ℕ) (p : List ℕ) (ps : List (List ℕ)) → lines_fault s i (p ∷ ps) ≡ fine
    → shaped s i (rows_of_parts (p ∷ ps)) ≡ true
unfolding rows_of_parts shaped
parts_shaped s i p [] e = (last_fits s i p e).1
parts_shaped s i p (q ∷ ps) e =
    let h = line_fits s i p q ps e in
    rw h.1 (parts_shaped s (i + 1) q ps h.2)

pub parts_numbers : (s : Shape) (i : ℕ) (p : List ℕ) (ps : List (List ℕ)) → lines_fault s i (p ∷ ps) ≡ fine
    → numbers_of (p ∷ ps) ≡ flat (rows_of_parts (p ∷ ps))
unfolding rows_of_parts numbers_of flat row_of numbers_in
parts_numbers s i p [] e = rw (last_fits s i p e).0
parts_numbers s i p (q ∷ ps) e =
    let h = line_fits s i p q ps e in
    ap (λ (x : List ℕ). numbers_in (row_of p) ++ x) (parts_numbers s (i + 1) q ps h.2)

pub parts_others : (s : Shape) (i : ℕ) (p : List ℕ) (ps : List (List ℕ)) → lines_fault s i (p ∷ ps) ≡ fine
    → numbers_of ps ≡ flat (drop 1 (rows_of_parts (p ∷ ps)))
unfolding rows_of_parts numbers_of flat
parts_others s i p [] e = refl
parts_others s i p (q ∷ ps) e = parts_numbers s (i + 1) q ps (line_fits s i p q ps e).2

pub parts_first : (s : Shape) (i : ℕ) (p : List ℕ) (ps : List (List ℕ)) → lines_fault s i (p ∷ ps) ≡ fine
    → numbers_in (row_of p) ≡ get_or (rows_of_parts (p ∷ ps)) 0 []
unfolding rows_of_parts row_of numbers_in
parts_first s i p [] e = rw (last_fits s i p e).0
parts_first s i p (q ∷ ps) e = refl

pub plain_none : plain [] ≡ []
unfolding plain single unzeroed
plain_none = refl

pub parts_plain : (s : Shape) (i : ℕ) (p : List ℕ) (ps : List (List ℕ)) → lines_fault s i (p ∷ ps) ≡ fine
    → plain (joined 10 (p ∷ ps)) ≡ text_from (rows_of_parts (p ∷ ps))
unfolding rows_of_parts joined text_from
parts_plain s i p [] e = rw (last_fits s i p e).0 plain_none
parts_plain s i p (q ∷ ps) e =
    let h = line_fits s i p q ps e in
    plain_past p (joined 10 (q ∷ ps))
    ∙ rw (← line_plain p (numbers_in (row_of p)) h.0, append_snoc, parts_plain s (i + 1) q ps h.2)

-- so of a text that fits
module _ (text : List ℕ) (kept : text_fault text ≡ fine) where
  pub fine_parts : lines_fault (counts_in text) 1 (get_or (parts 10 text) 0 [] ∷ drop 1 (parts 10 text)) ≡ fine
  unfolding text_fault
  fine_parts = sym (ap (lines_fault (counts_in text) 1) (parts_some 10 text)) ∙ kept

  pub text_shaped : shaped (counts_in text) 1 (rows_of_text text) ≡ true
  unfolding rows_of_text
  text_shaped = rw (parts_some 10 text) (parts_shaped (counts_in text) 1 _ _ fine_parts)

  pub text_counts : counts_in text ≡ shape_from (get_or (rows_of_text text) 0 [])
  unfolding rows_of_text counts_in
  text_counts =
      ap shape_from
      (parts_first (counts_in text) 1 _ _ fine_parts
      ∙ ap (λ (x : List (List ℕ)). get_or (rows_of_parts x) 0 []) (sym (parts_some 10 text)))

  pub text_numbers : numbers_of (drop 1 (parts 10 text)) ≡ flat (drop 1 (rows_of_text text))
  unfolding rows_of_text
  text_numbers =
      parts_others (counts_in text) 1 _ _ fine_parts
      ∙ ap (λ (x : List (List ℕ)). flat (drop 1 (rows_of_parts x))) (sym (parts_some 10 text))

  pub text_plain : plain text ≡ text_from (rows_of_text text)
  unfolding rows_of_text
  text_plain =
      ap plain (sym (joined_parts 10 text) ∙ ap (joined 10) (parts_some 10 text))
      ∙ parts_plain (counts_in text) 1 _ _ fine_parts
      ∙ ap (λ (x : List (List ℕ)). text_from (rows_of_parts x)) (sym (parts_some 10 text))

-- a text of rows, parted: the first row's line, and the others
pub parts_text : (row : List ℕ) (rows : List (List ℕ)) → parts 10 (text_from (row ∷ rows)) ≡ written row ∷ parts 10 (text_from rows)
unfolding text_from
parts_text row rows = rw (line_written row, append_snoc) (parts_cut 10 (written row) (text_from rows) (written_free row))

-- a closed line that fits, behind which others are
pub fault_on : (s : Shape) (i : ℕ) (line : List ℕ) (ps : List (List ℕ)) → ps ≡ get_or ps 0 [] ∷ drop 1 ps → fits_at s i (row_of line) ≡ true
    → lines_fault s i (line ∷ ps) ≡ lines_fault s (i + 1) ps
unfolding lines_fault rule
fault_on s i line [] e f = let z : ◌≡◌ {A = ℕ} 0 1 = ap length e in absurd (omega arith)
fault_on s i line (p ∷ ps) e f = rw f

-- the first row of words, and the others; a written row fits where as many numbers are asked for
pub small_head : (row : List ℕ) (rows : List (List ℕ)) → small (row ∷ rows) ≡ true
    → (every (λ n. leb n 65535) row ≡ true) × (small rows ≡ true)
unfolding small
small_head row rows k = every_head (every (λ n. leb n 65535)) row rows k

pub row_fits : (s : Shape) (i : ℕ) (row : List ℕ) → every (λ n. leb n 65535) row ≡ true → asks s i (length row) ≡ true
    → fits_at s i (row_of (written row)) ≡ true
unfolding fits_at
row_fits s i row k e = rw (row_back row k) e

-- so the text of rows of words that are as the counts ask fits, and gives the rows' numbers and counts back
pub rows_fine : (s : Shape) (i : ℕ) (rows : List (List ℕ)) → small rows ≡ true → shaped s i rows ≡ true
    → lines_fault s i (parts 10 (text_from rows)) ≡ fine
unfolding shaped text_from parts lines_fault rule
rows_fine s i [] k e = rw e
rows_fine s i (row ∷ rows) k e =
    let h = small_head row rows k in
    let a = both_true (asks s i (length row)) (shaped s (i + 1) rows) e in
    ap (lines_fault s i) (parts_text row rows)
    ∙ fault_on s i (written row) (parts 10 (text_from rows)) (parts_some 10 (text_from rows)) (row_fits s i row h.0 a.0)
    ∙ rows_fine s (i + 1) rows h.1 a.1

pub rows_all : (rows : List (List ℕ)) → small rows ≡ true → numbers_of (parts 10 (text_from rows)) ≡ flat rows
unfolding text_from parts numbers_of row_of numbers_in flat
rows_all [] k = refl
rows_all (row ∷ rows) k =
    let h = small_head row rows k in
    ap numbers_of (parts_text row rows) ∙ rw (row_back row h.0, rows_all rows h.1)

pub rows_numbers : (rows : List (List ℕ)) → small rows ≡ true → numbers_of (drop 1 (parts 10 (text_from rows))) ≡ flat (drop 1 rows)
unfolding text_from parts numbers_of flat
rows_numbers [] k = refl
rows_numbers (row ∷ rows) k =
    ap (λ (x : List (List ℕ)). numbers_of (drop 1 x)) (parts_text row rows) ∙ rows_all rows (small_head row rows k).1

pub rows_counts : (rows : List (List ℕ)) → small rows ≡ true → counts_in (text_from rows) ≡ shape_from (get_or rows 0 [])
unfolding text_from parts counts_in row_of numbers_in
rows_counts [] k = refl
rows_counts (row ∷ rows) k =
    ap (λ (x : List (List ℕ)). shape_from (numbers_in (row_of (get_or x 0 [])))) (parts_text row rows)
    ∙ rw (row_back row (small_head row rows k).0)

pub rows_fit : (rows : List (List ℕ)) → small rows ≡ true → shaped (shape_from (get_or rows 0 [])) 1 rows ≡ true
    → text_fault (text_from rows) ≡ fine
unfolding text_fault
rows_fit rows k e = rw (rows_counts rows k) (rows_fine (shape_from (get_or rows 0 [])) 1 rows k e)
