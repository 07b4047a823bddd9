-- The rows of an image, and the image of rows. Assumes nothing.
use Prim.Native.Nat.{ℕ, zero, suc, ◌+◌, ◌*◌, ◌<◌}
use mathlib.Core.Bool.{true}
use mathlib.Core.List.{List, [], ◌∷◌, ◌++◌, append-nil, append_assoc}
use mathlib.Core.Path.{◌≡◌, refl, sym, ap, ◌∙◌}
use native.Mathlib.Nat.{zero-mul, suc-mul, mul-one}
use native.Mathlib.Omega.{arith}
use borrow.Author.Tests.{eqb-true, eq-eqb}
use lib.Dec.{eqb, leb}
use lib.ListN.{length, get_or, drop, length-append}
use Rattle.lists.specs.Lists.{every}
use Rattle.lists.proofs.Laws.{both_true, every_append}
use Rattle.image.specs.Words.{word_at, words_from, version_of, layers_of, rows_of, columns_of, records_of, entries_of, records_start, list_start}
use Rattle.image.specs.Words.{shape_of, cells_of, size_of}
use Rattle.image.specs.Check.{counts_good, header_good, head_fault, body_fault, fault_of}
use Rattle.image.specs.Sound.{Framed}
use Rattle.image.specs.declared.words.Shape.{Shape}
use Rattle.image.proofs.Entries.{length_words}
use Rattle.image.proofs.HeaderRules.{headed, framed}
use Rattle.refusal.specs.declared.Refusal.TheVariants as refusal
use Rattle.refusal.specs.Verdict.{fine}
use Rattle.refusal.proofs.Verdicts.{rule_fine, or_fine}
use Rattle.table_text.specs.Write.{shape_from, bytes_of, image_from}
use Rattle.table_text.specs.Print.{rows_from, rows_in}
use Rattle.table_text.proofs.Rows.{flat, shaped, small}
use Rattle.table_text.proofs.WordBytes.{word_halves, bytes_length, bytes_append, bytes_back}
use Rattle.table_text.proofs.WordBytes.{words_split, words_back, words_small}
use Rattle.table_text.proofs.Shaped.{wide, wide_head, flat_three, flat_length, Split, split, join}

-- rows of an image: their numbers, how many they are, how wide, and that their numbers are words
pub rows_flat : (img : List ℕ) (at n w : ℕ) → flat (rows_from img at n w) ≡ words_from img at (n * w)
unfolding flat rows_from words_from
rows_flat img at zero w = rw zero-mul
rows_flat img at (suc n) w =
    let k : suc n * w ≡ w + n * w = omega (arith, suc-mul n w) in
    rw (k, words_split img at w (n * w), rows_flat img (at + 2 * w) n w)

pub rows_count : (img : List ℕ) (at n w : ℕ) → length (rows_from img at n w) ≡ n
unfolding rows_from
rows_count img at zero w = refl
rows_count img at (suc n) w = ap suc (rows_count img (at + 2 * w) n w)

pub rows_wide : (img : List ℕ) (at n w : ℕ) → wide w (rows_from img at n w) ≡ true
unfolding rows_from wide
rows_wide img at zero w = refl
rows_wide img at (suc n) w = rw (eq-eqb (length (words_from img at w)) w (length_words img at w)) (rows_wide img (at + 2 * w) n w)

pub rows_small : (img : List ℕ) (at n w : ℕ) → ((i : ℕ) → get_or img i 0 < 256) → small (rows_from img at n w) ≡ true
unfolding rows_from small
rows_small img at zero w b = refl
rows_small img at (suc n) w b = rw (words_small img at w b) (rows_small img (at + 2 * w) n w b)

-- the rows that bytes were made of
rows_whole : (pre : List ℕ) (rows : List (List ℕ)) (post : List ℕ) (at w : ℕ) → length pre ≡ at → wide w rows ≡ true
    → rows_from (pre ++ (bytes_of (flat rows) ++ post)) at (length rows) w ≡ rows
unfolding flat rows_from
rows_whole pre [] post at w e f = refl
rows_whole pre (row ∷ rows) post at w e f =
    let h = wide_head w row rows f in
    let rest = bytes_of (flat rows) ++ post in
    let s : bytes_of (row ++ flat rows) ++ post ≡ bytes_of row ++ rest = rw (bytes_append row (flat rows)) (append_assoc (bytes_of row) _ _) in
    let one : words_from (pre ++ (bytes_of row ++ rest)) at w ≡ row = rw (← h.0) (words_back pre row rest at e) in
    let long : length (pre ++ bytes_of row) ≡ at + 2 * w = simp (length-append, bytes_length) (omega (arith, h.0)) in
    let more : rows_from (pre ++ (bytes_of row ++ rest)) (at + 2 * w) (length rows) w ≡ rows =
    rw (← append_assoc pre (bytes_of row) rest) (rows_whole (pre ++ bytes_of row) rows post (at + 2 * w) w long h.1) in
    ap (λ x. words_from (pre ++ x) at w ∷ rows_from (pre ++ x) (at + 2 * w) (length rows) w) s ∙ rw (one, more)

pub rows_back : (pre : List ℕ) (rows : List (List ℕ)) (post : List ℕ) (at n w : ℕ) → length pre ≡ at → length rows ≡ n → wide w rows ≡ true
    → rows_from (pre ++ (bytes_of (flat rows) ++ post)) at n w ≡ rows
rows_back pre rows post at n w e f g = rw (← f) (rows_whole pre rows post at w e g)

-- an image without fault: its version and counts, and that its rows are as these ask for them
module _ (img : List ℕ) (kept : fault_of img ≡ fine) where
  head_fine : head_fault img (eqb (length img) (size_of img)) ≡ fine
  unfolding fault_of
  head_fine = (or_fine _ (body_fault img) (rule_fine _ refusal.Short 0 _ kept).1).0

  counts_fine : (version_of img ≡ 1) × (counts_good (version_of img) (shape_of img) ≡ true)
  unfolding header_good counts_good
  counts_fine =
      let good = (both_true (counts_good (version_of img) (shape_of img)) _ (headed img _ head_fine).0).0 in
      (eqb-true (version_of img) 1 (both_true (eqb (version_of img) 1) _ good).0, good)

  pub image_counts : counts_good 1 (shape_of img) ≡ true
  image_counts = ap (λ v. counts_good v (shape_of img)) (sym counts_fine.0) ∙ counts_fine.1

  image_framed : Framed img
  image_framed = framed img head_fine

  -- the first row holds the counts
  pub first_shape : shape_from (get_or (rows_in img) 0 []) ≡ shape_of img
  unfolding rows_in shape_from words_from
  first_shape = let f = image_framed in rw (f.list_at, f.records_at)

  -- its rows, part by part
  image_split : Split (shape_of img) (rows_in img)
  unfolding rows_in
  image_split = record {
    first = words_from img 2 5;
    cells = rows_from img 16 (layers_of img * rows_of img) (columns_of img);
    records = rows_from img (records_start img) (records_of img) 4;
    entries = rows_from img (list_start img) (entries_of img) 1;
    is = refl;
    five = length_words img 2 5;
    many_cells = rows_count img 16 _ _;
    wide_cells = rows_wide img 16 _ _;
    many_records = rows_count img (records_start img) _ 4;
    wide_records = rows_wide img (records_start img) _ 4;
    many_entries = rows_count img (list_start img) _ 1;
    wide_entries = rows_wide img (list_start img) _ 1;
  }

  -- its rows are those that its counts ask for
  pub rows_shaped : shaped (shape_of img) 1 (rows_in img) ≡ true
  rows_shaped = join (shape_of img) (rows_in img) image_split

-- every number of an image is a word
pub rows_words : (img : List ℕ) → ((i : ℕ) → get_or img i 0 < 256) → small (rows_in img) ≡ true
unfolding small rows_in
rows_words img b =
    let t = every (λ n. leb n 65535) in
    let cells = rows_from img 16 (layers_of img * rows_of img) (columns_of img) in
    let records = rows_from img (records_start img) (records_of img) 4 in
    let entries = rows_from img (list_start img) (entries_of img) 1 in
    let two = every_append t cells records (rows_small img 16 _ _ b) (rows_small img (records_start img) _ 4 b) in
    rw (words_small img 2 5 b) (every_append t (cells ++ records) entries two (rows_small img (list_start img) _ 1 b))

-- the numbers behind the header, and how many words there are in all
module _ (img : List ℕ) (f : Framed img) where
  image_words : flat (drop 1 (rows_in img)) ≡ words_from img 16 (cells_of img + records_of img * 4 + entries_of img)
  unfolding rows_in
  image_words =
      let cells = rows_from img 16 (layers_of img * rows_of img) (columns_of img) in
      let records = rows_from img (records_start img) (records_of img) 4 in
      let entries = rows_from img (list_start img) (entries_of img) 1 in
      let c = cells_of img in
      let a = records_of img * 4 in
      let first : records_start img ≡ 16 + 2 * c = f.records_at in
      let then : list_start img ≡ 16 + 2 * (c + a) = omega arith in
      flat_three cells records entries
      ∙ simp (rows_flat, mul-one) (rw (words_split img 16 (c + a) (entries_of img), words_split img 16 c a, first, then))

  image_long : length img ≡ 2 * (8 + (cells_of img + records_of img * 4 + entries_of img))
  image_long = omega arith

-- the image of its rows
pub image_again : (img : List ℕ) → fault_of img ≡ fine → ((i : ℕ) → get_or img i 0 < 256)
    → image_from (shape_of img) (flat (drop 1 (rows_in img))) ≡ img
unfolding image_from words_from
image_again img kept b =
    let f = image_framed img kept in
    let n = cells_of img + records_of img * 4 + entries_of img in
    let whole = bytes_back img (8 + n) b (image_long img f) in
    rw (image_words img f, ← (counts_fine img kept).0) (ap bytes_of (sym (words_split img 0 8 n)) ∙ whole)

-- the header of an image
head_of : Shape → List ℕ
head_of s = 1 ∷ s.layers ∷ s.rows ∷ s.columns ∷ s.records ∷ s.entries ∷ s.records_at ∷ s.list_at ∷ []

head_bytes : (s : Shape) (ns : List ℕ) → image_from s ns ≡ bytes_of (head_of s) ++ bytes_of ns
unfolding image_from bytes_of head_of
head_bytes s ns = refl

head_long : (s : Shape) → length (bytes_of (head_of s)) ≡ 16
unfolding bytes_of head_of
head_long s = refl

-- an image holds the counts that it was made from, as its shape and as its first row
pub shape_made : (s : Shape) (ns : List ℕ) → shape_of (image_from s ns) ≡ s
unfolding image_from bytes_of word_at
shape_made s ns = simp word_halves

counts_made : (s : Shape) (ns : List ℕ) → words_from (image_from s ns) 2 5 ≡ s.layers ∷ s.rows ∷ s.columns ∷ s.records ∷ s.entries ∷ []
unfolding image_from bytes_of word_at words_from
counts_made s ns = simp word_halves

-- five numbers
five_of : (l : List ℕ) → length l ≡ 5 → l ≡ get_or l 0 0 ∷ get_or l 1 0 ∷ get_or l 2 0 ∷ get_or l 3 0 ∷ get_or l 4 0 ∷ []
five_of [] e = absurd (omega arith)
five_of (a ∷ []) e = absurd (omega arith)
five_of (a ∷ (b ∷ [])) e = absurd (omega arith)
five_of (a ∷ (b ∷ (c ∷ []))) e = absurd (omega arith)
five_of (a ∷ (b ∷ (c ∷ (d ∷ [])))) e = absurd (omega arith)
five_of (a ∷ (b ∷ (c ∷ (d ∷ (f ∷ []))))) e = refl
five_of (a ∷ (b ∷ (c ∷ (d ∷ (f ∷ (g ∷ l)))))) e = absurd (omega arith)

-- the rows of an image by these counts
rows_by : List ℕ → Shape → List (List ℕ)
rows_by img s =
    words_from img 2 5
    ∷ rows_from img 16 (s.layers * s.rows) s.columns
    ++ rows_from img s.records_at s.records 4
    ++ rows_from img s.list_at s.entries 1

rows_by_lem : (img : List ℕ) → rows_in img ≡ rows_by img (shape_of img)
unfolding rows_in rows_by
rows_by_lem img = refl

-- a first row with these counts, and the offsets that they make
record Led (s : Shape) (first : List ℕ) : Type 0 where
  counted : first ≡ s.layers ∷ s.rows ∷ s.columns ∷ s.records ∷ s.entries ∷ []
  records_at : s.records_at ≡ 16 + 2 * (s.layers * s.rows * s.columns)
  list_at : s.list_at ≡ 16 + 2 * (s.layers * s.rows * s.columns) + 8 * s.records

led : (s : Shape) (first : List ℕ) → length first ≡ 5 → s ≡ shape_from first → Led s first
unfolding shape_from
led s first five e = rw e (record { counted = five_of first five; records_at = refl; list_at = refl })

-- the bytes of rows
abbrev bytes_in : List (List ℕ) → List ℕ
bytes_in rows = bytes_of (flat rows)

-- the image of rows that are as the counts ask for them
module _ (s : Shape) (rows : List (List ℕ)) (p : Split s rows) (l : Led s p.first) where
  others_are : drop 1 rows ≡ p.cells ++ p.records ++ p.entries
  others_are = ap (drop 1) p.is

  -- its bytes in four parts, and how long these are
  made_parts : image_from s (flat (drop 1 rows)) ≡ bytes_of (head_of s) ++ bytes_in p.cells ++ bytes_in p.records ++ bytes_in p.entries
  made_parts = rw (head_bytes, others_are, flat_three, bytes_append, bytes_append) (simp append_assoc)

  long_cells : length (bytes_in p.cells) ≡ 2 * (s.layers * s.rows * s.columns)
  long_cells = rw (bytes_length, flat_length s.columns p.cells p.wide_cells, p.many_cells)

  long_records : length (bytes_in p.records) ≡ 8 * s.records
  long_records = rw (bytes_length, flat_length 4 p.records p.wide_records, p.many_records) (omega arith)

  long_entries : length (bytes_in p.entries) ≡ 2 * s.entries
  long_entries = rw (bytes_length, flat_length 1 p.entries p.wide_entries, p.many_entries) (omega arith)

  -- each part of the rows again, then all, and how long the image is
  cells_back : rows_from (image_from s (flat (drop 1 rows))) 16 (s.layers * s.rows) s.columns ≡ p.cells
  cells_back =
      let back = rows_back (bytes_of (head_of s)) p.cells (bytes_in p.records ++ bytes_in p.entries) 16 _ _ (head_long s) in
      rw made_parts (simp append_assoc (back p.many_cells p.wide_cells))

  records_back : rows_from (image_from s (flat (drop 1 rows))) s.records_at s.records 4 ≡ p.records
  records_back =
      let before = bytes_of (head_of s) ++ bytes_in p.cells in
      let long : length before ≡ s.records_at = rw (length-append, head_long, long_cells) (omega arith) in
      let back = rows_back before p.records (bytes_in p.entries) s.records_at s.records 4 long in
      rw (made_parts, append_assoc before) (back p.many_records p.wide_records)

  entries_back : rows_from (image_from s (flat (drop 1 rows))) s.list_at s.entries 1 ≡ p.entries
  entries_back =
      let before = bytes_of (head_of s) ++ bytes_in p.cells ++ bytes_in p.records in
      let long : length before ≡ s.list_at = simp (length-append, head_long, long_cells, long_records) (omega arith) in
      let back = rows_back before p.entries [] s.list_at s.entries 1 long p.many_entries p.wide_entries in
      rw made_parts (rw append-nil at back)

  made_rows : rows_in (image_from s (flat (drop 1 rows))) ≡ rows
  unfolding rows_by
  made_rows =
      let img = image_from s (flat (drop 1 rows)) in
      let by = rows_by_lem img ∙ ap (rows_by img) (shape_made s (flat (drop 1 rows))) in
      by ∙ rw (counts_made s (flat (drop 1 rows)) ∙ sym l.counted, cells_back, records_back, entries_back) (sym p.is)

  made_long : length (image_from s (flat (drop 1 rows))) ≡ s.list_at + 2 * s.entries
  made_long = rw made_parts (simp (length-append, head_long, long_cells, long_records, long_entries) (omega arith))

-- the image of rows that are as the first of them asks for: its rows, its length
module _ (rows : List (List ℕ)) (s : Shape) (e : s ≡ shape_from (get_or rows 0 [])) (h : shaped s 1 rows ≡ true) where
  rows_led : Led s (split s rows h).first
  rows_led =
      let p = split s rows h in
      led s p.first p.five (e ∙ ap (λ r. shape_from (get_or r 0 [])) p.is)

  pub rows_again : rows_in (image_from s (flat (drop 1 rows))) ≡ rows
  rows_again = made_rows s rows (split s rows h) rows_led

  pub made_length : length (image_from s (flat (drop 1 rows))) ≡ s.list_at + 2 * s.entries
  made_length = made_long s rows (split s rows h) rows_led
