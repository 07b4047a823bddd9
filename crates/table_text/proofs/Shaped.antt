-- Rows as a table's counts ask for them: the first of five numbers, then rows of cells, records and entries. Assumes nothing.
use Prim.Native.Nat.{ℕ, zero, suc, ◌+◌, ◌*◌, ◌<◌, ◌≤◌}
use mathlib.Core.Bool.{Bool, true, false}
use mathlib.Core.List.{List, [], ◌∷◌, ◌++◌, append-nil, append_assoc}
use mathlib.Core.Path.{◌≡◌, refl, sym, ap, ◌∙◌}
use native.Mathlib.Nat.{add-zero, suc-mul}
use native.Mathlib.Omega.{arith}
use borrow.Author.Tests.{le-leb, lt-leb, ltb-true, lt-ltb, eqb-true, eq-eqb}
use lib.Dec.{eqb}
use lib.ListN.{length, length-append}
use Rattle.lists.specs.Lists.{every}
use Rattle.lists.proofs.Laws.{both_true, every_head}
use Rattle.image.specs.declared.words.Shape.{Shape}
use Rattle.table_text.specs.Write.{asks, lines_asked}
use Rattle.table_text.proofs.Asked.{asks_row, asks_record, asks_entry}
use Rattle.table_text.proofs.Rows.{flat, shaped}

-- every row has so many numbers
unfoldable pub wide : ℕ → List (List ℕ) → Bool
wide w rows = every (λ row. eqb (length row) w) rows

pub wide_head : (w : ℕ) (row : List ℕ) (rows : List (List ℕ)) → wide w (row ∷ rows) ≡ true → (length row ≡ w) × (wide w rows ≡ true)
unfolding wide
wide_head w row rows e =
    let h = every_head (λ row. eqb (length row) w) row rows e in
    (eqb-true (length row) w h.0, h.1)

-- all numbers of rows: of two parts, of three, and how many they are
pub flat_append : (a b : List (List ℕ)) → flat (a ++ b) ≡ flat a ++ flat b
unfolding flat
flat_append [] b = refl
flat_append (row ∷ a) b = rw (flat_append a b) (sym (append_assoc row (flat a) (flat b)))

pub flat_three : (a b c : List (List ℕ)) → flat (a ++ b ++ c) ≡ flat a ++ flat b ++ flat c
flat_three a b c = rw (flat_append (a ++ b) c, flat_append a b)

pub flat_length : (w : ℕ) (rows : List (List ℕ)) → wide w rows ≡ true → length (flat rows) ≡ length rows * w
unfolding flat
flat_length w [] e = omega arith
flat_length w (row ∷ rows) e =
    let h = wide_head w row rows e in
    simp length-append (omega (arith, h.0, flat_length w rows h.1, suc-mul (length rows) w))

-- what a line is asked for with: a row of cells, a record, an entry, nothing
module _ (s : Shape) (i n : ℕ) where
  asks_cells : 2 ≤ i → i < 2 + s.layers * s.rows → asks s i n ≡ eqb n s.columns
  asks_cells h k = asks_row s i n (omega arith) (omega arith)

  asks_records : 2 + s.layers * s.rows ≤ i → i < 2 + s.layers * s.rows + s.records → asks s i n ≡ eqb n 4
  asks_records h k = asks_record s i n (omega arith) (omega arith) (omega arith)

  asks_entries : 2 + s.layers * s.rows + s.records ≤ i → i < 2 + s.layers * s.rows + s.records + s.entries → asks s i n ≡ eqb n 1
  asks_entries h k = asks_entry s i n (omega arith) (omega arith) (omega arith) ∙ rw (le-leb i (lines_asked s) (omega arith))

  asks_nothing : lines_asked s < i → asks s i n ≡ false
  asks_nothing h = asks_entry s i n (omega arith) (omega arith) (omega arith) ∙ rw (lt-leb i (lines_asked s) (omega arith))

-- so many rows of one width, from line i on, and the others
shaped_join : (s : Shape) (i w : ℕ) (rows rest : List (List ℕ)) → wide w rows ≡ true
    → ((j n : ℕ) → i ≤ j → j < i + length rows → asks s j n ≡ eqb n w)
    → shaped s (i + length rows) rest ≡ true → shaped s i (rows ++ rest) ≡ true
unfolding shaped
shaped_join s i w [] rest e f g = rw add-zero at g
shaped_join s i w (row ∷ rows) rest e f g =
    let h = wide_head w row rows e in
    let k : i + suc (length rows) ≡ i + 1 + length rows = omega arith in
    rw (f i (length row) (omega arith) (omega arith), eq-eqb (length row) w h.0)
    (shaped_join s (i + 1) w rows rest h.1 (λ j n l m. f j n (omega arith) (omega arith)) (rw k at g))

-- the first n rows have one width, and the others are as the counts ask for them from line i + n on
record Parted (s : Shape) (i n w : ℕ) (rows : List (List ℕ)) : Type 0 where
  first : List (List ℕ)
  others : List (List ℕ)
  is : rows ≡ first ++ others
  long : length first ≡ n
  wide : wide w first ≡ true
  rest : shaped s (i + n) others ≡ true

part_more : (s : Shape) (i n w : ℕ) (row : List ℕ) (rows : List (List ℕ)) → eqb (length row) w ≡ true → Parted s (i + 1) n w rows
    → Parted s i (suc n) w (row ∷ rows)
unfolding wide
part_more s i n w row rows e p =
    let k : i + suc n ≡ i + 1 + n = omega arith in
    record {
      first = row ∷ p.first;
      others = p.others;
      is = ap (λ r. row ∷ r) p.is;
      long = ap suc p.long;
      wide = rw e p.wide;
      rest = rw k p.rest;
    }

shaped_part : (s : Shape) (i n w : ℕ) (rows : List (List ℕ)) → i + n ≤ 1 + lines_asked s
    → ((j m : ℕ) → i ≤ j → j < i + n → asks s j m ≡ eqb m w)
    → shaped s i rows ≡ true → Parted s i n w rows
unfolding shaped wide
shaped_part s i zero w rows l f e = record { first = []; others = rows; is = refl; long = refl; wide = refl; rest = rw add-zero e }
shaped_part s i (suc n) w [] l f e = absurd (omega (arith, ltb-true (lines_asked s) i e))
shaped_part s i (suc n) w (row ∷ rows) l f e =
    let h = both_true (asks s i (length row)) (shaped s (i + 1) rows) e in
    part_more s i n w row rows (sym (f i (length row) (omega arith) (omega arith)) ∙ h.0)
    (shaped_part s (i + 1) n w rows (omega arith) (λ j m a b. f j m (omega arith) (omega arith)) h.1)

-- rows as the counts ask for them: a first of five numbers, then rows of cells, records, entries
pub record Split (s : Shape) (rows : List (List ℕ)) : Type 0 where
  pub first : List ℕ
  pub cells : List (List ℕ)
  pub records : List (List ℕ)
  pub entries : List (List ℕ)
  pub is : rows ≡ first ∷ cells ++ records ++ entries
  pub five : length first ≡ 5
  pub many_cells : length cells ≡ s.layers * s.rows
  pub wide_cells : wide s.columns cells ≡ true
  pub many_records : length records ≡ s.records
  pub wide_records : wide 4 records ≡ true
  pub many_entries : length entries ≡ s.entries
  pub wide_entries : wide 1 entries ≡ true

-- no row is left behind the last line
shaped_end : (s : Shape) (i : ℕ) (rows : List (List ℕ)) → lines_asked s < i → shaped s i rows ≡ true → rows ≡ []
unfolding shaped
shaped_end s i [] l e = refl
shaped_end s i (row ∷ rows) l e =
    let no = asks_nothing s i (length row) l in
    let yes = (both_true (asks s i (length row)) _ e).0 in
    cc

-- three parts, one behind the other
in_three : {l p q r : List (List ℕ)} (a b c : List (List ℕ)) → l ≡ a ++ p → p ≡ b ++ q → q ≡ c ++ r → r ≡ [] → l ≡ a ++ b ++ c
in_three a b c e f g h = e ∙ rw (f, g, h, append-nil) (sym (append_assoc a b c))

gather : (s : Shape) (row : List ℕ) (rows : List (List ℕ)) → length row ≡ 5 → (p : Parted s 2 (s.layers * s.rows) s.columns rows)
    → (q : Parted s (2 + s.layers * s.rows) s.records 4 p.others)
    → Parted s (2 + s.layers * s.rows + s.records) s.entries 1 q.others → Split s (row ∷ rows)
gather s row rows e p q r =
    let none = shaped_end s (2 + s.layers * s.rows + s.records + s.entries) r.others (omega arith) r.rest in
    record {
      first = row;
      cells = p.first;
      records = q.first;
      entries = r.first;
      is = ap (λ l. row ∷ l) (in_three p.first q.first r.first p.is q.is r.is none);
      five = e;
      many_cells = p.long;
      wide_cells = p.wide;
      many_records = q.long;
      wide_records = q.wide;
      many_entries = r.long;
      wide_entries = r.wide;
    }

-- rows that are as the counts ask for them, and back
pub split : (s : Shape) (rows : List (List ℕ)) → shaped s 1 rows ≡ true → Split s rows
unfolding shaped asks
split s [] e = absurd (omega (arith, ltb-true (lines_asked s) 1 e))
split s (row ∷ rows) e =
    let h = both_true (eqb (length row) 5) (shaped s 2 rows) e in
    let n = s.layers * s.rows in
    let p = shaped_part s 2 n s.columns rows (omega arith) (asks_cells s) h.1 in
    let q = shaped_part s (2 + n) s.records 4 p.others (omega arith) (asks_records s) p.rest in
    let r = shaped_part s (2 + n + s.records) s.entries 1 q.others (omega arith) (asks_entries s) q.rest in
    gather s row rows (eqb-true (length row) 5 h.0) p q r

pub join : (s : Shape) (rows : List (List ℕ)) → Split s rows → shaped s 1 rows ≡ true
unfolding shaped asks
join s rows p =
    let over : lines_asked s < 2 + length p.cells + length p.records + length p.entries = omega arith in
    let three = shaped_join s (2 + length p.cells + length p.records) 1 p.entries [] p.wide_entries
    (λ j m a b. asks_entries s j m (omega arith) (omega arith)) (lt-ltb (lines_asked s) _ over) in
    let two = shaped_join s (2 + length p.cells) 4 p.records (p.entries ++ []) p.wide_records
    (λ j m a b. asks_records s j m (omega arith) (omega arith)) three in
    let one = shaped_join s 2 s.columns p.cells (p.records ++ (p.entries ++ [])) p.wide_cells
    (λ j m a b. asks_cells s j m (omega arith) (omega arith)) two in
    ap (shaped s 1) p.is ∙ rw (eq-eqb (length p.first) 5 p.five) (rw (append-nil, ← append_assoc) at one)
