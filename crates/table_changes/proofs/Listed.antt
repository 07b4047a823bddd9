-- What the list of changed cells is worth: specs/Listed.antt. Assumes nothing.
use Prim.Native.Nat.{ℕ, zero, suc, ◌+◌, ◌*◌, ◌/◌, ◌%◌, ◌<◌}
use mathlib.Core.Path.{◌≡◌, refl, sym, ap, ◌∙◌}
use mathlib.Core.Bool.{Bool, true, false, cond, not}
use mathlib.Core.List.{List, [], ◌∷◌}
use native.Mathlib.Decide.{dec_lt}
use native.Mathlib.Nat.{mod-lt, mod-eq_of_lt, div-lt_iff_lt-mul, div-eq_of_lt, div-add-mod', mul-add-div_right, mul-add-mod_self_right, not-suc-le-zero}
use native.Mathlib.Omega.{arith}
use borrow.Author.Tests.{lt-ltb, ltb-true, eq-eqb, ne_eqb, not-false}
use lib.Dec.{ltb}
use Rattle.lists.specs.Lists.{has, keep}
use Rattle.lists.proofs.Laws.{both_true}
use Rattle.image.specs.Record.{cell_place, is_inside, cell_at}
use Rattle.image.specs.Sound.{Framed}
use Rattle.image.specs.Table.{table_of, tree_in}
use Rattle.image.specs.Tree.{tree}
use Rattle.image.specs.Words.{layers_of, rows_of, columns_of, cells_of, cell_of}
use Rattle.image.proofs.Accepted.{accepted, cell_place_lem}
use Rattle.table_changes.specs.Same.{same, IgnoresNumbers}
use Rattle.table_changes.specs.Changes.{differs, from, changed, placed}
use Rattle.table_changes.specs.Listed.{rising, CellOf, Listed}
use Rattle.table_changes.proofs.Same.{ignores_numbers}
use Rattle.table_changes.proofs.Verdicts.{Compares, compares}

-- of numbers from i on, those that pass a test: which they are, and that they rise
module _ (p : ℕ → Bool) where
  -- a number that is not among them
  not_kept : (i n k : ℕ) → ((j : ℕ) → j < n → i + j ≡ k → ⊥) → has k (keep p (from i n)) ≡ false
  unfolding from
  not_kept i zero k f = refl
  not_kept i (suc n) k f = go (p i) (λ e. f 0 (omega arith) (omega arith)) (not_kept (i + 1) n k (λ j h e. f (suc j) (omega arith) (omega arith)))
    where
      go : (t : Bool) → (i ≡ k → ⊥) → has k (keep p (from (i + 1) n)) ≡ false → has k (cond t (i ∷ keep p (from (i + 1) n)) (keep p (from (i + 1) n))) ≡ false
      go true ne e = rw (ne_eqb i k ne) e
      go false ne e = e

  -- one that is, by how far it is from the first
  kept : (i n k : ℕ) → k < n → has (i + k) (keep p (from i n)) ≡ p (i + k)
  unfolding from
  kept i zero k h = absurd (not-suc-le-zero h)
  kept i (suc n) zero h =
      let s : i + 0 ≡ i = omega arith in
      rw s (go (p i))
    where
      go : (t : Bool) → has i (cond t (i ∷ keep p (from (i + 1) n)) (keep p (from (i + 1) n))) ≡ t
      go true = rw (eq-eqb i i refl)
      go false = not_kept (i + 1) n i (λ j h e. absurd (omega arith))
  kept i (suc n) (suc k) h =
      let s : i + suc k ≡ i + 1 + k = omega arith in
      rw s (go (p i) (kept (i + 1) n k (omega arith)))
    where
      go : (t : Bool) → has (i + 1 + k) (keep p (from (i + 1) n)) ≡ p (i + 1 + k)
          → has (i + 1 + k) (cond t (i ∷ keep p (from (i + 1) n)) (keep p (from (i + 1) n))) ≡ p (i + 1 + k)
      go true e = rw (ne_eqb i (i + 1 + k) (λ q. absurd (omega arith))) e
      go false e = e

  -- they rise, behind any smaller one
  rises_on : (i n k : ℕ) → k < i → rising (k ∷ keep p (from i n)) ≡ true
  unfolding rising from
  rises_on i zero k h = refl
  rises_on i (suc n) k h = go (p i) (rises_on (i + 1) n i (omega arith)) (rises_on (i + 1) n k (omega arith))
    where
      go : (t : Bool) → rising (i ∷ keep p (from (i + 1) n)) ≡ true → rising (k ∷ keep p (from (i + 1) n)) ≡ true
          → rising (k ∷ cond t (i ∷ keep p (from (i + 1) n)) (keep p (from (i + 1) n))) ≡ true
      go true e f = rw (lt-ltb k i h) e
      go false e f = f

  rises : (i n : ℕ) → rising (keep p (from i n)) ≡ true
  unfolding rising from
  rises i zero = refl
  rises i (suc n) = go (p i) (rises_on (i + 1) n i (omega arith)) (rises (i + 1) n)
    where
      go : (t : Bool) → rising (i ∷ keep p (from (i + 1) n)) ≡ true → rising (keep p (from (i + 1) n)) ≡ true
          → rising (cond t (i ∷ keep p (from (i + 1) n)) (keep p (from (i + 1) n))) ≡ true
      go true e f = e
      go false e f = f

-- a layer, a row and a column from the number of their cell, and back
positive : {y m : ℕ} → y < m → 0 < m
positive h = omega arith

row_back : (x m y : ℕ) → y < m → (x * m + y) / m ≡ x
row_back x m y h = mul-add-div_right (positive h) x y ∙ omega (arith, div-eq_of_lt h)

column_back : (x m y : ℕ) → y < m → (x * m + y) % m ≡ y
column_back x m y h = mul-add-mod_self_right x m y ∙ mod-eq_of_lt h

record Inside (image : List ℕ) (layer row column : ℕ) : Type 0 where
  layers : layer < layers_of image
  rows : row < rows_of image
  columns : column < columns_of image

is_inside_lem : (image : List ℕ) (layer row column : ℕ) → is_inside image layer row column ≡ true → Inside image layer row column
is_inside_lem image layer row column e =
    let l = both_true (ltb layer (layers_of image)) _ e in
    let r = both_true (ltb row (rows_of image)) (ltb column (columns_of image)) l.1 in
    record { layers = ltb-true _ _ l.0; rows = ltb-true _ _ r.0; columns = ltb-true _ _ r.1 }

inside_is : (image : List ℕ) (layer row column : ℕ) → Inside image layer row column → is_inside image layer row column ≡ true
inside_is image layer row column h = rw (lt-ltb _ _ h.layers, lt-ltb _ _ h.rows, lt-ltb _ _ h.columns)

module _ (first second : List ℕ) (n : ℕ) (c : Compares first second n) where
  framed : Framed first
  framed = (accepted first _ c.first_good).1.framed

  bytes_of : (layer row column i : ℕ) → CellOf first layer row column i → placed (rows_of first) (columns_of first) (i ∷ []) ≡ layer ∷ row ∷ column ∷ []
  unfolding placed
  bytes_of layer row column i h =
      let s = is_inside_lem first layer row column h.inside in
      let line = row_back (layer * rows_of first + row) (columns_of first) column s.columns in
      rw (h.number, line, row_back layer (rows_of first) row s.rows, column_back layer (rows_of first) row s.rows, column_back (layer * rows_of first + row) (columns_of first) column s.columns)

  cell_of_lem : (i : ℕ) → i < cells_of first → CellOf first (i / columns_of first / rows_of first) (i / columns_of first % rows_of first) (i % columns_of first) i
  cell_of_lem i h =
      let f = framed in
      record {
        inside =
            inside_is first _ _ _
            (record {
              layers = (div-lt_iff_lt-mul f.rows.0).1 ((div-lt_iff_lt-mul f.columns.0).1 h);
              rows = mod-lt (i / columns_of first) f.rows.0;
              columns = mod-lt i f.columns.0;
            });
        number = rw (div-add-mod' (i / columns_of first) (rows_of first)) (sym (div-add-mod' i (columns_of first)));
      }

  -- what the cell does, in both
  cell_first : (layer row column i : ℕ) → CellOf first layer row column i → (table_of first).cell layer row column ≡ tree first (cell_of first i)
  unfolding tree_in cell_at
  cell_first layer row column i h = rw (h.inside, h.number)

  cell_second : (layer row column i : ℕ) → CellOf first layer row column i → (table_of second).cell layer row column ≡ tree second (cell_of second i)
  unfolding tree_in cell_at
  cell_second layer row column i h = rw (← c.layers, ← c.rows, ← c.columns, h.inside, h.number)

  -- a cell is listed just where its two actions are not the same
  listed_is : (i : ℕ) → i < cells_of first → has i (changed first second) ≡ differs first second i
  unfolding changed
  listed_is i h =
      let s : 0 + i ≡ i = omega arith in
      rw s at (kept (differs first second) 0 (cells_of first) i h)

  exact : (layer row column i : ℕ) → CellOf first layer row column i → has i (changed first second) ≡ not (same ((table_of first).cell layer row column) ((table_of second).cell layer row column))
  unfolding differs cell_at
  exact layer row column i h =
      let few = (cell_place_lem first layer row column (cell_of first (cell_place first layer row column)) (rw h.inside)).0 in
      listed_is i (omega (arith, few, h.number)) ∙ rw (← cell_first layer row column i h, ← cell_second layer row column i h)

  -- what is listed is below the number of cells
  listed_few : (i : ℕ) → has i (changed first second) ≡ true → i < cells_of first
  unfolding changed
  listed_few i e = go (dec_lt i (cells_of first))
    where
      go : Dec (i < cells_of first) → i < cells_of first
      go (yes h) = h
      go (no f) =
          let t : true ≡ false = sym e ∙ not_kept (differs first second) 0 (cells_of first) i (λ j h q. f (omega arith)) in
          let z : ◌≡◌ {A = ℕ} 0 1 = cc in
          absurd (omega arith)

pub listed : Listed
unfolding Listed changed IgnoresNumbers
listed first second out n e =
    let c = compares first second out n e in
    record {
      bytes = bytes_of first second n c;
      cells = λ i h. (_, _, _, cell_of_lem first second n c i (listed_few first second n c i h));
      sharp = λ layer row column i h t u.
          let s : true ≡ not true = sym t ∙ exact first second n c layer row column i h ∙ ap not ((ignores_numbers ((table_of first).cell layer row column) ((table_of second).cell layer row column)).1 u) in
          let z : ◌≡◌ {A = ℕ} 0 1 = cc in
          absurd (omega arith);
      whole = λ layer row column i h t.
          (ignores_numbers ((table_of first).cell layer row column) ((table_of second).cell layer row column)).0
          (not-false _ (sym (exact first second n c layer row column i h) ∙ t));
      ordered = rises (differs first second) 0 (cells_of first);
    }
