-- Laws of the header and of the cells: what their rules say where they are kept.
-- Assumes nothing.
use mathlib.Core.Path.{◌≡◌}
use mathlib.Core.Bool.{Bool, true}
use mathlib.Core.List.{List}
use Prim.Native.Nat.{ℕ, ◌+◌, ◌*◌, ◌^◌, ◌<◌, ◌≤◌}
use native.Mathlib.Nat.{mul-le-mul, le_of_lt}
use native.Mathlib.Omega.{arith}
use borrow.Author.Tests.{leb-true, eqb-true, ltb-true}
use lib.ListN.{length}
use lib.Dec.{eqb, leb}
use Rattle.lists.proofs.Laws.{both_true}
use Rattle.refusal.specs.declared.Refusal.TheVariants as refusal
use Rattle.image.specs.Words.{version_of, records_of, records_start, list_start, shape_of, size_of, cell_of}
use Rattle.image.specs.Check.{within, counts_good, offsets_good, header_good, head_fault, cell_fault}
use Rattle.image.specs.Sound.{Framed}
use Rattle.image.specs.Inside.{Counts}
use Rattle.image.specs.declared.words.Shape.{Shape}
use Rattle.refusal.specs.Verdict.{fine}
use Rattle.refusal.proofs.Verdicts.{rule_fine}

-- what the header's rules say
in_range : (lo hi x : ℕ) → within lo hi x ≡ true → (lo ≤ x) × (x ≤ hi)
unfolding within
in_range lo hi x e =
    let h = both_true (leb lo x) (leb x hi) e in
    (leb-true lo x h.0, leb-true x hi h.1)

pub counts : (version : ℕ) (s : Shape) → counts_good version s ≡ true → Counts s
unfolding counts_good
counts version s e =
    let layers = both_true (within 1 8 s.layers) _ (both_true (eqb version 1) _ e).1 in
    let rows = both_true (within 1 8 s.rows) _ layers.1 in
    let columns = both_true (within 1 16 s.columns) _ rows.1 in
    let last = both_true (within 1 256 s.records) _ columns.1 in
    record {
      layers = in_range 1 8 s.layers layers.0;
      rows = in_range 1 8 s.rows rows.0;
      columns = in_range 1 16 s.columns columns.0;
      records = in_range 1 256 s.records last.0;
      entries = (in_range 0 1024 s.entries last.1).1;
    }

-- there are at most 64 rows in all layers, and 1,024 cells
pub few_cells : (s : Shape) → Counts s → (s.layers * s.rows ≤ 64) × (s.layers * s.rows * s.columns ≤ 1024)
few_cells s k = (mul-le-mul k.layers.1 k.rows.1, mul-le-mul (mul-le-mul k.layers.1 k.rows.1) k.columns.1)

pub small : (img : List ℕ) (s : Shape) → Framed img → s ≡ shape_of img → (s.layers * s.rows ≤ 64) × (s.layers * s.rows * s.columns ≤ 1024)
small img s f e = few_cells s (rw e (record { layers = f.layers; rows = f.rows; columns = f.columns; records = f.records; entries = f.entries }))

-- no fault in the header: its rules hold, and the length is right
pub headed : (img : List ℕ) (long : Bool) → head_fault img long ≡ fine → (header_good (version_of img) (shape_of img) ≡ true) × (long ≡ true)
unfolding head_fault
headed img long e =
    let h = rule_fine _ refusal.Header 0 _ e in
    (h.0, (rule_fine long refusal.Length 0 fine h.1).0)

pub framed : (img : List ℕ) → head_fault img (eqb (length img) (size_of img)) ≡ fine → Framed img
unfolding header_good offsets_good
framed img e =
    let h = headed img _ e in
    let good = both_true (counts_good (version_of img) (shape_of img)) _ h.0 in
    let k = counts (version_of img) (shape_of img) good.0 in
    let offsets = both_true (eqb (records_start img) _) (eqb (list_start img) _) good.1 in
    record {
      layers = k.layers;
      rows = k.rows;
      columns = k.columns;
      records = k.records;
      entries = k.entries;
      records_at = eqb-true _ _ offsets.0;
      list_at = eqb-true _ _ offsets.1;
      whole = eqb-true _ _ h.1;
    }

-- a cell's rule
pub cell_kept : (img : List ℕ) (i : ℕ) → cell_fault img i ≡ fine → cell_of img i < records_of img
unfolding cell_fault
cell_kept img i e = ltb-true (cell_of img i) (records_of img) (rule_fine _ refusal.Cell i fine e).0

-- a cell's place fits 64 bits, since rows and columns are words
pub room : (l m r n : ℕ) → l < 65536 → m < 65536 → r < 65536 → n < 65536 → (l * m ≤ 2 ^ 32) × ((l * m + r) * n ≤ 2 ^ 33 * 65536)
room l m r n hl hm hr hn =
    let p : l * m ≤ 65536 * 65536 = mul-le-mul (le_of_lt hl) (le_of_lt hm) in
    let q : l * m + r ≤ 2 ^ 33 = omega arith in
    (p, mul-le-mul q (le_of_lt hn))
