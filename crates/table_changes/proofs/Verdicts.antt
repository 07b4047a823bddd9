-- What an answer of `compare` that is no refusal gives to those who rely on it: both images are accepted, their sizes are equal, and
-- it counts the cells that differ. What these are worth is in proofs/Listed.antt.
-- Assumes nothing.
use Prim.Native.Nat.{ℕ}
use mathlib.Core.Path.{◌≡◌, refl}
use mathlib.Core.List.{List}
use borrow.Author.Tests.{eqb-true}
use lib.Dec.{eqb}
use lib.ListN.{length}
use Rattle.lists.proofs.Laws.{both_true}
use Rattle.std.specs.Prelude.{Ok, Err}
use Rattle.refusal.specs.Verdict.{Verdict, fine}
use Rattle.refusal.specs.declared.Refusal.TheVariants.{Shape}
use Rattle.refusal.proofs.Verdicts.{rule_fine, or_fine}
use Rattle.image.specs.Words.{layers_of, rows_of, columns_of, shape_of}
use Rattle.image.specs.Check.{fault_of, check_of}
use Rattle.image.proofs.Faults.{check_fine}
use Rattle.table_changes.specs.Changes.{changed, sizes_equal, compare_verdict, reply_of, compare_reply}

pub record Compares (first second : List ℕ) (n : ℕ) : Type 0 where
  pub first_good : check_of first ≡ Ok (shape_of first)
  pub second_good : check_of second ≡ Ok (shape_of second)
  pub layers : layers_of first ≡ layers_of second
  pub rows : rows_of first ≡ rows_of second
  pub columns : columns_of first ≡ columns_of second
  pub count : length (changed first second) ≡ n

-- an answer with a number of cells is one to a verdict with no fault
counts : (v : Verdict) (cells bytes out : List ℕ) (n : ℕ) → (reply_of v cells bytes out).compared ≡ Ok n → (v ≡ fine) × (length cells ≡ n)
unfolding reply_of
counts (Ok u) cells bytes out n e = (refl, cc)
counts (Err f) cells bytes out n e = (cc, cc)

pub compares : (first second out : List ℕ) (n : ℕ) → (compare_reply first second out).compared ≡ Ok n → Compares first second n
unfolding compare_reply compare_verdict sizes_equal
compares first second out n e =
    let c = counts (compare_verdict first second (length out)) (changed first second) _ out n e in
    let f = or_fine (fault_of first) _ c.0 in
    let s = or_fine (fault_of second) _ f.1 in
    let sizes = (rule_fine (sizes_equal first second) Shape 0 _ s.1).0 in
    let l = both_true (eqb (layers_of first) (layers_of second)) _ sizes in
    let r = both_true (eqb (rows_of first) (rows_of second)) (eqb (columns_of first) (columns_of second)) l.1 in
    record {
      first_good = check_fine first f.0;
      second_good = check_fine second s.0;
      layers = eqb-true (layers_of first) (layers_of second) l.0;
      rows = eqb-true (rows_of first) (rows_of second) r.0;
      columns = eqb-true (columns_of first) (columns_of second) r.1;
      count = c.1;
    }
