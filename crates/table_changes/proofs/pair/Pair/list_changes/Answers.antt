-- `table_changes::pair::Pair::list_changes` meets its contract: a cell that differs is laid, and no other. Assumes nothing.
use Prim.Native.Nat.{◌*◌, ◌+◌, ◌≤◌}
use native.Mathlib.Omega.{arith}
use lib.ListN.{length}
use mathlib.Core.Path.{sym, ◌∙◌}
use Rattle.table_changes.specs.Changes.{changed}
use Rattle.table_changes.proofs.Places.{laid_none, laid_no, laid_on, laid_all}
use Rattle.table_changes.proofs.pair.Pair.list_changes.Goals as goal
use Rattle.table_changes.proofs.pair.Pair.list_changes.Goals.{then-differs, else-differs}

pub loop-i-init : goal.loop-i-init
loop-i-init c = laid_none _ _ _ _

pub loop-i-preserved : goal.loop-i-preserved
loop-i-preserved c =
    let l = c.loop-i in
    let room : 3 * l.count + 3 ≤ length l.out = omega (arith, l.invariant.few, c.cells-i-end.ensures) in
    elim c.if-differs.branch [
      | then-differs w ↦ rw (w.out-is, w.count-is) (laid_on _ _ _ _ _ _ _ l.invariant w.copy_from_slice.new.self _ (sym c.differs.ensures ∙ w.if-differs.true) (w.copy_from_slice.ensures.after ∙ w.place.ensures) (omega arith) room)
      | else-differs w ↦ rw (w.out-is, w.count-is) (laid_no _ _ _ _ _ _ _ l.invariant (sym c.differs.ensures ∙ w.if-differs.false))
    ]

pub returns : goal.returns
unfolding changed
returns c = laid_all _ _ _ _ _ _ _ c.loop-i.invariant _ (omega (arith, c.cells-i-end.ensures))
