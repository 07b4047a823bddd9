-- `image::body::Body::cells_rules` meets its contract. The invariant: the first fault is that from the cell reached on. Assumes nothing.
use Prim.Native.Nat.{◌-◌}
use Rattle.refusal.specs.Verdict.{first_fault}
use Rattle.image.specs.Check.{cell_fault}
use Rattle.image.specs.Words.{cells_of}
use mathlib.Core.Path.{◌≡◌}
use Rattle.image.proofs.body.Body.cells_rules.Given as goal

abbrev pub invariant-loop-i : goal.invariant-loop-i
invariant-loop-i l = first_fault (cell_fault l.self.image.now) 0 (cells_of l.self.image.now) ≡ first_fault (cell_fault l.self.image.now) l.i (cells_of l.self.image.now - l.i)
