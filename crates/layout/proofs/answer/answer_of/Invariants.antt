-- `layout::answer::answer_of` meets its contract. Assumes nothing.
use Prim.Native.Nat.{◌≤◌}
use mathlib.Core.Path.{◌≡◌}
use lib.ListN.{length, take}
use Rattle.lists.specs.Lists.{laid}
use Rattle.layout.specs.Steps.{codes}
use Rattle.layout.proofs.answer.answer_of.Given as goal

abbrev pub invariant-loop-state : goal.invariant-loop-state
invariant-loop-state l =
    let done = codes (take l.state-index l.state-items) in
    (l.codes ≤ l.state-index) × (l.codes ≡ length done) × (l.out ≡ laid done l.initial.out)
