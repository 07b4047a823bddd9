-- `layout::action::push_codes` meets its contract. Assumes nothing.
use Prim.Native.Nat.{◌-◌}
use mathlib.Core.Bool.{true}
use mathlib.Core.Path.{◌≡◌}
use Rattle.codes.specs.Codes.{legal}
use Rattle.event.specs.declared.Coord.{Coord}
use Rattle.image.specs.Words.{entries}
use Rattle.lists.specs.Lists.{every}
use Rattle.layout.specs.Actions.{push_codes}
use Rattle.layout.proofs.Effects.{Left}
use Rattle.layout.proofs.action.push_codes.Given as goal

abbrev pub invariant-loop-at : goal.invariant-loop-at
invariant-loop-at l =
    let left = entries l.image l.at (l.at-end - l.at) in
    (every legal left ≡ true)
    × ((c : Coord) → Left l.image c l.initial.effect l.effect (push_codes (entries l.image l.first l.count) c) (push_codes left c))
