-- `layout::active::release` meets its contract. Assumes nothing.
use Prim.Native.Nat.{◌≤◌}
use mathlib.Core.Path.{◌≡◌}
use lib.ListN.{length, take}
use Rattle.lists.specs.Lists.{keep}
use Rattle.layout.specs.Steps.{stays}
use Rattle.layout.specs.Packed.{pad, no_state}
use Rattle.layout.proofs.active.release.Given as goal

abbrev pub invariant-loop-state : goal.invariant-loop-state
invariant-loop-state l =
    let kept = keep (stays l.coord) (take l.state-index l.state-items) in
    (l.len ≤ l.state-index) × (l.len ≡ length kept) × (l.states ≡ pad 64 no_state kept)
