-- `layout::active::current_layer` meets its contract. Assumes nothing.
use Prim.Native.Nat.{◌*◌, ◌≤◌}
use mathlib.Core.Path.{◌≡◌}
use lib.ListN.{take}
use Rattle.std.specs.Option.{unwrap_or}
use Rattle.layout.specs.Steps.{held}
use Rattle.layout.proofs.Codes.{summed}
use Rattle.layout.proofs.active.current_layer.Given as goal

abbrev pub invariant-loop-state : goal.invariant-loop-state
invariant-loop-state l = (l.sum ≡ summed (held (take l.state-index l.state-items))) × (unwrap_or l.sum 0 ≤ 65535 * l.state-index)
