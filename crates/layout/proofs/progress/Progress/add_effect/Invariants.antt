-- `layout::progress::Progress::add_effect` meets its contract. Assumes nothing.
use Prim.Native.Nat.{◌+◌}
use mathlib.Core.List.{◌++◌, map}
use mathlib.Core.Path.{◌≡◌}
use lib.ListN.{take}
use Rattle.layout.specs.Packed.{pad, no_state}
use Rattle.layout.specs.Effects.{state_of}
use Rattle.layout.proofs.progress.Progress.add_effect.Given as goal

abbrev pub invariant-loop-holds : goal.invariant-loop-holds
invariant-loop-holds l =
    (l.self.active.len ≡ l.effect.held + l.holds-index)
    × (l.self.active.states ≡ pad 64 no_state (take l.effect.held l.initial.self.active.states ++ map (state_of l.coord) (take l.holds-index l.holds-items)))
