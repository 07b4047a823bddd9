-- `layout::state::ages_fall` meets its contract. Assumes nothing.
use mathlib.Core.List.{map}
use mathlib.Core.Path.{◌≡◌}
use Rattle.layout.specs.Packed.{queued_of}
use Rattle.layout.specs.State.{falling}
use Rattle.layout.proofs.state.ages_fall.Given as goal

abbrev pub invariant-loop-pair : goal.invariant-loop-pair
invariant-loop-pair l =
    (l.pair-iterator.size ≡ 2) × (falling (map queued_of l.queued) ≡ falling (map queued_of l.pair-iterator.rest.now))
