-- `debounce::picture::are_at_most` meets its contract. Assumes nothing.
use Rattle.std.proofs.Common.{◌≡◌, take}
use Rattle.lists.specs.Lists.{every}
use Rattle.debounce.specs.Inside.{at_most}
use Rattle.debounce.proofs.picture.are_at_most.Given as goal

abbrev pub invariant-loop-place : goal.invariant-loop-place
invariant-loop-place l = l.good ≡ every (at_most l.most) (take l.place-index l.places)
