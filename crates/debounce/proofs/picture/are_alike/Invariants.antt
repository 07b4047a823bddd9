-- `debounce::picture::are_alike` meets its contract: `same` tells of the places so far. Assumes nothing.
use Rattle.std.proofs.Common.{◌≡◌, length, take}
use Rattle.lists.specs.Lists.{alike}
use Rattle.debounce.proofs.picture.are_alike.Given as goal

abbrev pub invariant-loop-u : goal.invariant-loop-u
invariant-loop-u l = l.same ≡ alike (take (length l.yielded) l.a) (take (length l.yielded) l.b)
