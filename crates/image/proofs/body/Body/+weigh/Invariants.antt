-- `image::body::Body::with_child` and `image::body::Body::weigh`, which call each other, meet their contracts: the record
-- number falls. The loop's invariant: what was found and what is left come to what all the children do, where each of those
-- left was counted as 1.
-- Assumes nothing.
use Rattle.std.proofs.Common.{◌≡◌, ◌+◌, ◌-◌, ◌*◌, ◌≤◌, true}
use Rattle.image.proofs.Entries.{words_after}
use Rattle.image.proofs.Weights.{children_after}
use Rattle.image.specs.Inside.{children_at}
use Rattle.image.specs.Tree.{weights, some_open}
use Rattle.lists.specs.Lists.{every}
use lib.Dec.{ltb}
use mathlib.Core.Bool.{◌||◌}
use Rattle.image.proofs.body.Body.+weigh.Given as goal

abbrev pub decreases-with_child : goal.decreases-with_child
decreases-with_child l = 2 * l.k + 1

abbrev pub decreases-weigh : goal.decreases-weigh
decreases-weigh l = 2 * l.n

abbrev pub invariant-weigh-loop-i : goal.invariant-weigh-loop-i
invariant-weigh-loop-i l =
    (l.sum.weight ≤ l.count + 63 * l.i)
    × (every (λ k. ltb k l.n) (words_after l.self.image.now l.at l.count l.i) ≡ true)
    × (l.sum.weight + weights (children_after l.self.image.now l.at l.count l.i) ≡ weights (children_at l.self.image.now l.at l.count) + (l.count - l.i))
    × ((l.sum.opens || some_open (children_after l.self.image.now l.at l.count l.i)) ≡ some_open (children_at l.self.image.now l.at l.count))
