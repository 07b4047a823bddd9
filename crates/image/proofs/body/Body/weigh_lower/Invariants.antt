-- `image::body::Body::weigh_lower` meets its contract. The invariant: all are lower exactly if those from the word reached
-- on are, and what was found and what is left come to what all the children do, where each of those left was counted as 1.
-- Assumes nothing.
use Rattle.std.proofs.Common.{◌≡◌, ◌+◌, ◌-◌, ◌*◌, ◌≤◌}
use Rattle.image.proofs.Entries.{words_after}
use Rattle.image.proofs.Weights.{children_after}
use Rattle.image.specs.Inside.{children_at}
use Rattle.image.specs.Tree.{weights, some_open}
use Rattle.image.specs.Words.{words_from}
use Rattle.lists.specs.Lists.{every}
use lib.Dec.{ltb}
use mathlib.Core.Bool.{◌||◌}
use Rattle.image.proofs.body.Body.weigh_lower.Given as goal

abbrev pub invariant-loop-i : goal.invariant-loop-i
invariant-loop-i l =
    (l.sum.weight ≤ l.count + 63 * l.i)
    × (every (λ k. ltb k l.n) (words_from l.self.image.now l.at l.count) ≡ every (λ k. ltb k l.n) (words_after l.self.image.now l.at l.count l.i))
    × (l.sum.weight + weights (children_after l.self.image.now l.at l.count l.i) ≡ weights (children_at l.self.image.now l.at l.count) + (l.count - l.i))
    × ((l.sum.opens || some_open (children_after l.self.image.now l.at l.count l.i)) ≡ some_open (children_at l.self.image.now l.at l.count))
