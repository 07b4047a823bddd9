-- `table_changes::pair::Pair::same` meets its contract. The loop's invariant: the two records mean the same just where the records
-- that their words from here on number do, and those of the first are lower: its number falls in the recursion.
-- Assumes nothing.
use Rattle.std.proofs.Common.{◌≡◌, true}
use lib.Dec.{ltb}
use Rattle.lists.specs.Lists.{every}
use Rattle.image.specs.Tree.{named, tree}
use Rattle.image.proofs.Entries.{words_after}
use Rattle.table_changes.specs.Same as trees
use Rattle.table_changes.proofs.pair.Pair.+same.Given as goal

abbrev pub decreases-same : goal.decreases-same
decreases-same l = l.m

abbrev pub invariant-loop-i : goal.invariant-loop-i
invariant-loop-i l =
    let first = l.self.first.now in
    let second = l.self.second.now in
    (every (λ k. ltb k l.m) (words_after first l.at l.count l.i) ≡ true)
    × (trees.same (tree first l.m) (tree second l.n)
    ≡ trees.same_all (named (tree first) (words_after first l.at l.count l.i)) (named (tree second) (words_after second l.there l.count l.i)))
