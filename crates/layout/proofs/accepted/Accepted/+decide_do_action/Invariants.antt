-- `layout::accepted::Accepted::decide` and `layout::accepted::Accepted::do_action`, which call each other, meet their contracts: the record number
-- falls. The loop's invariant: what has run, and what is left of the list, come to what the whole list does. Assumes nothing.
use Rattle.std.proofs.Common.{◌≡◌, ◌+◌, ◌-◌, ◌*◌, true}
use lib.Dec.{ltb}
use Rattle.lists.specs.Lists.{every}
use Rattle.image.specs.Words.{entries, layers_of}
use Rattle.image.specs.Tree.{tree, named}
use Rattle.layout.specs.Actions.{do_actions}
use Rattle.layout.proofs.Effects.{Left}
use Rattle.layout.proofs.accepted.Accepted.+decide_do_action.Given as goal

abbrev pub decreases-decide : goal.decreases-decide
decreases-decide l = 2 * l.n

abbrev pub decreases-do_action : goal.decreases-do_action
decreases-do_action l = 2 * l.n + 1

abbrev pub invariant-do_action-loop-at : goal.invariant-do_action-loop-at
invariant-do_action-loop-at l =
    let s = l.setting in
    let left = l.at-end - l.at in
    (every (λ k. ltb k l.n) (entries l.self.image.now l.at left) ≡ true)
    × Left l.self.image.now s.coord l.initial.effect l.effect
    (do_actions (named (tree l.self.image.now) (entries l.self.image.now l.first l.count)) (layers_of l.self.image.now) s.coord s.delay s.found)
    (do_actions (named (tree l.self.image.now) (entries l.self.image.now l.at left)) (layers_of l.self.image.now) s.coord s.delay s.found)
