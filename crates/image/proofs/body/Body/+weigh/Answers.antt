-- `image::body::Body::with_child` and `image::body::Body::weigh`, which call each other, meet their contracts: of each
-- child what it weighs is known, and each is lower. Assumes nothing.
use Rattle.std.proofs.Common.{ℕ, ◌+◌, ◌-◌, ◌*◌, ◌<◌, ◌≤◌, arith}
use Rattle.image.proofs.Entries.{words_tail}
use Rattle.image.proofs.Trees.{formed_lower}
use Rattle.image.proofs.Weights.{children_step, children_end, words_lower, opens_on, opens_end, weighed_is, leaf, parent}
use Rattle.image.specs.Inside.{children_at}
use Rattle.image.specs.Tree.{tree, weight}
use Rattle.image.proofs.body.Body.+weigh.Goals as goal
use Rattle.image.proofs.body.Body.+weigh.Goals.{weigh-After-word-k}

-- the record that a word numbers is lower, and light
low : (t : ℕ) (c : weigh-After-word-k t) → c.word-k.result < c.args.n
low t c =
    let a = c.args in
    omega (arith, words_lower a.self.now.image.now a.n a.at a.count c.loop-i.i c.loop-i-test.true c.loop-i.invariant.1, c.word-k.ensures)

light : (t : ℕ) (c : weigh-After-word-k t) → weight (tree c.args.self.now.image.now c.word-k.result) ≤ 64
light t c = (c.requires.0.before _ (low t c)).light

pub with_child-child-it-requires : goal.with_child-child-it-requires
with_child-child-it-requires t c =
    (formed_lower _ _ _ c.requires.0 c.requires.1, c.requires.0.before _ c.requires.1)

pub with_child-returns-then-it-eq0 : goal.with_child-returns-then-it-eq0
with_child-returns-then-it-eq0 t c = leaf _ _ _ c.args.before c.child-it.ensures c.if-it-eq0.true

pub with_child-weigh-under-requires : goal.with_child-weigh-under-requires
with_child-weigh-under-requires t c =
    (omega (arith, c.decreases), (formed_lower _ _ _ c.requires.0 c.requires.1, c.child-it.ensures.words))

pub with_child-returns : goal.with_child-returns
with_child-returns t c = parent _ _ _ c.args.before _ c.child-it.ensures c.weigh-under.ensures

pub weigh-with_child-sum-requires : goal.weigh-with_child-sum-requires
weigh-with_child-sum-requires t c =
    let k = low t (goal.at.weigh-with_child-sum-requires t c).After-word-k in
    (omega (arith, k, c.decreases), (c.requires.0, k, omega (arith, c.loop-i.invariant.0, c.loop-i-test.true, c.requires.1.few)))

pub weigh-loop-i-preserved : goal.weigh-loop-i-preserved
weigh-loop-i-preserved t c =
    let l = c.loop-i in
    let a = c.args in
    let f = c.with_child-sum.ensures in
    let s = children_step a.self.now.image.now a.at a.count l.i c.word-k.result c.loop-i-test.true c.word-k.ensures in
    let on = words_tail _ _ _ _ _ c.loop-i-test.true l.invariant.1 in
    (omega (arith, f.weighs, light t (goal.at.weigh-loop-i-preserved t c).After-word-k, l.invariant.0), on, omega (arith, f.weighs, s.0, l.invariant.2, c.loop-i-test.true), opens_on l.sum.opens _ _ f.opens s.1 l.invariant.3)

pub weigh-returns : goal.weigh-returns
weigh-returns t c =
    let l = c.loop-i in
    let a = c.args in
    let e = children_end a.self.now.image.now (a.at + 2 * l.i) (a.count - l.i) (omega (arith, c.loop-i-test.false)) in
    weighed_is (children_at a.self.now.image.now a.at a.count) (omega (arith, e.0, l.invariant.2, c.loop-i-test.false)) (opens_end e.1 l.invariant.3)
