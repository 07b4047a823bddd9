-- `image::body::Body::weigh_lower` meets its contract: each turn asks the word reached, and weighs what it numbers.
-- Assumes nothing.
use Rattle.std.proofs.Common.{◌≡◌, ◌+◌, ◌-◌, ◌*◌, ◌<◌, ◌≤◌, arith, refl}
use Rattle.std.proofs.lemmas.Result.{err_from_is_err_and}
use Rattle.refusal.proofs.Verdicts.{rule_broken, rule_kept, rule_yes}
use Rattle.refusal.specs.Verdict.{kept_or}
use Rattle.refusal.specs.declared.Refusal.TheVariants.{Child}
use Rattle.image.proofs.Entries.{words_all, below_no, below_none, below_on}
use Rattle.image.proofs.Weights.{children_step, children_end, opens_on, opens_end, weighed_is, weighed_no, weighed_yes}
use Rattle.image.specs.Inside.{children_at, weighed_of}
use Rattle.image.specs.Tree.{tree, weight}
use Rattle.image.specs.declared.children.Weighed.{Weighed}
use borrow.Author.Tests.{ltb-true}
use lib.Dec.{ltb}
use mathlib.Core.Bool.{true}
use mathlib.Core.Path.{◌∙◌, ap, sym}
use Rattle.image.proofs.body.Body.weigh_lower.Goals as goal
use Rattle.image.proofs.body.Body.weigh_lower.Goals.{In_ok-rule}

-- the record that a word numbers is lower
kept : (c : In_ok-rule) → ltb c.word-k.result c.args.n ≡ true
kept c = rule_kept _ _ _ (sym c.rule.ensures ∙ c.in_ok-rule.was)

low : (c : In_ok-rule) → c.word-k.result < c.args.n
low c = ltb-true _ _ (kept c)

light : (c : In_ok-rule) → weight (tree c.args.self.now.image.now c.word-k.result) ≤ 64
light c = (c.requires.0.before _ (low c)).light

pub loop-i-init : goal.loop-i-init
loop-i-init c =
    let a = c.args in
    rw (words_all a.self.now.image.now a.at a.count) (omega (arith, ap (λ (s : Weighed). s.weight) c.of-sum.ensures), refl, omega (arith, ap (λ (s : Weighed). s.weight) c.of-sum.ensures), rw c.of-sum.ensures refl)

pub returns-in_err-rule : goal.returns-in_err-rule
returns-in_err-rule c =
    let p = err_from_is_err_and c.from_residual.result c.from_residual.ensures.1 in
    let here = sym c.rule.ensures ∙ c.in_err-rule.was in
    let no = rule_broken _ _ _ here in
    let all = c.loop-i.invariant.1 ∙ below_no _ _ _ _ (λ k. ltb k c.args.n) c.loop-i-test.true (ap (λ k. ltb k c.args.n) (sym c.word-k.ensures) ∙ no.0) in
    rw (p.1, p.2) (weighed_no _ _ (ap (λ b. kept_or b Child c.args.n) (all ∙ sym no.0) ∙ here))

pub with_child-sum-requires : goal.with_child-sum-requires
with_child-sum-requires c =
    (c.requires.0, low (goal.at.with_child-sum-requires c).In_ok-rule, omega (arith, c.loop-i.invariant.0, c.loop-i-test.true, c.requires.2))

pub loop-i-preserved : goal.loop-i-preserved
loop-i-preserved c =
    let l = c.loop-i in
    let a = c.args in
    let f = c.with_child-sum.ensures in
    let k = (goal.at.loop-i-preserved c).In_ok-rule in
    let s = children_step a.self.now.image.now a.at a.count l.i c.word-k.result c.loop-i-test.true c.word-k.ensures in
    (omega (arith, f.weighs, light k, l.invariant.0), l.invariant.1 ∙ below_on _ _ _ _ (λ k. ltb k a.n) c.loop-i-test.true (ap (λ k. ltb k a.n) (sym c.word-k.ensures) ∙ kept k), omega (arith, f.weighs, s.0, l.invariant.2, c.loop-i-test.true), opens_on l.sum.opens _ _ f.opens s.1 l.invariant.3)

pub returns : goal.returns
returns c =
    let l = c.loop-i in
    let a = c.args in
    let none : a.count - l.i ≤ 0 = omega (arith, c.loop-i-test.false) in
    let e = children_end a.self.now.image.now (a.at + 2 * l.i) (a.count - l.i) none in
    let all = l.invariant.1 ∙ below_none _ _ _ (λ k. ltb k a.n) none in
    let is : l.sum ≡ weighed_of (children_at a.self.now.image.now a.at a.count) = weighed_is {w = l.sum.weight} (children_at a.self.now.image.now a.at a.count) (omega (arith, e.0, l.invariant.2, c.loop-i-test.false)) (opens_end e.1 l.invariant.3) in
    weighed_yes _ (sym (rule_yes _ Child a.n _ all refl)) is
