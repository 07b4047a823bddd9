-- `image::body::Body::hold_tap_rules` meets its contract: by what hold and tap come to. Assumes nothing.
use Prim.Native.Nat.{◌*◌, ◌+◌}
use Rattle.std.proofs.lemmas.Result.{err_from_is_err_and}
use Rattle.lists.specs.Lists.{every}
use Rattle.refusal.specs.Verdict.{Verdict, fine, kept_or}
use Rattle.refusal.specs.declared.Refusal.TheVariants.{Child, Nested, Weight}
use Rattle.refusal.proofs.Verdicts.{rule_stop, rule_on, rule_kept}
use Rattle.image.proofs.RecordRules.{pair_rules, pair_small}
use Rattle.image.proofs.Weights.{placed, weighed_err, weighed_ok}
use Rattle.image.specs.Inside.{children_at, weighed_of}
use Rattle.image.specs.Tree.{some_open}
use Rattle.image.specs.Words.{words_from}
use Rattle.image.specs.declared.children.Weighed.{Weighed}
use lib.Dec.{leb, ltb}
use mathlib.Core.Bool.{not}
use mathlib.Core.Path.{◌∙◌, ◌≡◌, ap, sym}
use native.Mathlib.Omega.{arith}
use Rattle.image.proofs.body.Body.hold_tap_rules.Goals as goal
use Rattle.image.proofs.body.Body.hold_tap_rules.Goals.{After-rule, In_ok-sum}

-- its hold and its tap: both are lower, and what they come to
both : (c : In_ok-sum) →
    (kept_or (every (λ k. ltb k c.args.n) (words_from c.args.self.now.image.now (c.args.self.now.shape.records_at + 8 * c.args.n + 4) 2)) Child c.args.n ≡ fine)
    × (c.in_ok-sum.sum ≡ weighed_of (children_at c.args.self.now.image.now (c.args.self.now.shape.records_at + 8 * c.args.n + 4) 2))
both c = weighed_ok _ _ (sym c.in_ok-sum.was ∙ c.weigh_lower.ensures)

-- whether both are shut, asked
shut : (c : After-rule) {x : Verdict} → c.rule.result ≡ x → kept_or (not (some_open (children_at c.args.self.now.image.now (c.args.self.now.shape.records_at + 8 * c.args.n + 4) 2))) Nested c.args.n ≡ x
shut c e =
    ap (λ (s : Weighed). kept_or (not s.opens) Nested c.args.n) (sym (both (goal.at.After-rule c).In_ok-sum).1) ∙ sym c.rule.ensures ∙ e

pub weigh_lower-requires : goal.weigh_lower-requires
weigh_lower-requires c =
    (c.requires.0, omega (arith, c.requires.0.inside, c.args.self.now.framed.list_at, (placed c.args.self.now).first, c.args.self.now.framed.whole), omega arith)

pub returns-in_err-sum : goal.returns-in_err-sum
returns-in_err-sum c =
    let p = err_from_is_err_and c.from_residual.result c.from_residual.ensures.1 in
    rw (p.1, p.2) (rule_stop _ _ _ _ (weighed_err _ _ (sym c.in_err-sum.was ∙ c.weigh_lower.ensures)) ∙ pair_rules _ _ _ _ (placed c.args.self.now) c.requires.0 c.requires.1)

pub returns-in_err-rule : goal.returns-in_err-rule
returns-in_err-rule c =
    let p = err_from_is_err_and c.from_residual-in_err-rule.result c.from_residual-in_err-rule.ensures.1 in
    rw (p.1, p.2) (rule_on _ _ _ _ (both (goal.at.returns-in_err-rule c).In_ok-sum).0 (rule_stop _ _ _ _ (shut (goal.at.returns-in_err-rule c).After-rule c.in_err-rule.was)) ∙ pair_rules _ _ _ _ (placed c.args.self.now) c.requires.0 c.requires.1)

pub overflow_add-sum : goal.overflow_add-sum
overflow_add-sum c =
    let b = both (goal.at.overflow_add-sum c).In_ok-sum in
    omega (arith, ap (λ (s : Weighed). s.weight) b.1, pair_small _ _ _ _ (placed c.args.self.now) c.requires.0 c.requires.1 (rule_kept _ _ _ b.0))

pub returns : goal.returns
returns c =
    let b = both (goal.at.returns c).In_ok-sum in
    rule_on _ _ _ _ b.0 (rule_on _ _ _ _ (shut (goal.at.returns c).After-rule c.in_ok-rule.was) (c.rule-2.ensures ∙ ap (λ (s : Weighed). kept_or (leb (1 + s.weight) 64) Weight c.args.n) b.1)) ∙ pair_rules _ _ _ _ (placed c.args.self.now) c.requires.0 c.requires.1
