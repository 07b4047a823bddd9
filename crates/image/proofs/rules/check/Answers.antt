-- `image::rules::check` meets its contract: Short, then the rest. Assumes nothing.
use Rattle.std.proofs.lemmas.Result.{err_from_is_err_and}
use Rattle.std.specs.Prelude.{Ok}
use Rattle.refusal.proofs.Verdicts.{rule_kept, rule_stop}
use Rattle.refusal.specs.Said.{said}
use Rattle.refusal.specs.Verdict.{granted}
use Rattle.image.specs.Check.{check_of, fault_of, no_shape}
use Rattle.image.specs.Words.{shape_of}
use borrow.Author.Tests.{leb-true}
use mathlib.Core.Path.{◌∙◌, ap, sym}
use Rattle.image.proofs.rules.check.Goals as goal

pub returns-in_err-rule : goal.returns-in_err-rule
unfolding check_of fault_of
returns-in_err-rule c =
    let p = err_from_is_err_and c.from_residual.result c.from_residual.ensures.1 in
    rw (p.1, p.2) (ap (λ f. said no_shape (granted f (shape_of c.args.image.now))) (rule_stop _ _ _ _ (sym c.rule.ensures ∙ c.in_err-rule.was)))

pub shape_of-s-requires : goal.shape_of-s-requires
shape_of-s-requires c = leb-true _ _ (rule_kept _ _ _ (sym c.rule.ensures ∙ c.in_ok-rule.was))

pub image_rules-requires : goal.image_rules-requires
image_rules-requires c =
    let e = c.shape_of-s.ensures in (leb-true _ _ (rule_kept _ _ _ (sym c.rule.ensures ∙ c.in_ok-rule.was)), e.0, e.1, e.2)

pub returns-in_err-image_rules : goal.returns-in_err-image_rules
unfolding check_of
returns-in_err-image_rules c =
    let p = err_from_is_err_and c.from_residual-in_err-image_rules.result c.from_residual-in_err-image_rules.ensures.1 in
    rw (p.1, p.2) (ap (λ f. said no_shape (granted f (shape_of c.args.image.now))) (sym c.in_err-image_rules.was ∙ c.image_rules.ensures))

pub returns : goal.returns
unfolding check_of
returns c = rw (sym c.image_rules.ensures ∙ c.in_ok-image_rules.was) (ap (λ s. said no_shape (Ok s)) c.shape_of-s.ensures.0)
