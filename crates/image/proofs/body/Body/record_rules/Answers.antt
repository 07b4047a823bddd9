-- `image::body::Body::record_rules` meets its contract: the form, then the rules of the kind. Assumes nothing.
use Rattle.std.proofs.lemmas.Result.{err_from_is_err_and}
use Rattle.refusal.specs.Verdict.{kept_or}
use Rattle.refusal.specs.declared.Refusal.TheVariants.{Code}
use Rattle.refusal.proofs.Verdicts.{rule_broken, rule_kept}
use Rattle.image.proofs.RecordRules.{action_read, code_rules, form_bad, form_read, no_rules}
use Rattle.image.specs.Check.{form_good}
use Rattle.image.specs.Record.{action_at, action_of}
use Rattle.image.specs.Inside.{Formed}
use Rattle.image.specs.declared.words.Shape.{Shape}
use mathlib.Core.Path.{◌∙◌, ◌≡◌, ap, sym}
use Rattle.image.proofs.body.Body.record_rules.Goals as goal
use Rattle.image.proofs.body.Body.record_rules.Goals.{After-field-c, After-form_good, In_ok-rule}

formed : (c : After-form_good) → c.form_good.result ≡ form_good c.args.self.now.image.now c.args.n
formed c =
    c.form_good.ensures ∙ form_read _ _ c.field-kind.ensures c.field-a.ensures c.field-b.ensures c.field-c.ensures _ (ap (λ (s : Shape). s.entries) c.args.self.now.told)

kept : (c : In_ok-rule) → Formed c.args.self.now.image.now c.args.n
kept c =
    record { inside = c.requires.0; form = sym (formed (goal.at.In_ok-rule c).After-form_good) ∙ rule_kept _ _ _ (sym c.rule.ensures ∙ c.in_ok-rule.was); before = c.requires.1 }

-- the action of the record, by the words that were read
read : (c : After-field-c) → action_at c.args.self.now.image.now c.args.n ≡ action_of c.field-kind.result c.field-a.result c.field-b.result c.field-c.result
read c = action_read _ _ c.field-kind.ensures c.field-a.ensures c.field-b.ensures c.field-c.ensures c.requires.0

pub returns-in_err-rule : goal.returns-in_err-rule
returns-in_err-rule c =
    let p = err_from_is_err_and c.from_residual.result c.from_residual.ensures.1 in
    let broken = rule_broken _ _ _ (sym c.rule.ensures ∙ c.in_err-rule.was) in
    rw (p.1, p.2) (broken.1 ∙ form_bad _ _ (sym (formed (goal.at.returns-in_err-rule c).After-form_good) ∙ broken.0))

pub codes_rules-requires : goal.codes_rules-requires
unfolding action_of
codes_rules-requires c =
    (kept (goal.at.codes_rules-requires c).In_ok-rule, read (goal.at.codes_rules-requires c).After-field-c ∙ rw c.in-3.is)

pub actions_rules-requires : goal.actions_rules-requires
unfolding action_of
actions_rules-requires c =
    (kept (goal.at.actions_rules-requires c).In_ok-rule, read (goal.at.actions_rules-requires c).After-field-c ∙ rw c.in-4.is)

pub hold_tap_rules-requires : goal.hold_tap_rules-requires
hold_tap_rules-requires c = (kept (goal.at.hold_tap_rules-requires c).In_ok-rule, sym c.field-kind.ensures ∙ c.in-7.is)

pub returns-in-2 : goal.returns-in-2
unfolding action_of
returns-in-2 c =
    c.rule-in-2.ensures ∙ ap (λ t. kept_or t Code c.args.n) c.is_legal.ensures ∙ code_rules _ _ (kept (goal.at.returns-in-2 c).In_ok-rule) _ (read (goal.at.returns-in-2 c).After-field-c ∙ rw c.in-2.is)

pub returns-in_default : goal.returns-in_default
returns-in_default c =
    let same = c.field-kind.ensures in
    let other = c.in_default.in_default-own.rest in
    no_rules _ _ (kept (goal.at.returns-in_default c).In_ok-rule) (λ e. other.0.0.0.1 (same ∙ e)) (λ e. other.0.0.1 (same ∙ e)) (λ e. other.0.1 (same ∙ e)) (λ e. other.1 (same ∙ e))
