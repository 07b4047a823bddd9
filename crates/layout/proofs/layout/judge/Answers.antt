-- `layout::layout::judge` meets its contract. Assumes nothing.
use Prim.Native.Nat.{ℕ}
use mathlib.Core.List.{List}
use mathlib.Core.Path.{◌≡◌, sym, ap, ◌∙◌}
use lib.Dec.{leb}
use Rattle.std.proofs.Common.{rules}
use Rattle.std.specs.Prelude.{Err}
use Rattle.refusal.specs.Verdict.{or_else, rule}
use Rattle.refusal.specs.Said.{said}
use Rattle.refusal.specs.declared.Refusal.TheVariants.{State, Room}
use Rattle.refusal.proofs.Said.{said_one}
use Rattle.refusal.proofs.Verdicts.{rule_broken, rule_kept}
use Rattle.image.specs.Check.{Checked, check_of, no_shape}
use Rattle.image.specs.declared.words.Shape.{Shape}
use Rattle.image.proofs.Accepted.{accepted}
use Rattle.layout.specs.Calls.{judged_of}
use Rattle.layout.proofs.Calls.{ready}
use Rattle.layout.proofs.layout.judge.Goals as goal

-- the check's answer, by what is said of it
checked : (x : Checked) (img : List ℕ) {y : Checked} → said no_shape x ≡ said no_shape (check_of img) → x ≡ y → check_of img ≡ y
checked x img s e = sym (said_one no_shape x (check_of img) s) ∙ e

pub returns-in_err-layers-clause-is : goal.returns-in_err-layers-clause-is
unfolding judged_of or_else
returns-in_err-layers-clause-is c =
    let e = checked _ c.args.image.now c.check.ensures c.in_err-layers.was in
    let r : c.from_residual.result ≡ Err c.in_err-layers.field-0.0 = search rules in
    rw (r, e)

pub invariant_of-table : goal.invariant_of-table
invariant_of-table c =
    let e = checked _ c.args.image.now c.check.ensures c.in_ok-layers.was in
    let a = accepted c.args.image.now c.in_ok-layers.field-0 e in
    record { sound = a.1; counted = ap (λ (s : Shape). s.layers) a.0 }

pub returns-in_err-rule-clause-is : goal.returns-in_err-rule-clause-is
unfolding judged_of or_else rule
returns-in_err-rule-clause-is c =
    let e = checked _ c.args.image.now c.check.ensures c.in_ok-layers.was in
    let b = rule_broken c.state_good.result State 0 (sym c.rule.ensures ∙ c.in_err-rule.was) in
    let r : c.from_residual-in_err-rule.result ≡ Err c.in_err-rule.field-0.0 = search rules in
    rw (r, e, sym c.state_good.ensures ∙ b.0) b.1

pub returns-in_err-rule-2-clause-is : goal.returns-in_err-rule-2-clause-is
unfolding judged_of or_else rule
returns-in_err-rule-2-clause-is c =
    let e = checked _ c.args.image.now c.check.ensures c.in_ok-layers.was in
    let good = rule_kept c.state_good.result State 0 (sym c.rule.ensures ∙ c.in_ok-rule.was) in
    let b = rule_broken (leb 64 c.args.room) Room 0 (sym c.rule-2.ensures ∙ c.in_err-rule-2.was) in
    let r : c.from_residual-in_err-rule-2.result ≡ Err c.in_err-rule-2.field-0.0 = search rules in
    rw (r, e, sym c.state_good.ensures ∙ good, b.0) b.1

pub returns-clause-is : goal.returns-clause-is
unfolding judged_of or_else rule
returns-clause-is c =
    let e = checked _ c.args.image.now c.check.ensures c.in_ok-layers.was in
    let good = rule_kept c.state_good.result State 0 (sym c.rule.ensures ∙ c.in_ok-rule.was) in
    let room = rule_kept (leb 64 c.args.room) Room 0 (sym c.rule-2.ensures ∙ c.in_ok-rule-2.was) in
    rw (e, sym c.state_good.ensures ∙ good, room)

pub returns-clause-ready : goal.returns-clause-ready
returns-clause-ready c = ready c.args.image.now c.args.layout.now c.args.room (search rules) (search rules) (sym (returns-clause-is c))
