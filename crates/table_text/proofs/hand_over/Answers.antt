-- `table_text::hand_over` meets its contract. Assumes nothing.
use Prim.Native.Nat.{◌≤◌}
use mathlib.Core.Path.{◌≡◌, refl, sym, ap, ◌∙◌}
use mathlib.Core.List.{◌++◌}
use borrow.Author.Tests.{leb-true}
use lib.ListN.{length, drop}
use lib.Seq.{length-take-le}
use Rattle.std.proofs.lemmas.Result.{err_from_is_err_and}
use Rattle.image.proofs.Faults.{fault_fine, fault_refused}
use Rattle.image.specs.Check.{fault_of}
use Rattle.refusal.proofs.Said.{said_one}
use Rattle.refusal.proofs.Verdicts.{rule_kept}
use Rattle.refusal.specs.Verdict.{fine}
use Rattle.table_text.specs.Inside.{checked_reply}
use Rattle.table_text.proofs.Checks.{reply_refused, reply_short, reply_laid}
use Rattle.table_text.proofs.hand_over.Goals as goal
use Rattle.table_text.proofs.hand_over.Goals.{In_ok-check, In_ok-rule}

sound : (c : In_ok-check) → fault_of c.args.image.now ≡ fine
sound c = (fault_fine c.args.image.now _ (sym (said_one _ _ _ c.check.ensures) ∙ c.in_ok-check.was)).0

room : (c : In_ok-rule) → length c.args.image.now ≤ length c.args.out.now
room c = leb-true _ _ (rule_kept _ _ _ (sym c.rule.ensures ∙ c.in_ok-rule.was))

pub returns-in_err-check : goal.returns-in_err-check
unfolding checked_reply
returns-in_err-check c =
    let p = err_from_is_err_and c.from_residual.result c.from_residual.ensures.1 in
    let a = c.args in
    rw (p.1, p.2) (reply_refused a.image.now a.image.now a.out.now _ (fault_refused _ _ (sym (said_one _ _ _ c.check.ensures) ∙ c.in_err-check.was)))

pub returns-in_err-rule : goal.returns-in_err-rule
unfolding checked_reply
returns-in_err-rule c =
    let p = err_from_is_err_and c.from_residual-in_err-rule.result c.from_residual-in_err-rule.ensures.1 in
    let a = c.args in
    let kept = sound (goal.at.returns-in_err-rule c).In_ok-check in
    rw (p.1, p.2) (reply_short a.image.now a.image.now a.out.now kept _ (sym c.rule.ensures ∙ c.in_err-rule.was))

pub slice_bounds-copy_from_slice-end-2 : goal.slice_bounds-copy_from_slice-end-2
slice_bounds-copy_from_slice-end-2 c = sym (length-take-le _ c.args.out.now (room (goal.at.slice_bounds-copy_from_slice-end-2 c).In_ok-rule))

pub copy_from_slice-requires : goal.copy_from_slice-requires
copy_from_slice-requires c = length-take-le _ c.args.out.now (room (goal.at.copy_from_slice-requires c).In_ok-rule)

pub returns : goal.returns
unfolding checked_reply
returns c =
    let a = c.args in
    let kept = sound (goal.at.returns c).In_ok-check in
    let copied = ap (λ l. l ++ drop (length a.image.now) a.out.now) c.copy_from_slice.ensures.after in
    reply_laid a.image.now a.image.now a.out.now kept _ _ (room (goal.at.returns c).In_ok-rule) refl copied
