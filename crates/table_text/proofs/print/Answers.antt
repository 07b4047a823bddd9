-- `table_text::print` meets its contract: the text is measured by laying it into no room. Assumes nothing.
use Prim.Native.Nat.{◌≤◌}
use mathlib.Core.Path.{◌≡◌, sym, ap, ◌∙◌}
use borrow.Author.Tests.{leb-true}
use native.Mathlib.Omega.{arith}
use lib.Dec.{leb}
use lib.ListN.{length}
use Rattle.std.proofs.lemmas.Result.{err_from_is_err_and}
use Rattle.image.proofs.Accepted.{accepted}
use Rattle.image.proofs.Faults.{fault_fine, fault_refused}
use Rattle.image.specs.Check.{check_of, fault_of}
use Rattle.lists.proofs.Laws.{sets_front}
use Rattle.refusal.proofs.Said.{said_one}
use Rattle.refusal.proofs.Verdicts.{rule_kept}
use Rattle.refusal.specs.Verdict.{fine, kept_or}
use Rattle.refusal.specs.declared.Refusal.TheVariants.{Room}
use Rattle.std.specs.Prelude.{Ok}
use Rattle.table_text.specs.Inside.{Headed}
use Rattle.table_text.specs.Print.{text_of, print_verdict, print_reply}
use Rattle.table_text.proofs.Checks.{reply_refused, reply_short, reply_laid}
use Rattle.table_text.proofs.print.Goals as goal
use Rattle.table_text.proofs.print.Goals.{In_ok-s, After-rule}

-- an image that is accepted has no fault, and its header is as it should be
checked : (c : In_ok-s) → check_of c.args.image.now ≡ Ok c.in_ok-s.s
checked c = sym (said_one _ _ _ c.check.ensures) ∙ c.in_ok-s.was

header : (c : In_ok-s) → Headed c.args.image.now c.in_ok-s.s
header c = let h = accepted c.args.image.now _ (checked c) in (h.1.framed, h.0)

sound : (c : In_ok-s) → fault_of c.args.image.now ≡ fine
sound c = (fault_fine c.args.image.now _ (checked c)).0

pub returns-in_err-s : goal.returns-in_err-s
unfolding print_reply print_verdict
returns-in_err-s c =
    let p = err_from_is_err_and c.from_residual.result c.from_residual.ensures.1 in
    let a = c.args in
    rw (p.1, p.2) (reply_refused a.image.now (text_of a.image.now) a.out.now _ (fault_refused _ _ (sym (said_one _ _ _ c.check.ensures) ∙ c.in_err-s.was)))

pub lay_text-size-requires : goal.lay_text-size-requires
lay_text-size-requires c = header (goal.at.lay_text-size-requires c).In_ok-s

pub lay_text-requires : goal.lay_text-requires
lay_text-requires c = header (goal.at.lay_text-requires c).In_ok-s

pub returns-in_err-rule : goal.returns-in_err-rule
unfolding print_reply print_verdict
returns-in_err-rule c =
    let p = err_from_is_err_and c.from_residual-in_err-rule.result c.from_residual-in_err-rule.ensures.1 in
    let a = c.args in
    let kept = sound (goal.at.returns-in_err-rule c).In_ok-s in
    let size : c.lay_text-size.result ≡ length (text_of a.image.now) = omega (arith, c.lay_text-size.ensures.ends) in
    let short = ap (λ n. kept_or (leb n (length a.out.now)) Room 0) (sym size) ∙ sym c.rule.ensures ∙ c.in_err-rule.was in
    rw (p.1, p.2) (reply_short a.image.now (text_of a.image.now) a.out.now kept _ short)

pub returns : goal.returns
unfolding print_reply print_verdict
returns c =
    let a = c.args in
    let img = a.image.now in
    let kept = sound (goal.at.returns c).In_ok-s in
    let long = leb-true _ _ (rule_kept _ _ _ (sym c.rule.ensures ∙ c.in_ok-rule.was)) in
    let fits : length (text_of img) ≤ length a.out.now = omega (arith, c.lay_text-size.ensures.ends, long) in
    let whole = c.lay_text.ensures.holds ∙ sets_front a.out.now (text_of img) fits in
    reply_laid img (text_of img) a.out.now kept _ _ fits (omega (arith, c.lay_text.ensures.ends)) whole
