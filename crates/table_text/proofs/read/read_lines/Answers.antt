-- `table_text::read::read_lines` meets its contract. The loop's invariant: so many lines are read and fit, their numbers are laid, and
-- the text from here on is left. A line takes a byte at least, and so does a number. Assumes nothing.
use Prim.Native.Nat.{suc, ◌+◌, ◌-◌, ◌<◌, ◌≤◌}
use mathlib.Core.Path.{◌≡◌, sym, ap, ◌∙◌}
use borrow.Author.Tests.{ltb-true, ltb-false}
use native.Mathlib.Omega.{arith}
use lib.ListN.{length, length-drop, drop, drop_of_length-le}
use lib.Seq.{drop-drop}
use Rattle.std.proofs.lemmas.Result.{err_from_is_err_and}
use Rattle.refusal.proofs.Verdicts.{rule_broken, rule_kept}
use Rattle.table_text.specs.Inside.{index_of}
use Rattle.table_text.specs.Lines.{parts}
use Rattle.table_text.specs.Write.{asks, lines_asked, lines_fault}
use Rattle.table_text.proofs.TextRead.{counted_numbers, line_numbers, line_laid, line_unfit, fits_numbers, fits_unfit, unread}
use Rattle.table_text.proofs.TextRead.{lines_start, lines_more, lines_fault_lem, lines_end, fault_open, fault_line, fault_missing}
use Rattle.table_text.proofs.read.read_lines.Goals as goal
use Rattle.table_text.proofs.read.read_lines.Goals.{After-find-end, In_ok-rule}

pub loop-at-init : goal.loop-at-init
loop-at-init c =
    let a = c.args in
    (c.requires.1, omega (arith, c.requires.0), omega arith, lines_start (drop a.from a.text.now) a.image.now a.s)

-- the next line is all that is left, or it is closed
long : (c : After-find-end) → c.find-end.result - c.loop-at.at ≡ index_of 10 (drop c.loop-at.at c.args.text.now)
long c = omega (arith, c.find-end.ensures.0)

closed : (c : In_ok-rule) → index_of 10 (drop c.loop-at.at c.args.text.now) < length (drop c.loop-at.at c.args.text.now)
closed c =
    let here = ltb-true _ _ (rule_kept _ _ _ (sym c.rule.ensures ∙ c.in_ok-rule.was)) in
    simp length-drop (omega (arith, c.find-end.ensures.0, here))

pub returns-in_err-rule : goal.returns-in_err-rule
returns-in_err-rule c =
    let p = err_from_is_err_and c.from_residual.result c.from_residual.ensures.1 in
    let T = drop c.loop-at.at c.args.text.now in
    let b = rule_broken _ _ _ (sym c.rule.ensures ∙ c.in_err-rule.was) in
    let past = ltb-false _ _ b.0 in
    let some : 0 < length T = simp length-drop (omega (arith, c.loop-at-test.true)) in
    let all : index_of 10 T ≡ length T = simp length-drop (omega (arith, c.find-end.ensures.0, c.find-end.ensures.1, past)) in
    rw (p.1, p.2) (lines_fault_lem c.loop-at.invariant.3 _ c.loop-at.image (fault_open c.args.s c.loop-at.line T some all ∙ sym b.1))

pub returns-in_err-n : goal.returns-in_err-n
returns-in_err-n c =
    let p = err_from_is_err_and c.from_residual-in_err-n.result c.from_residual-in_err-n.ensures.1 in
    let s = c.args.s in
    let i = c.loop-at.line in
    let T = drop c.loop-at.at c.args.text.now in
    let u = unread _ i _ (c.in_err-n.ensures.value ∙ rw c.unfit.ensures) in
    let unfit = line_unfit T _ _ (long (goal.at.returns-in_err-n c).After-find-end) c.read_line.ensures.0 u.0 in
    let fault = fault_line s i T (closed (goal.at.returns-in_err-n c).In_ok-rule) (fits_unfit s i _ unfit) in
    rw (p.1, p.2) (lines_fault_lem c.loop-at.invariant.3 _ c.read_line.new.image (fault ∙ u.1))

pub returns-in_err-rule-2 : goal.returns-in_err-rule-2
returns-in_err-rule-2 c =
    let p = err_from_is_err_and c.from_residual-in_err-rule-2.result c.from_residual-in_err-rule-2.ensures.1 in
    let s = c.args.s in
    let i = c.loop-at.line in
    let T = drop c.loop-at.at c.args.text.now in
    let b = rule_broken _ _ _ (sym c.rule-in-loop-at.ensures ∙ c.in_err-rule-2.was) in
    let whole = long (goal.at.returns-in_err-rule-2 c).After-find-end in
    let q = counted_numbers _ _ (line_numbers T _ _ whole c.in_ok-n.n c.read_line.ensures.0 c.in_ok-n.ensures.ok_part) in
    let no = fits_numbers s i _ q.0 ∙ ap (asks s i) q.1 ∙ sym (c.asks.ensures s c.by-asked.ensures) ∙ b.0 in
    let fault = fault_line s i T (closed (goal.at.returns-in_err-rule-2 c).In_ok-rule) no in
    rw (p.1, p.2) (lines_fault_lem c.loop-at.invariant.3 _ c.read_line.new.image (fault ∙ sym b.1))

pub loop-at-preserved : goal.loop-at-preserved
loop-at-preserved c =
    let text = c.args.text.now in
    let T = drop c.loop-at.at text in
    let inv = c.loop-at.invariant in
    let e = c.find-end.ensures.0 in
    let whole = long (goal.at.loop-at-preserved c).After-find-end in
    let shut = closed (goal.at.loop-at-preserved c).In_ok-rule in
    let numbers = line_numbers T _ _ whole c.in_ok-n.n c.read_line.ensures.0 c.in_ok-n.ensures.ok_part in
    let laid = line_laid T _ _ whole c.in_ok-n.n c.loop-at.k _ _ c.read_line.ensures c.in_ok-n.ensures.ok_part in
    let next : c.loop-at.at + suc (index_of 10 T) ≡ c.find-end.result + 1 = omega (arith, e) in
    let yes = sym (c.asks.ensures c.args.s c.by-asked.ensures) ∙ rule_kept _ _ _ (sym c.rule-in-loop-at.ensures ∙ c.in_ok-rule-2.was) in
    let more = lines_more inv.3 shut _ _ numbers yes laid.1 in (
      omega (arith, e, simp length-drop at shut),
      omega (arith, e, inv.1),
      omega (arith, e, inv.2, laid.0),
      rw (drop-drop (suc (index_of 10 T)) c.loop-at.at text, next) at more,
    )

pub returns-in_err-rule-3 : goal.returns-in_err-rule-3
returns-in_err-rule-3 c =
    let p = err_from_is_err_and c.from_residual-in_err-rule-3.result c.from_residual-in_err-rule-3.ensures.1 in
    let s = c.args.s in
    let b = rule_broken _ _ _ (sym c.rule-2.ensures ∙ c.in_err-rule-3.was) in
    let none = drop_of_length-le c.args.text.now c.loop-at-test.false in
    let few : c.loop-at.line ≤ lines_asked s = rw c.by-asked.ensures at (ltb-false _ _ b.0) in
    let missing = ap (λ x. lines_fault s c.loop-at.line (parts 10 x)) none ∙ fault_missing s c.loop-at.line few in
    rw (p.1, p.2) (lines_fault_lem c.loop-at.invariant.3 _ c.loop-at.image (missing ∙ sym b.1))

pub returns : goal.returns
returns c =
    let none = drop_of_length-le c.args.text.now c.loop-at-test.false in
    let past : lines_asked c.args.s < c.loop-at.line
    = rw c.by-asked.ensures at (ltb-true _ _ (rule_kept _ _ _ (sym c.rule-2.ensures ∙ c.in_ok-rule-3.was))) in
    lines_end c.loop-at.invariant.3 none past
