-- `table_text::read::read_text` meets its contract: the first line has the counts, and the others are judged by them. Assumes nothing.
use Prim.Native.Nat.{suc, ◌+◌, ◌<◌}
use mathlib.Core.Path.{◌≡◌, sym, ap, ◌∙◌}
use borrow.Author.Tests.{eqb-true, ltb-true, ltb-false}
use native.Mathlib.Omega.{arith}
use lib.ListN.{length, take, drop}
use Rattle.image.specs.Words.{words_from}
use Rattle.std.proofs.Common.{lit≤}
use Rattle.std.proofs.lemmas.Result.{err_from_is_err_and}
use Rattle.refusal.proofs.Verdicts.{rule_broken, rule_kept}
use Rattle.table_text.specs.Lines.{row_of, numbers_in}
use Rattle.table_text.specs.Write.{shape_from, asks, counts_in}
use Rattle.table_text.specs.Inside.{index_of, ReadsLines}
use Rattle.table_text.proofs.Asked.{asks_first}
use Rattle.table_text.proofs.TextRead.{counted_numbers, line_numbers, line_laid, line_unfit, fits_numbers, fits_unfit, unread}
use Rattle.table_text.proofs.TextRead.{text_open, text_line, text_fault_lem, counts_are, five_words, text_read}
use Rattle.table_text.proofs.read.read_text.Goals as goal
use Rattle.table_text.proofs.read.read_text.Goals.{After-find-end, In_ok-rule}

-- the first line is the whole text, or it is closed
end : (c : After-find-end) → c.find-end.result ≡ index_of 10 c.args.text.now
end c = omega (arith, c.find-end.ensures.0)

closed : (c : In_ok-rule) → index_of 10 c.args.text.now < length c.args.text.now
closed c = omega (arith, c.find-end.ensures.0, ltb-true _ _ (rule_kept _ _ _ (sym c.rule.ensures ∙ c.in_ok-rule.was)))

pub returns-in_err-rule : goal.returns-in_err-rule
returns-in_err-rule c =
    let p = err_from_is_err_and c.from_residual.result c.from_residual.ensures.1 in
    let a = c.args in
    let b = rule_broken _ _ _ (sym c.rule.ensures ∙ c.in_err-rule.was) in
    let all : index_of 10 a.text.now ≡ length a.text.now = omega (arith, c.find-end.ensures.0, c.find-end.ensures.1, ltb-false _ _ b.0) in
    rw (p.1, p.2) (text_fault_lem a.text.now a.image.now _ a.image.now (text_open a.text.now all ∙ sym b.1))

pub returns-in_err-n : goal.returns-in_err-n
returns-in_err-n c =
    let p = err_from_is_err_and c.from_residual-in_err-n.result c.from_residual-in_err-n.ensures.1 in
    let text = c.args.text.now in
    let u = unread _ 1 _ (c.in_err-n.ensures.value ∙ rw c.unfit.ensures) in
    let unfit = line_unfit text _ _ (end (goal.at.returns-in_err-n c).After-find-end) c.read_line.ensures.0 u.0 in
    let fault = text_line text (closed (goal.at.returns-in_err-n c).In_ok-rule) (fits_unfit (counts_in text) 1 _ unfit) in
    rw (p.1, p.2) (text_fault_lem text c.args.image.now _ c.read_line.new.image (fault ∙ u.1))

pub returns-in_err-rule-2 : goal.returns-in_err-rule-2
returns-in_err-rule-2 c =
    let q = err_from_is_err_and c.from_residual-in_err-rule-2.result c.from_residual-in_err-rule-2.ensures.1 in
    let text = c.args.text.now in
    let n = c.in_ok-n.n in
    let b = rule_broken _ _ _ (sym c.rule-2.ensures ∙ c.in_err-rule-2.was) in
    let stop = end (goal.at.returns-in_err-rule-2 c).After-find-end in
    let p = counted_numbers _ _ (line_numbers text _ _ stop n c.read_line.ensures.0 c.in_ok-n.ensures.ok_part) in
    let first = asks_first (counts_in text) 1 n (lit≤ tt) in
    let no = fits_numbers (counts_in text) 1 _ p.0 ∙ ap (asks (counts_in text) 1) p.1 ∙ first ∙ b.0 in
    let fault = text_line text (closed (goal.at.returns-in_err-rule-2 c).In_ok-rule) no in
    rw (q.1, q.2) (text_fault_lem text c.args.image.now _ c.read_line.new.image (fault ∙ sym b.1))

pub read_lines-requires : goal.read_lines-requires
read_lines-requires c =
    let shut = closed (goal.at.read_lines-requires c).In_ok-rule in
    (omega arith, omega (arith, shut, end (goal.at.read_lines-requires c).After-find-end), c.shape_in-s.ensures.1)

-- the counts are laid behind the version, and read from there
pub returns : goal.returns
returns c =
    let a = c.args in
    let text = a.text.now in
    let stop = end (goal.at.returns c).After-find-end in
    let shut = closed (goal.at.returns c).In_ok-rule in
    let p = counted_numbers _ _ (line_numbers text _ _ stop c.in_ok-n.n c.read_line.ensures.0 c.in_ok-n.ensures.ok_part) in
    let laid = (line_laid text _ _ stop c.in_ok-n.n 1 _ _ c.read_line.ensures c.in_ok-n.ensures.ok_part).1 in
    let many = p.1 ∙ eqb-true _ _ (rule_kept _ _ _ (sym c.rule-2.ensures ∙ c.in_ok-rule-2.was)) in
    let five = numbers_in (row_of (take (index_of 10 text) text)) in
    let counts : c.shape_in-s.result ≡ counts_in text
    = c.shape_in-s.ensures.0
    ∙ ap (λ l. shape_from (words_from l 2 5)) laid
    ∙ ap shape_from (five_words a.image.now five c.told-image many)
    ∙ sym (counts_are text shut) in
    let next : c.find-end.result + 1 ≡ suc (index_of 10 text) = omega (arith, stop) in
    let left = drop (c.find-end.result + 1) text in
    let reads : ReadsLines left c.shape_in-s.result c.read_line.new.image c.read_lines.result c.read_lines.new.image
    = c.read_lines.ensures in
    text_read text a.image.now _ _ _ shut p.0 many laid (rw (next, counts) at reads)
