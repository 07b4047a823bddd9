-- `codes::KbHidReport::from_codes` meets its contract. Assumes nothing.
use Rattle.std.proofs.Common.{rules, take}
use mathlib.Core.Path.{◌∙◌}
use Rattle.std.proofs.lemmas.Iterator.{YieldsList-from_slice, YieldsList-from_take}
use Rattle.std.proofs.lemmas.Iterator.Consumers.{fold_from_yields_List}
use Rattle.codes.specs.Report.{pressed_of, report_of}
use Rattle.codes.proofs.Laws.{pressed_each, zeros}
use Rattle.codes.proofs.report.KbHidReport.from_codes.Goals as goal

pub returns : goal.returns
unfolding report_of
returns c =
    let a = c.args in
    let each = fold_from_yields_List _ (λ r code. record { bytes = pressed_of r.bytes code }) c.default.result c.fold.result c.fold.ensures.ran
    (YieldsList-from_take a.count (YieldsList-from_slice a.codes.now cc) cc) (λ r x b q k. search rules) in
    each ∙ pressed_each (take a.count a.codes.now) c.default.result.bytes ∙ rw (zeros c.default.result.bytes c.default.ensures)
