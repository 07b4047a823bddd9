-- `image::body::Body::rules` meets its contract: cells, then records. Assumes nothing.
use Rattle.std.proofs.lemmas.Result.{err_from_is_err_and}
use Rattle.refusal.proofs.Verdicts.{or_on, or_stop}
use Rattle.image.specs.Check.{body_fault}
use mathlib.Core.Path.{◌∙◌, sym}
use Rattle.image.proofs.body.Body.rules.Goals as goal
use Rattle.image.proofs.body.Body.rules.Goals.{After-cells_rules}

pub returns-in_err-cells_rules : goal.returns-in_err-cells_rules
unfolding body_fault
returns-in_err-cells_rules c =
    let p = err_from_is_err_and c.from_residual.result c.from_residual.ensures.1 in
    let found = sym c.cells_rules.ensures ∙ c.in_err-cells_rules.was in
    rw (p.1, p.2) (sym found ∙ or_stop _ _ _ found)

pub returns : goal.returns
unfolding body_fault
returns c =
    c.records_rules.ensures ∙ sym (or_on _ _ (sym c.cells_rules.ensures ∙ c.in_ok-cells_rules.was))
