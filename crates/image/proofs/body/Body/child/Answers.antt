-- `image::body::Body::child` meets its contract, kind by kind. Assumes nothing.
use Rattle.image.proofs.Weights.{many_parts, pair_parts, placed, plain_parts, seven}
use Rattle.image.specs.Check.{form_good}
use mathlib.Core.Path.{◌∙◌, sym}
use native.Mathlib.Omega.{arith}
use Rattle.image.proofs.body.Body.child.Goals as goal
use Rattle.image.proofs.body.Body.child.Goals.{After-field-b, Start}

pub returns-then-kind-eq4 : goal.returns-then-kind-eq4
returns-then-kind-eq4 c =
    many_parts _ _ _ _ (placed c.args.self.now) c.requires.0 c.requires.1 (sym c.field-kind.ensures ∙ c.if-kind-eq4.true) c.field-first.ensures c.field-b.ensures

pub returns-then-kind-lt7 : goal.returns-then-kind-lt7
returns-then-kind-lt7 c =
    plain_parts _ _ _ c.requires.0 c.requires.1 (omega (arith, c.if-kind-lt7.true, c.field-kind.ensures)) (λ e. c.if-kind-eq4.false (c.field-kind.ensures ∙ e)) c.field-b.ensures

pub returns : goal.returns
unfolding form_good
returns c =
    pair_parts _ _ _ _ (placed c.args.self.now) c.requires.0 c.requires.1 (seven _ _ _ _ _ c.requires.0.form (omega (arith, c.if-kind-lt7.false, c.field-kind.ensures)))
