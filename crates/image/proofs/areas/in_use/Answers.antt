-- `image::areas::in_use` meets its contract: the part is as long as the chosen image, which lies in its area. Assumes nothing.
use Rattle.std.specs.Prelude.{Result, Ok}
use Rattle.refusal.specs.declared.Fault.{Fault}
use Rattle.image.proofs.Chosen.{built_in_chosen, chosen_fits, operator_chosen}
use Rattle.image.proofs.Said.{source_one}
use Rattle.image.specs.Use.{source_of, stretch_of}
use Rattle.image.specs.declared.areas.Source.{Source}
use lib.Seq.{length-take-le}
use mathlib.Core.Path.{◌∙◌, ◌≡◌, ap, sym}
use Rattle.image.proofs.areas.in_use.Goals as goal
use Rattle.image.proofs.areas.in_use.Goals.{After-source_of}

-- what was answered is where the table lies
lies : (c : After-source_of) {s : Result Source Fault} → c.source_of.result ≡ s → source_of c.args.operator.now c.args.built_in.now ≡ s
lies c e = sym (source_one _ _ c.source_of.ensures) ∙ e

-- so the part given is the stretch in use
stretch : (c : After-source_of) {s : Result Source Fault} → c.source_of.result ≡ s → stretch_of s c.args.operator.now c.args.built_in.now ≡ stretch_of (source_of c.args.operator.now c.args.built_in.now) c.args.operator.now c.args.built_in.now
stretch c e = ap (λ s. stretch_of s c.args.operator.now c.args.built_in.now) (sym (lies c e))

pub slice_bounds-result-end-in-Operator : goal.slice_bounds-result-end-in-Operator
slice_bounds-result-end-in-Operator c =
    sym (length-take-le _ _ (chosen_fits _ _ (operator_chosen _ _ _ (lies (goal.at.slice_bounds-result-end-in-Operator c).After-source_of (c.in-Ok.is ∙ ap Ok c.in-Operator.is)))))

pub slice_bounds-result-end-in-BuiltIn : goal.slice_bounds-result-end-in-BuiltIn
slice_bounds-result-end-in-BuiltIn c =
    sym (length-take-le _ _ (chosen_fits _ _ (built_in_chosen _ _ _ (lies (goal.at.slice_bounds-result-end-in-BuiltIn c).After-source_of (c.in-Ok.is ∙ ap Ok c.in-BuiltIn.is)))))

pub returns-in-Operator : goal.returns-in-Operator
unfolding stretch_of
returns-in-Operator c = stretch (goal.at.returns-in-Operator c).After-source_of (c.in-Ok.is ∙ ap Ok c.in-Operator.is)

pub returns-in-BuiltIn : goal.returns-in-BuiltIn
unfolding stretch_of
returns-in-BuiltIn c = stretch (goal.at.returns-in-BuiltIn c).After-source_of (c.in-Ok.is ∙ ap Ok c.in-BuiltIn.is)

pub returns-in_default : goal.returns-in_default
unfolding stretch_of
returns-in_default c = stretch (goal.at.returns-in_default c).After-source_of c.in_default.is
