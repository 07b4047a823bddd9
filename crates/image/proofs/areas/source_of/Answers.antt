-- `image::areas::source_of` meets its contract: the two checks, the operator's first. Assumes nothing.
use Rattle.std.specs.Prelude.{Ok}
use Rattle.image.proofs.Chosen.{from_built_in, from_neither, from_operator}
use Rattle.image.specs.Use.{source_of, source_said}
use Rattle.image.specs.declared.areas.Source.TheVariants.{Operator, BuiltIn}
use mathlib.Core.Path.{◌∙◌, ap, sym}
use Rattle.image.proofs.areas.source_of.Goals as goal

pub returns-in-Err-check_area : goal.returns-in-Err-check_area
unfolding source_of
returns-in-Err-check_area c =
    ap source_said (from_neither _ _ _ _ _ _ (sym c.check_area.ensures ∙ c.in-Err.is) (sym c.check_area-in-Err.ensures ∙ c.in-Err-check_area.is))

pub returns-in-Ok : goal.returns-in-Ok
unfolding source_of
returns-in-Ok c =
    ap source_said (ap (λ n. Ok (Operator n)) c.size_of.ensures ∙ from_operator _ _ _ _ _ (sym c.check_area.ensures ∙ c.in-Ok.is))

pub returns-in-Ok-check_area : goal.returns-in-Ok-check_area
unfolding source_of
returns-in-Ok-check_area c =
    ap source_said (ap (λ n. Ok (BuiltIn n)) c.size_of-in-Ok-check_area.ensures ∙ from_built_in _ _ _ _ _ _ (sym c.check_area.ensures ∙ c.in-Err.is) (sym c.check_area-in-Err.ensures ∙ c.in-Ok-check_area.is))
