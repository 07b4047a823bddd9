-- An answer is known by what document 01 says of it: its number, its place and its values. Assumes nothing.
use mathlib.Core.Path.{◌≡◌, refl, ap, sym, ◌∙◌}
use mathlib.Core.Bool.{cond}
use Rattle.std.specs.Prelude.{ℕ, Result, Ok, Err, Option, Some, None, List, [], ◌∷◌}
use Rattle.std.specs.Result.{result_map_both}
use Rattle.refusal.specs.declared.Fault.{Fault}
use Rattle.refusal.proofs.Said.{said_one}
use Rattle.image.specs.Record.{action_of, RecordWords, action_words, cell_value, entry_value}
use Rattle.image.specs.Use.{Stretch, stretch_told, source_said}
use Rattle.image.specs.declared.record.Action.{Action}
use Rattle.image.specs.declared.record.Action.TheVariants as code
use Rattle.image.specs.declared.areas.Source.{Source}
use Rattle.image.specs.declared.areas.Source.TheVariants.{Operator, BuiltIn}

-- of the table in use
abbrev source_back : Stretch → Source
source_back v = cond v.operator (Operator v.size) (BuiltIn v.size)

abbrev answer_back : Result Stretch Fault → Result Source Fault
answer_back r = result_map_both source_back (λ fault. fault) r

source_known : (x : Result Source Fault) → answer_back (result_map_both stretch_told (λ fault. fault) x) ≡ x
source_known (Ok (Operator n)) = refl
source_known (Ok (BuiltIn n)) = refl
source_known (Err f) = refl

pub source_one : (x y : Result Source Fault) → source_said x ≡ source_said y → x ≡ y
source_one x y e = sym (source_known x) ∙ ap answer_back (said_one _ _ _ e) ∙ source_known y

-- of the lookups
action_known : (x : Action) → (let w = action_words x in action_of w.kind w.a w.b w.c) ≡ x
unfolding action_of
action_known code.NoOp = refl
action_known code.Trans = refl
action_known (code.KeyCode k) = refl
action_known (code.MultipleKeyCodes e n) = refl
action_known (code.MultipleActions e n) = refl
action_known (code.Layer k) = refl
action_known (code.DefaultLayer k) = refl
action_known (code.HoldTap t h p) = refl

pub action_one : (x y : Action) → action_words x ≡ action_words y → x ≡ y
action_one x y e = sym (action_known x) ∙ ap (λ (w : RecordWords). action_of w.kind w.a w.b w.c) e ∙ action_known y

abbrev cell_back : List ℕ → Option ℕ
cell_back [] = None
cell_back (n ∷ ns) = Some n

cell_known : (x : Option ℕ) → cell_back (cell_value x) ≡ x
cell_known (Some n) = refl
cell_known None = refl

pub cell_one : (x y : Option ℕ) → cell_value x ≡ cell_value y → x ≡ y
cell_one x y e = sym (cell_known x) ∙ ap cell_back e ∙ cell_known y

pub entry_one : (x y : Option ℕ) → entry_value x ≡ entry_value y → x ≡ y
entry_one = cell_one
