-- `layout::accepted::Accepted::press_as_action` meets its contract. Assumes nothing.
use Prim.Native.Nat.{ℕ}
use mathlib.Core.List.{List}
use mathlib.Core.Path.{◌≡◌, refl, ap, ◌∙◌}
use Rattle.std.proofs.Common.{rules}
use Rattle.image.specs.Tree.{Action, meaning, tree}
use Rattle.image.specs.Table.{tree_in}
use Rattle.image.specs.declared.record.Action.{Action as Coded}
use Rattle.image.specs.declared.record.Action.TheVariants as code
use Rattle.image.proofs.Accepted.{tells}
use Rattle.layout.specs.Steps.{or_default}
use Rattle.layout.specs.Packed.{model_of}
use Rattle.layout.proofs.Presses.{press_outside, press_trans, press_own}
use Rattle.layout.proofs.accepted.Accepted.press_as_action.Goals as goal

-- a record that is no Trans is not looked up again
not_trans : (img : List ℕ) (n : ℕ) (t : ℕ → Action) (a : Coded) (b : Action) → (a ≡ code.Trans → ⊥)
    → or_default (meaning img t n a) b ≡ meaning img t n a
unfolding meaning
not_trans img n t code.NoOp b h = refl
not_trans img n t code.Trans b h = absurd (h refl)
not_trans img n t (code.KeyCode k) b h = refl
not_trans img n t (code.MultipleKeyCodes f c) b h = refl
not_trans img n t (code.MultipleActions f c) b h = refl
not_trans img n t (code.Layer v) b h = refl
not_trans img n t (code.DefaultLayer v) b h = refl
not_trans img n t (code.HoldTap w k p) b h = refl

pub returns-in_default : goal.returns-in_default
unfolding tree_in
returns-in_default c =
    λ q. press_outside c.args.self.now.image.now c.args.coord (model_of c.args.self.now.image.now c.args.begun.now.active q) _ _ c.current_layer.ensures
    c.cell_at.ensures (search rules)

pub returns-in-Trans : goal.returns-in-Trans
unfolding tree_in meaning
returns-in-Trans c =
    let img = c.args.self.now.image.now in
    let m = tells img _ c.args.self.now.sound c.action_at.ensures c.in-Trans.is in
    λ q. ap (tree_in img) c.cell_at-in-Trans.ensures ∙ press_trans img c.args.coord (model_of img c.args.begun.now.active q) _ _
    c.current_layer.ensures c.cell_at.ensures _ c.in-Some.is m.is

pub returns-in_default-action_at : goal.returns-in_default-action_at
unfolding tree_in
returns-in_default-action_at c =
    let img = c.args.self.now.image.now in
    let m = tells img _ {r = c.action_at.result} c.args.self.now.sound c.action_at.ensures refl in
    λ q. press_own img c.args.coord (model_of img c.args.begun.now.active q) _ _ c.current_layer.ensures
    c.cell_at.ensures _ c.in-Some.is
    (rw m.is (not_trans img _ (tree img) _ _ c.in_default-action_at.not-Trans))
