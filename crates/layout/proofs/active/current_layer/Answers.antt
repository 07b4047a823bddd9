-- `layout::active::current_layer` meets its contract. Assumes nothing.
use mathlib.Core.Path.{◌≡◌, refl, sym}
use native.Mathlib.Omega.{arith}
use lib.ListN.{take, length-take}
use Rattle.layout.specs.Steps.{held}
use Rattle.layout.specs.Packed.{no_state}
use Rattle.layout.proofs.Pads.{take_all}
use Rattle.layout.proofs.Codes.{layer_more, no_layer, current_is}
use Rattle.layout.proofs.active.current_layer.Goals as goal
use Rattle.layout.proofs.active.current_layer.Goals.{in-LayerModifier, in_default}

pub loop-state-init : goal.loop-state-init
unfolding held
loop-state-init c = (refl, omega arith)

pub overflow_add-sum : goal.overflow_add-sum
overflow_add-sum c = let few = length-take c.args.begun.now.active.len c.args.begun.now.active.states in omega (arith, c.args.begun.now.tidy.few)

pub loop-state-preserved : goal.loop-state-preserved
loop-state-preserved c =
    let inv = c.loop-state.invariant in
    let l = take c.args.begun.now.active.len c.args.begun.now.active.states in
    elim c.match-state.branch [
      | in-LayerModifier w ↦ (
        rw (w.sum-is, w.unwrap_or.ensures, inv.0) (sym (layer_more l c.loop-state.state-index no_state c.loop-state-test.true _ _ w.in-LayerModifier.is)),
        rw w.sum-is (omega (arith, w.unwrap_or.ensures, inv.1)),
      )
      | in_default w ↦ (
        rw (w.sum-is, inv.0) (sym (no_layer l c.loop-state.state-index no_state c.loop-state-test.true w.in_default.not-LayerModifier)),
        rw w.sum-is (omega (arith, inv.1)),
      )
    ]

pub returns : goal.returns
returns c =
    let l = take c.args.begun.now.active.len c.args.begun.now.active.states in
    let all : take c.loop-state.state-index l ≡ l = take_all l c.loop-state.state-index c.loop-state-test.false in
    rw (c.unwrap_or-2.ensures, c.loop-state.invariant.0, all) (current_is c.args.begun.now.active.default_layer (held l))
