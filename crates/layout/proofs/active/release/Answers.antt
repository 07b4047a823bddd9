-- `layout::active::release` meets its contract. Assumes nothing.
use mathlib.Core.List.{[]}
use mathlib.Core.Path.{◌≡◌, refl, sym, ◌∙◌}
use native.Mathlib.Omega.{arith}
use lib.ListN.{take, length-take}
use Rattle.lists.specs.Lists.{keep}
use Rattle.layout.specs.Steps.{stays, release}
use Rattle.layout.specs.Packed.{no_state}
use Rattle.layout.proofs.Pads.{filter_yes, filter_no, keep_length, take_all}
use Rattle.layout.proofs.Parts.{new_states, held_length, moves_as}
use Rattle.layout.proofs.active.release.Goals as goal
use Rattle.layout.proofs.active.release.Goals.{then-ne, else-ne}

pub loop-state-init : goal.loop-state-init
loop-state-init c = (omega arith, refl, refl)

pub offset_bounds-states-len : goal.offset_bounds-states-len
offset_bounds-states-len c =
    let few = length-take c.args.progress.now.active.len c.args.progress.now.active.states in
    omega (arith, c.loop-state.invariant.0, c.args.progress.now.tidy.few)

pub bounds-states-len : goal.bounds-states-len
bounds-states-len c =
    let few = length-take c.args.progress.now.active.len c.args.progress.now.active.states in
    omega (arith, c.loop-state.invariant.0, c.args.progress.now.tidy.few)

pub loop-state-preserved : goal.loop-state-preserved
loop-state-preserved c =
    let inv = c.loop-state.invariant in
    let l = take c.args.progress.now.active.len c.args.progress.now.active.states in
    let few = length-take c.args.progress.now.active.len c.args.progress.now.active.states in
    let test = stays c.args.coord in
    let held = rw c.coord.ensures at c.ne.ensures in
    elim c.if-ne.branch [
      | then-ne w ↦
          let h = filter_yes 64 no_state test l c.loop-state.state-index _ c.loop-state.len _ c.loop-state-test.true
          (omega (arith, inv.0, c.args.progress.now.tidy.few)) (sym held ∙ w.if-ne.true) inv.1 inv.2 w.states-is w.len-is in
          (omega (arith, inv.0, w.len-is), h.0, h.1)
      | else-ne w ↦
          let h = filter_no 64 no_state test l c.loop-state.state-index _ c.loop-state.len _ c.loop-state-test.true
          (sym held ∙ w.if-ne.false) inv.1 inv.2 w.states-is w.len-is in
          (omega (arith, inv.0, w.len-is), h.0, h.1)
    ]

pub returns-clause-moves : goal.returns-clause-moves
unfolding release
returns-clause-moves c =
    let l = take c.args.progress.now.active.len c.args.progress.now.active.states in
    let test = stays c.args.coord in
    let all : take c.loop-state.state-index l ≡ l = take_all l c.loop-state.state-index c.loop-state-test.false in
    let inv = rw all at c.loop-state.invariant in
    λ img. moves_as img (new_states img c.args.progress.now.active (keep test l) _ _
    (omega (arith, keep_length test l, held_length c.args.progress.now.active c.args.progress.now.tidy, c.args.progress.now.tidy.few)) inv.1 inv.2) (λ q. refl)

pub invariant_of-progress : goal.invariant_of-progress
invariant_of-progress c =
    let l = take c.args.progress.now.active.len c.args.progress.now.active.states in
    let test = stays c.args.coord in
    let all : take c.loop-state.state-index l ≡ l = take_all l c.loop-state.state-index c.loop-state-test.false in
    let inv = rw all at c.loop-state.invariant in
    record {
      tidy = (new_states [] c.args.progress.now.active (keep test l) _ _
          (omega (arith, keep_length test l, held_length c.args.progress.now.active c.args.progress.now.tidy, c.args.progress.now.tidy.few)) inv.1 inv.2).tidy;
    }
