-- `layout::accepted::Accepted::unstack` meets its contract. Assumes nothing.
use mathlib.Core.Path.{sym, ap, ◌∙◌}
use Rattle.std.specs.Prelude.{Some, None}
use Rattle.image.specs.Table.{tree_in}
use Rattle.layout.specs.Actions.{do_action}
use Rattle.layout.specs.Packed.{list_in}
use Rattle.layout.proofs.Moves.{did_nothing, did_moves}
use Rattle.layout.proofs.Effects.{did_effect}
use Rattle.layout.proofs.Presses.{press_acts, release_acts}
use Rattle.layout.proofs.accepted.Accepted.unstack.Goals as goal

pub returns-in-Release : goal.returns-in-Release
returns-in-Release c =
    let img = c.args.self.now.image.now in
    let q = list_in c.args.line.now.queue in
    release_acts img c.args.progress.now.active c.args.progress.now.notes c.note_acted-progress.result _ q c.args.stacked.event _ _ c.args.stacked.since
    c.note_acted-progress.ensures c.in-Release.is
    (did_moves img c.note_acted-progress.result c.args.progress.now.active _ q (c.release.ensures.moves img) c.release.ensures.notes)

pub returns-in_default : goal.returns-in_default
unfolding do_action tree_in
returns-in_default c =
    let img = c.args.self.now.image.now in
    let q = list_in c.args.line.now.queue in
    let notes = c.note_acted-progress.result in
    press_acts img c.args.progress.now.active c.args.progress.now.notes notes _ q c.args.stacked.event _ _
    c.args.stacked.since c.note_acted-progress.ensures None c.in-Press.is
    (ap (tree_in img) (sym c.in_default.is) ∙ c.press_as_action.ensures q)
    (did_nothing img _ q)

pub returns-in-Some : goal.returns-in-Some
unfolding tree_in
returns-in-Some c =
    let img = c.args.self.now.image.now in
    let q = list_in c.args.line.now.queue in
    press_acts img c.args.progress.now.active c.args.progress.now.notes c.note_acted-progress.result c.add_effect.new.self q c.args.stacked.event _ _
    c.args.stacked.since c.note_acted-progress.ensures (Some _) c.in-Press.is
    (ap (tree_in img) (sym c.in-Some.is) ∙ c.press_as_action.ensures q)
    (rw (← c.find_release.ensures)
    (did_effect img _ c.args.progress.now c.note_acted-progress.result c.add_effect.new.self _ _
    c.new-effect.ensures c.do_action.ensures c.add_effect.ensures q))
