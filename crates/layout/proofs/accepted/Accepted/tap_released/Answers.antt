-- `layout::accepted::Accepted::tap_released` meets its contract. Assumes nothing.
use mathlib.Core.Path.{sym, ap, ◌∙◌}
use Rattle.std.specs.Prelude.{Option}
use Rattle.image.specs.Table.{table_of}
use Rattle.layout.specs.Steps.{releases}
use Rattle.layout.specs.Packed.{list_in, waiting_of, model_of}
use Rattle.layout.specs.declared.active.WaitingState.{WaitingState}
use Rattle.layout.specs.declared.notes.Way.TheVariants.{Tap}
use Rattle.layout.proofs.Moves.{did_as, did_nothing, into_on, released_yes, released_no}
use Rattle.layout.proofs.accepted.Accepted.tap_released.Goals as goal

pub returns-then-is_release : goal.returns-then-is_release
returns-then-is_release c =
    let img = c.args.self.now.image.now in
    let q = list_in c.args.line.now.queue in
    did_as img
    (into_on img c.args.progress.now Tap q c.becomes.new.progress _ c.in-Some.is c.becomes.ensures)
    (sym (released_yes (table_of img) c.args.event (model_of img c.args.progress.now.active q)
    (ap (λ (x : Option WaitingState). releases c.args.event (waiting_of img x)) c.in-Some.is ∙ sym c.is_release.ensures ∙ c.if-is_release.true)))

-- the event releases another key, or nothing waits
pub returns-else-is_release : goal.returns-else-is_release
returns-else-is_release c =
    let img = c.args.self.now.image.now in
    let q = list_in c.args.line.now.queue in
    did_as img (did_nothing img c.args.progress.now q)
    (sym (released_no (table_of img) c.args.event (model_of img c.args.progress.now.active q)
    (ap (λ (x : Option WaitingState). releases c.args.event (waiting_of img x)) c.in-Some.is ∙ sym c.is_release.ensures ∙ c.if-is_release.false)))

pub returns-in_default : goal.returns-in_default
returns-in_default c =
    let img = c.args.self.now.image.now in
    let q = list_in c.args.line.now.queue in
    did_as img (did_nothing img c.args.progress.now q)
    (sym (released_no (table_of img) c.args.event (model_of img c.args.progress.now.active q)
    (ap (λ (x : Option WaitingState). releases c.args.event (waiting_of img x)) c.in_default.is)))
