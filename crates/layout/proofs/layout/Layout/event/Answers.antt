-- `layout::layout::Layout::event` meets its contract. Assumes nothing.
use mathlib.Core.Path.{refl}
use Rattle.image.specs.Table.{table_of}
use Rattle.layout.specs.Steps.{event}
use Rattle.layout.specs.declared.progress.Progress.{Progress}
use Rattle.layout.specs.declared.line.Line.{Line}
use Rattle.layout.proofs.Moves.{finished}
use Rattle.layout.proofs.Calls.{call_refused, handing, call_finished}
use Rattle.layout.proofs.layout.Layout.event.Goals as goal

pub returns-in-Err : goal.returns-in-Err
returns-in-Err c =
    let img = c.args.image.now in
    call_refused img c.args.self c.args.out.now (event (table_of img) c.args.event) c.judge.ensures.is c.in-Err.is

pub returns : goal.returns
returns c =
    let img = c.args.image.now in
    let lay = c.args.self in
    let r = c.in-Ok.ensures.ready.0 in
    let begun : Progress = record { active = lay.active; notes = c.no_notes.result; tidy = r.tidy } in
    let line : Line = record { queue = lay.queue; lined = r.lined } in
    call_finished img lay c.event.new.progress c.event.new.line (event (table_of img) c.args.event) c.args.out.now _ _ c.judge.ensures.is c.in-Ok.is
    (finished img lay begun c.event.new.progress line c.event.new.line (event (table_of img) c.args.event) refl c.no_notes.ensures refl (rw c.in-Ok.ensures.of at c.event.ensures))
    (handing c.event.new.progress c.event.new.line.queue _ c.args.out.now _ c.answer_of.ensures)
