-- `layout::layout::Layout::keycodes` meets its contract. Assumes nothing.
use mathlib.Core.Path.{◌≡◌, refl, ap}
use Rattle.std.proofs.Common.{rules}
use Rattle.std.specs.Prelude.{Err}
use Rattle.layout.specs.Model.{still}
use Rattle.layout.specs.Packed.{list_in}
use Rattle.layout.specs.Calls.{Reply}
use Rattle.layout.specs.declared.line.Line.{Line}
use Rattle.layout.specs.declared.progress.Progress.{Progress}
use Rattle.layout.proofs.Moves.{did_nothing, finished}
use Rattle.layout.proofs.Calls.{call_refused, handing, call_finished}
use Rattle.layout.proofs.layout.Layout.keycodes.Goals as goal

pub returns-in_err-judge : goal.returns-in_err-judge
returns-in_err-judge c =
    let lay = c.args.self in
    let r : c.from_residual.result ≡ Err c.in_err-judge.field-0.0 = search rules in
    let whole = call_refused c.args.image.now lay c.args.out.now still c.judge.ensures.is c.in_err-judge.was in
    rw r (ap (λ (x : Reply). record { told = x.told; layout = lay; buffer = x.buffer }) whole)

pub returns : goal.returns
returns c =
    let img = c.args.image.now in
    let lay = c.args.self in
    let begun : Progress = record { active = lay.active; notes = c.no_notes.result; tidy = c.in_ok-judge.ensures.ready.0.tidy } in
    let q = list_in lay.queue in
    let r = c.in_ok-judge.ensures.ready.0 in
    let line : Line = record { queue = lay.queue; lined = r.lined } in
    let whole = call_finished img lay begun line still c.args.out.now _ _ c.judge.ensures.is c.in_ok-judge.was
    (finished img lay begun begun line line still refl c.no_notes.ensures refl (did_nothing img begun q)) (handing begun lay.queue _ c.args.out.now _ c.answer_of.ensures) in
    ap (λ (x : Reply). record { told = x.told; layout = lay; buffer = x.buffer }) whole
