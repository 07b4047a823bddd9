-- `layout::accepted::Accepted::event` meets its contract. Assumes nothing.
use mathlib.Core.Path.{◌≡◌, sym, ap, ◌∙◌}
use native.Mathlib.Omega.{arith}
use lib.ListN.{length, take, drop, get_or, length-drop, get_or-map}
use lib.Seq.{get_or-take}
use Rattle.image.specs.Table.{table_of}
use Rattle.layout.specs.Model.{Queued, still}
use Rattle.layout.specs.Steps.{appended, overflow, released}
use Rattle.layout.specs.Packed.{list_in, queued_of, model_of, no_stacked}
use Rattle.layout.proofs.Parts.{list_length}
use Rattle.layout.proofs.Moves.{did_nothing, did_then, entered_room, entered_full, event_goes}
use Rattle.layout.proofs.accepted.Accepted.event.Goals as goal

-- there is room in the queue
pub returns-then-line-lt-QUEUE : goal.returns-then-line-lt-QUEUE
returns-then-line-lt-QUEUE c =
    let img = c.args.self.now.image.now in
    let begun = c.args.progress.now in
    let e = c.args.event in
    let T = table_of img in
    let queue = c.args.line.now.queue in
    let q = list_in queue in
    let line = c.append.new.self in
    event_goes img begun e c.args.line.now line c.tap_released.new.progress (appended e q) still c.append.ensures
    (entered_room T e q (model_of img begun.active q) (omega (arith, list_length queue c.args.line.now.lined, c.if-line-lt-QUEUE.true)))
    (did_then img (released T e) (did_nothing img begun (list_in line.queue)) c.tap_released.ensures)

-- there is none: the oldest leaves
pub append-requires-2 : goal.append-requires-2
append-requires-2 c =
    let line = c.args.line.now in
    let q = line.queue in
    let long = list_length q line.lined in
    let less = list_length c.shift.new.self.queue c.shift.new.self.lined in
    let count = ap length c.shift.ensures in
    omega (arith, less, count, length-drop 1 (list_in q), long, line.lined.few)

pub returns : goal.returns
returns c =
    let img = c.args.self.now.image.now in
    let begun = c.args.progress.now in
    let e = c.args.event in
    let T = table_of img in
    let queue = c.args.line.now.queue in
    let q = list_in queue in
    let old = get_or queue.stacked 0 no_stacked in
    let long = list_length queue c.args.line.now.lined in
    let oldest : queued_of old ≡ get_or q 0 (queued_of no_stacked) = ap queued_of
    (sym (get_or-take queue.queued queue.stacked 0 no_stacked (omega (arith, c.if-line-lt-QUEUE.false)))) ∙ sym
    (get_or-map queued_of (take queue.queued queue.stacked) 0 no_stacked) in
    event_goes img begun e c.args.line.now c.append-2.new.self c.tap_released-2.new.progress (appended e (drop 1 q))
    (overflow T (queued_of old)) (c.append-2.ensures ∙ ap (appended e) c.shift.ensures)
    (entered_full T e q (model_of img begun.active q) (queued_of no_stacked) (omega (arith, long, c.if-line-lt-QUEUE.false)) ∙ sym
    (ap (λ (x : Queued). overflow T x (model_of img begun.active (appended e (drop 1 q)))) oldest))
    (did_then img (released T e) c.overflow.ensures c.tap_released-2.ensures)
