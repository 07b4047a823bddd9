-- `layout::accepted::Accepted::tick` meets its contract. Assumes nothing.
use Prim.Native.Nat.{◌<◌}
use mathlib.Core.List.{List}
use mathlib.Core.Path.{◌≡◌, sym, ap, ◌∙◌}
use native.Mathlib.Omega.{arith}
use lib.ListN.{length, take, drop, get_or, get_or-map}
use lib.Seq.{get_or-take}
use Rattle.image.specs.Table.{table_of}
use Rattle.layout.specs.Model.{Queued, age_of, still}
use Rattle.layout.specs.Steps.{act, older}
use Rattle.layout.specs.Packed.{list_in, waiting_of, queued_of, model_of, no_stacked}
use Rattle.layout.proofs.Parts.{list_length}
use Rattle.layout.proofs.Moves.{put, did_as, did_nothing, tick_none, tick_some, tick_goes}
use Rattle.layout.proofs.accepted.Accepted.tick.Goals as goal

-- something waits
pub returns-in-Some : goal.returns-in-Some
returns-in-Some c =
    tick_goes c.args.self.now.image.now c.args.progress.now _ c.args.line.now c.age.new.self c.tick_waiting.new.progress
    c.in-Some.is c.age.ensures c.tick_waiting.ensures

-- nothing waits, and nothing is queued
pub returns-then-line-eq0 : goal.returns-then-line-eq0
returns-then-line-eq0 c =
    let img = c.args.self.now.image.now in
    let begun = c.args.progress.now in
    let first = list_in c.args.line.now.queue in
    let line = c.age.new.self in
    did_as img (put img begun begun line (older first) still c.age.ensures (did_nothing img begun (list_in line.queue)))
    (sym (tick_none (table_of img) (model_of img begun.active first) (ap (waiting_of img) c.in_default.is)
    (sym (ap length c.age.ensures) ∙ list_length line.queue line.lined ∙ c.if-line-eq0.true)))

-- nothing waits, and the oldest event is acted on
pub returns : goal.returns
returns c =
    let img = c.args.self.now.image.now in
    let begun = c.args.progress.now in
    let T = table_of img in
    let first = list_in c.args.line.now.queue in
    let q = older first in
    let aged = c.age.new.self.queue in
    let old = get_or aged.stacked 0 no_stacked in
    let long = list_length aged c.age.new.self.lined in
    let some : 0 < aged.queued = omega (arith, c.if-line-eq0.false) in
    let oldest : queued_of old ≡ get_or q 0 (queued_of no_stacked) =
    ap queued_of (sym (get_or-take aged.queued aged.stacked 0 no_stacked some)) ∙ sym
    (get_or-map queued_of (take aged.queued aged.stacked) 0 no_stacked) ∙ ap
    (λ (x : List Queued). get_or x 0 (queued_of no_stacked)) c.age.ensures in
    did_as img (put img begun c.unstack.new.progress c.shift.new.self (drop 1 q) (act T old.event old.since)
    (c.shift.ensures ∙ ap (drop 1) c.age.ensures) c.unstack.ensures)
    (ap (λ (x : Queued). act T x.event (age_of x) (model_of img begun.active (drop 1 q))) oldest
    ∙ sym (tick_some T (model_of img begun.active first) (ap (waiting_of img) c.in_default.is)
    (omega (arith, ap length c.age.ensures)) (queued_of no_stacked)))
