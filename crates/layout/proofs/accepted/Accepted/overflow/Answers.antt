-- `layout::accepted::Accepted::overflow` meets its contract. Assumes nothing.
use Rattle.image.specs.Table.{table_of}
use Rattle.layout.specs.Packed.{list_in}
use Rattle.layout.specs.Steps.{act, overflow}
use Rattle.layout.specs.declared.notes.Way.TheVariants.{Hold}
use Rattle.layout.proofs.Moves.{did_then, into_none, into_on}
use Rattle.layout.proofs.accepted.Accepted.overflow.Goals as goal

pub returns-in_default : goal.returns-in_default
unfolding overflow
returns-in_default c =
    let img = c.args.self.now.image.now in
    did_then img (act (table_of img) c.args.oldest.event c.args.oldest.since)
    (into_none img c.args.progress.now Hold (list_in c.args.line.now.queue) c.in_default.is) c.unstack.ensures

pub returns : goal.returns
unfolding overflow
returns c =
    let img = c.args.self.now.image.now in
    did_then img (act (table_of img) c.args.oldest.event c.args.oldest.since)
    (into_on img c.args.progress.now Hold (list_in c.args.line.now.queue) c.becomes.new.progress _ c.in-Some.is c.becomes.ensures)
    c.unstack-2.ensures
