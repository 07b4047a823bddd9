-- `layout::accepted::Accepted::tick_waiting` meets its contract. Assumes nothing.
use Rattle.layout.proofs.Moves.{did_waiting, did_up}
use Rattle.layout.proofs.accepted.Accepted.tick_waiting.Goals as goal

pub returns-then-left-gt0 : goal.returns-then-left-gt0
returns-then-left-gt0 c =
    let img = c.args.self.now.image.now in
    did_waiting img c.args.progress.now c.args.line.now.queue c.args.w c.saturating_sub-left.result c.saturating_sub-left.ensures
    _ c.with_waiting.ensures.notes (c.with_waiting.ensures.moves img) c.if-left-gt0.true

pub returns : goal.returns
returns c =
    let img = c.args.self.now.image.now in
    did_up img c.args.progress.now c.args.line.now.queue c.args.w c.saturating_sub-left.result c.saturating_sub-left.ensures
    c.becomes.new.progress c.if-left-gt0.false c.becomes.ensures
