-- `layout::line::Line::find_release` meets its contract. Assumes nothing.
use mathlib.Core.Path.{refl, sym, ◌∙◌}
use lib.ListN.{take, drop_of_length-le}
use Rattle.layout.specs.Actions.{find}
use Rattle.layout.specs.Packed.{no_stacked}
use Rattle.layout.proofs.Pads.{drop_next}
use Rattle.layout.proofs.line.Line.find_release.Goals as goal

pub loop-stacked-init : goal.loop-stacked-init
loop-stacked-init c = refl

pub returns-then-is_release : goal.returns-then-is_release
unfolding find
returns-then-is_release c =
    sym (c.loop-stacked.invariant ∙ rw (
      drop_next (take c.args.self.now.queue.queued c.args.self.now.queue.stacked) c.loop-stacked.stacked-index no_stacked c.loop-stacked-test.true,
      ← c.is_release.ensures,
      c.if-is_release.true,
    ))

pub loop-stacked-preserved : goal.loop-stacked-preserved
unfolding find
loop-stacked-preserved c =
    c.loop-stacked.invariant ∙ rw (
      drop_next (take c.args.self.now.queue.queued c.args.self.now.queue.stacked) c.loop-stacked.stacked-index no_stacked c.loop-stacked-test.true,
      ← c.is_release.ensures,
      c.if-is_release.false,
    )

pub returns : goal.returns
unfolding find
returns c =
    sym (c.loop-stacked.invariant ∙ rw (drop_of_length-le (take c.args.self.now.queue.queued c.args.self.now.queue.stacked) {i = c.loop-stacked.stacked-index} c.loop-stacked-test.false))
