-- `layout::line::Line::age` meets its contract. Assumes nothing.
use mathlib.Core.Path.{refl}
use lib.ListN.{take}
use Rattle.layout.specs.Packed.{no_stacked}
use Rattle.layout.proofs.Pads.{map_on}
use Rattle.layout.proofs.Parts.{older_in, aged}
use Rattle.layout.proofs.line.Line.age.Goals as goal

pub loop-waits-init : goal.loop-waits-init
loop-waits-init c = refl

pub loop-waits-preserved : goal.loop-waits-preserved
loop-waits-preserved c =
    rw c.saturating_add-waits.ensures
    (map_on older_in (take c.args.self.now.queue.queued c.args.self.now.queue.stacked) c.loop-waits.waits-items c.loop-waits.waits-index no_stacked c.loop-waits-test.true c.loop-waits.invariant)

pub returns : goal.returns
returns c = (aged c.args.self.now.queue c.loop-waits.waits-items c.loop-waits.waits-index c.args.self.now.lined c.loop-waits-test.false c.loop-waits.invariant).1

pub invariant_of-self : goal.invariant_of-self
invariant_of-self c = record { lined = (aged c.args.self.now.queue c.loop-waits.waits-items c.loop-waits.waits-index c.args.self.now.lined c.loop-waits-test.false c.loop-waits.invariant).0 }
