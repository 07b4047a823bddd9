-- `layout::line::Line::shift` meets its contract. Assumes nothing.
use Rattle.layout.proofs.Parts.{shifted}
use Rattle.layout.proofs.line.Line.shift.Goals as goal

pub returns : goal.returns
returns c = (shifted c.args.self.now.queue c.rotate_left.new.self c.args.self.now.lined c.requires c.rotate_left.ensures.after).1

pub invariant_of-self : goal.invariant_of-self
invariant_of-self c = record { lined = (shifted c.args.self.now.queue c.rotate_left.new.self c.args.self.now.lined c.requires c.rotate_left.ensures.after).0 }
