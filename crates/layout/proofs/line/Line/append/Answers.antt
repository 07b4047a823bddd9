-- `layout::line::Line::append` meets its contract. Assumes nothing.
use Rattle.layout.proofs.Parts.{append_room}
use Rattle.layout.proofs.line.Line.append.Goals as goal

pub returns : goal.returns
returns c = (append_room c.args.self.now.queue c.args.event c.args.self.now.lined c.requires).1

pub invariant_of-self : goal.invariant_of-self
invariant_of-self c = record { lined = (append_room c.args.self.now.queue c.args.event c.args.self.now.lined c.requires).0 }
