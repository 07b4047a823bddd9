-- `layout::accepted::Accepted::becomes` meets its contract. Assumes nothing.
use Rattle.layout.proofs.Moves.{becomes_so}
use Rattle.layout.proofs.accepted.Accepted.becomes.Goals as goal

pub returns : goal.returns
returns c =
    becomes_so c.args.self.now.image.now c.args.progress.now c.args.way c.args.line.now.queue c.args.w c.find_release.result
    _ _ c.add_effect.new.self c.find_release.ensures c.new-effect.ensures c.decide.ensures c.add_effect.ensures
