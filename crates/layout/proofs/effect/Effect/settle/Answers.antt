-- `layout::effect::Effect::settle` meets its contract. Assumes nothing.
use Rattle.layout.proofs.Effects.{settled}
use Rattle.layout.proofs.effect.Effect.settle.Goals as goal

pub returns : goal.returns
returns c = λ img k. settled img k c.args.self.now c.args.coord c.args.way _ _ c.note_decision-self.ensures
