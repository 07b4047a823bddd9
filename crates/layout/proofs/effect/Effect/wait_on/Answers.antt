-- `layout::effect::Effect::wait_on` meets its contract. Assumes nothing.
use Rattle.layout.proofs.Effects.{new_wait}
use Rattle.layout.proofs.effect.Effect.wait_on.Goals as goal

pub returns : goal.returns
returns c = λ img k. new_wait img k c.args.self.now _ _
