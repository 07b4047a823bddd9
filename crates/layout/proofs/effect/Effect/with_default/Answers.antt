-- `layout::effect::Effect::with_default` meets its contract. Assumes nothing.
use borrow.Author.Tests.{lt-ltb, le-ltb}
use Rattle.layout.proofs.Effects.{new_base, effected_as, effected_nothing}
use Rattle.layout.proofs.effect.Effect.with_default.Goals as goal

pub returns-then-layer-layers : goal.returns-then-layer-layers
returns-then-layer-layers c = λ img k. effected_as img k (new_base img k c.args.self.now _ _) (λ s q. rw (lt-ltb _ _ c.if-layer-layers.true))

pub returns-else-layer-layers : goal.returns-else-layer-layers
returns-else-layer-layers c = λ img k. effected_as img k (effected_nothing img k _) (λ s q. rw (le-ltb _ _ c.if-layer-layers.false))
