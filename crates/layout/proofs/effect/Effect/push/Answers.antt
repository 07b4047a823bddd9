-- `layout::effect::Effect::push` meets its contract. Assumes nothing.
use mathlib.Core.Path.{sym, ◌∙◌}
use borrow.Author.Tests.{ltb-false}
use Rattle.layout.proofs.Effects.{push_full}
use Rattle.layout.proofs.effect.Effect.push.Goals as goal

pub returns-then-not-add : goal.returns-then-not-add
returns-then-not-add c =
    λ img k. push_full img k c.args.self.now c.add.new.self c.args.holds _ _ (c.add.ensures.no c.if-not-add.true)
    c.note_dropped-self.ensures (ltb-false _ 64 (sym c.add.ensures.told ∙ c.if-not-add.true))

pub returns-else-not-add : goal.returns-else-not-add
returns-else-not-add c = c.add.ensures.yes c.if-not-add.false
