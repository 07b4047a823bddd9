-- `layout::effect::Effect::add` meets its contract. Assumes nothing.
use mathlib.Core.Path.{sym}
use borrow.Author.Tests.{lt-ltb}
use Rattle.layout.proofs.Effects.{push_room}
use Rattle.layout.proofs.effect.Effect.add.Goals as goal

pub returns : goal.returns
returns c =
    record {
      told = sym (lt-ltb _ _ c.if-self-ge-STATES.false);
      yes = λ e img k. push_room img k c.args.self.now c.args.holds _ c.if-self-ge-STATES.false;
      no = λ e. cc;
    }
