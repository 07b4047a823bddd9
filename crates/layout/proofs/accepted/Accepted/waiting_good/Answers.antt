-- `layout::accepted::Accepted::waiting_good` meets its contract. Assumes nothing.
use mathlib.Core.Path.{refl, sym}
use Rattle.image.specs.Tree.{tree, meaning}
use Rattle.image.proofs.Accepted.{tells}
use Rattle.layout.proofs.States.{no_wait}
use Rattle.layout.proofs.accepted.Accepted.waiting_good.Goals as goal

pub returns-in_default-action_at : goal.returns-in_default-action_at
returns-in_default-action_at c =
    let img = c.args.self.now.image.now in
    let m = tells img _ {r = c.action_at.result} c.args.self.now.sound c.action_at.ensures refl in
    rw (c.in-Some.is, m.is) (sym (no_wait img _ (tree img) _ _ c.in_default-action_at.not-HoldTap))

pub returns : goal.returns
unfolding meaning
returns c =
    let img = c.args.self.now.image.now in
    let m = tells img _ c.args.self.now.sound c.action_at.ensures c.in-HoldTap.is in
    rw (c.in-Some.is, m.is)
