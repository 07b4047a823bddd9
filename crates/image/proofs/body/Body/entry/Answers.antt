-- `image::body::Body::entry` meets its contract: the offset is the header's. Assumes nothing.
use Rattle.image.proofs.Weights.{placed}
use Rattle.image.specs.Words.{entry_of, word_at}
use Prim.Native.Nat.{◌+◌, ◌*◌}
use mathlib.Core.Path.{◌∙◌, ap}
use Rattle.image.proofs.body.Body.entry.Goals as goal

pub returns : goal.returns
unfolding entry_of
returns c = c.word.ensures ∙ ap (λ k. word_at c.args.self.now.image.now (k + 2 * c.args.e)) (placed c.args.self.now).second
