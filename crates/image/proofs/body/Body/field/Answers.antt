-- `image::body::Body::field` meets its contract: the offset is the header's. Assumes nothing.
use Rattle.image.proofs.Weights.{placed}
use Rattle.image.specs.Words.{field_of, word_at}
use Prim.Native.Nat.{◌+◌, ◌*◌}
use mathlib.Core.Path.{◌∙◌, ap}
use Rattle.image.proofs.body.Body.field.Goals as goal

pub returns : goal.returns
unfolding field_of
returns c = c.word.ensures ∙ ap (λ k. word_at c.args.self.now.image.now (k + 8 * c.args.n + c.args.at)) (placed c.args.self.now).first
