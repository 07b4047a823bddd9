-- `image::body::Body::codes_legal` meets its contract. The invariant: the test passes everywhere exactly if it passes from the entry reached on. Assumes nothing.
use Prim.Native.Nat.{◌+◌, ◌-◌}
use Rattle.codes.specs.Codes.{legal}
use Rattle.lists.specs.Lists.{every}
use Rattle.image.specs.Words.{entries}
use mathlib.Core.Path.{◌≡◌}
use Rattle.image.proofs.body.Body.codes_legal.Given as goal

abbrev pub invariant-loop-at : goal.invariant-loop-at
invariant-loop-at l = every legal (entries l.self.image.now l.first l.count) ≡ every legal (entries l.self.image.now l.at (l.first + l.count - l.at))
