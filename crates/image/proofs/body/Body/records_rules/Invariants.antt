-- `image::body::Body::records_rules` meets its contract. The invariant: every record passed is good, and the first fault is that from
-- the record reached on. Assumes nothing.
use Prim.Native.Nat.{ℕ, ◌-◌, ◌<◌}
use Rattle.refusal.specs.Verdict.{first_fault}
use Rattle.image.specs.Check.{record_fault}
use Rattle.image.specs.Sound.{Good}
use Rattle.image.specs.Words.{records_of}
use mathlib.Core.Path.{◌≡◌}
use Rattle.image.proofs.body.Body.records_rules.Given as goal

abbrev pub invariant-loop-n : goal.invariant-loop-n
invariant-loop-n l = (first_fault (record_fault l.self.image.now) 0 (records_of l.self.image.now) ≡ first_fault (record_fault l.self.image.now) l.n (records_of l.self.image.now - l.n)) × ((k : ℕ) → k < l.n → Good l.self.image.now k)
