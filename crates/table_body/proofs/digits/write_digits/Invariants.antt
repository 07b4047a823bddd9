-- The digits still to write, and then those written, are the digits of n. Assumes nothing.
use Rattle.std.proofs.Common.{◌≡◌, ◌++◌}
use lib.Seq.{slice}
use Rattle.table_body.specs.Digits.{last_digits}
use Rattle.table_body.proofs.digits.write_digits.Given as goal

abbrev pub invariant-loop-i : goal.invariant-loop-i
invariant-loop-i l = last_digits 10 l.i l.rest ++ slice l.i l.k l.out ≡ last_digits 10 l.k l.n
