-- `table_body::digits::decimal` meets its contract. Assumes nothing.
use native.Mathlib.Omega.{arith}
use Prim.Native.Nat.{◌≤◌}
use Rattle.table_body.proofs.Powers.{count_within}
use Rattle.table_body.proofs.digits.decimal.Goals as goal
use Rattle.table_body.proofs.digits.decimal.Goals.{After-digit_count-k}

-- twenty digits hold any number of the machine's
count_fits : (c : goal.After-digit_count-k) → c.digit_count-k.result ≤ 20
count_fits c = count_within 10 c.args.n c.digit_count-k.result 20 (omega arith) (omega arith) c.digit_count-k.ensures (omega arith)

pub write_digits-requires : goal.write_digits-requires
write_digits-requires c = omega (arith, count_fits (goal.at.write_digits-requires c).After-digit_count-k)

pub returns : goal.returns
returns c = record { within = count_fits (goal.at.returns c).After-digit_count-k; fewest = c.digit_count-k.ensures; digits = c.write_digits.ensures }
