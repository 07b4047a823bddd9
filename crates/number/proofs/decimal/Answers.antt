-- `number::decimal` meets its contract. Assumes nothing.
use Rattle.std.proofs.Common.{arith}
use Rattle.std.proofs.lemmas.Grind.{common_steps}
use Rattle.number.proofs.Read.{read_on}
use Rattle.number.proofs.decimal.Goals as goal

pub loop-c-preserved : goal.loop-c-preserved
loop-c-preserved c = record { fits = grind (arith, common_steps); whole = grind (arith, read_on) }
