-- `table_body::text_room` meets its contract. Assumes nothing.
use Prim.Native.Nat.{ℕ}
use lib.ListN.{length-replicate}
use Rattle.table_body.proofs.text_room.Goals as goal

pub returns : goal.returns
returns c = length-replicate {0} {A = ℕ} 1048577 0
