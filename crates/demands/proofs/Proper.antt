-- What the proofs of demand 3 ask of a table, and what a layout comes to. An accepted image's table is such a one.
-- Assumes nothing.
use Prim.Native.Nat.{ℕ, ◌≤◌, ◌<◌}
use mathlib.Core.Path.{◌≡◌}
use mathlib.Core.Bool.{true}
use mathlib.Core.List.{List, []}
use lib.ListN.{get_or}
use Rattle.image.specs.Proper.{Times, proper}
use Rattle.image.specs.Sound.{Sound}
use Rattle.image.specs.Table.{Table, table_of, times_of}
use Rattle.image.proofs.Accepted.{times_word}
use Rattle.layout.specs.Model.{Model, Idle}
use Rattle.layout.proofs.Limits.{proper_cells}

-- every action of the table keeps the open rule, and no hold time passes the longest, which is a word
pub record Proper (table : Table) (times : Times) : Type 0 where
  pub word : times.first ≤ 65535
  pub cells : (layer row column : ℕ) → proper (table.cell layer row column) times ≡ true

pub proper_image : (img : List ℕ) → ((i : ℕ) → get_or img i 0 < 256) → Sound img → Proper (table_of img) (times_of img)
proper_image img bytes s = record { word = times_word img s bytes; cells = proper_cells img s }

-- the queue is empty and nothing waits
pub record Quiet (l : Model) : Type 0 where
  pub empty : l.queue ≡ []
  pub idle : l.waiting ≡ Idle
