-- Which cells change between two tables: document 02, W-203; what `compare` answers, and what the lent buffer then holds.
-- Assumes nothing.
use Rattle.std.specs.Prelude.{ℕ, zero, suc, ◌+◌, ◌*◌, ◌/◌, ◌%◌, ◌≡◌, Bool, not, ◌&&◌, List, [], ◌∷◌, eqb, leb, length, Result, Ok, Err}
use Rattle.lists.specs.Lists.{keep, laid}
use Rattle.refusal.specs.Said.{said}
use Rattle.refusal.specs.Verdict.{Verdict, fine, rule, or_else}
use Rattle.refusal.specs.declared.Fault.{Fault}
use Rattle.refusal.specs.declared.Refusal.TheVariants.{Shape, Room}
use Rattle.image.specs.Check.{fault_of}
use Rattle.image.specs.Tree.{tree}
use Rattle.image.specs.Words.{layers_of, rows_of, columns_of, cells_of, cell_of}
use Rattle.table_changes.specs.Same.{same}

-- the action of cell i, counted from the first, is another one
unfoldable pub differs : List ℕ → List ℕ → ℕ → Bool
differs first second i = not (same (tree first (cell_of first i)) (tree second (cell_of second i)))

-- so many numbers from i on
unfoldable pub from : ℕ → ℕ → List ℕ
from i zero = []
from i (suc n) = i ∷ from (i + 1) n

-- the cells whose action differs, by their numbers: by layer, row and column
unfoldable pub changed : List ℕ → List ℕ → List ℕ
changed first second = keep (differs first second) (from 0 (cells_of first))

-- the layer, row and column of each, a byte each, in a table of so many rows and columns
unfoldable pub placed : ℕ → ℕ → List ℕ → List ℕ
placed rows columns [] = []
placed rows columns (i ∷ cells) = i / columns / rows ∷ i / columns % rows ∷ i % columns ∷ placed rows columns cells

-- L, R and C are the same
unfoldable pub sizes_equal : List ℕ → List ℕ → Bool
sizes_equal first second =
    eqb (layers_of first) (layers_of second) && (eqb (rows_of first) (rows_of second) && eqb (columns_of first) (columns_of second))

-- the first image's own refusal, the second's, 16 Shape, and 12 Room for a buffer of this length under 3LRC bytes
unfoldable pub compare_verdict : List ℕ → List ℕ → ℕ → Verdict
compare_verdict first second room =
    or_else (fault_of first)
    (or_else (fault_of second) (rule (sizes_equal first second) Shape 0 (rule (leb (3 * cells_of first) room) Room 0 fine)))

-- a call's whole reply
pub record Reply : Type 0 where
  pub compared : Result ℕ Fault
  pub buffer : List ℕ

-- the reply to a verdict on these cells: their bytes are laid over the start of the buffer; refused, it is as it was
unfoldable pub reply_of : Verdict → List ℕ → List ℕ → List ℕ → Reply
reply_of (Ok u) cells bytes out = record { compared = Ok (length cells); buffer = laid bytes out }
reply_of (Err fault) cells bytes out = record { compared = Err fault; buffer = out }

unfoldable pub compare_reply : List ℕ → List ℕ → List ℕ → Reply
compare_reply first second out =
    let cells = changed first second in
    reply_of (compare_verdict first second (length out)) cells (placed (rows_of first) (columns_of first) cells) out

-- a call answers so, which is how many cells there are, and leaves its buffer so
abbrev pub Replies : Reply → Result ℕ Fault → List ℕ → Type 0
Replies reply x after = (said 0 x ≡ said 0 reply.compared) × (after ≡ reply.buffer)
