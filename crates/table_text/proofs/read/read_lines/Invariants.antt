-- `table_text::read::read_lines` meets its contract. The loop's invariant: so many lines are read and fit, their numbers are laid, and
-- the text from here on is left. A line takes a byte at least, and so does a number. Assumes nothing.
use Prim.Native.Nat.{◌+◌, ◌-◌, ◌≤◌}
use lib.ListN.{length, drop}
use Rattle.table_text.proofs.TextRead.{Lines}
use Rattle.table_text.proofs.read.read_lines.Given as goal

abbrev pub invariant-loop-at : goal.invariant-loop-at
invariant-loop-at l =
    (l.at ≤ length l.text) × (l.line ≤ l.at + 1) × (l.k ≤ l.at + 8)
    × Lines (drop l.from l.text) l.initial.image l.image l.s l.line l.k (drop l.at l.text)

abbrev pub decreases-loop-at : goal.decreases-loop-at
decreases-loop-at l = length l.text - l.at
