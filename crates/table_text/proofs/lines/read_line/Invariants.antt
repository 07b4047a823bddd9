-- `table_text::lines::read_line` meets its contract. The loop's invariant: so many numbers are read and laid, and the words from
-- here on are left. Each number takes a byte and a space at least, so there are no more of them than places passed.
-- Assumes nothing.
use Prim.Native.Nat.{◌-◌, ◌≤◌}
use lib.ListN.{length, drop}
use Rattle.table_text.proofs.LineRead.{words_in, SoFar}
use Rattle.table_text.proofs.lines.read_line.Given as goal

abbrev pub invariant-loop-i : goal.invariant-loop-i
invariant-loop-i l =
    (l.i ≤ length l.line) × (l.n ≤ l.i) × SoFar l.line l.initial.image l.image l.k l.n (words_in (drop l.i l.line))

abbrev pub decreases-loop-i : goal.decreases-loop-i
decreases-loop-i l = length l.line - l.i
