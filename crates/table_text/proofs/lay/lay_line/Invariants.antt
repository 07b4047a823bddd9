-- `table_text::lay::lay_line` meets its contract. The loop's invariant: what is left of the line, laid from here on, makes the
-- whole line, and each number so far took six bytes at most. Assumes nothing.
use Prim.Native.Nat.{◌+◌, ◌*◌, ◌-◌, ◌≤◌}
use Rattle.image.specs.Words.{words_from}
use Rattle.table_text.specs.Inside.{marked}
use Rattle.table_text.proofs.Laid.{Rest}
use Rattle.table_text.proofs.lay.lay_line.Given as goal

abbrev pub invariant-loop-i : goal.invariant-loop-i
invariant-loop-i l =
    let whole = marked (words_from l.image l.from l.width) in
    (l.to ≤ l.at + 6 * l.i)
    × Rest (marked (words_from l.image (l.from + 2 * l.i) (l.width - l.i))) l.to l.out whole l.at l.initial.out
