-- `table_text::lay::lay_lines` meets its contract. The loop's invariant: the lines that are left, laid from here on, make all of
-- them, and each line so far took 96 bytes at most. Assumes nothing.
use Prim.Native.Nat.{◌+◌, ◌*◌, ◌-◌, ◌≤◌}
use Rattle.table_text.specs.Print.{text_from, rows_from}
use Rattle.table_text.proofs.Laid.{Rest}
use Rattle.table_text.proofs.lay.lay_lines.Given as goal

abbrev pub invariant-loop-i : goal.invariant-loop-i
invariant-loop-i l =
    let whole = text_from (rows_from l.image l.from l.count l.width) in
    (l.to ≤ l.at + 96 * l.i)
    × Rest (text_from (rows_from l.image (l.from + 2 * l.width * l.i) (l.count - l.i) l.width)) l.to l.out whole l.at l.initial.out
