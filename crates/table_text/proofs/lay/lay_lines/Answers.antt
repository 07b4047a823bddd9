-- `table_text::lay::lay_lines` meets its contract. The loop's invariant: the lines that are left, laid from here on, make all of
-- them, and each line so far took 96 bytes at most. Assumes nothing.
use Prim.Native.Nat.{◌+◌, ◌*◌, ◌-◌}
use mathlib.Core.Path.{◌≡◌}
use native.Mathlib.Nat.{mul-zero}
use native.Mathlib.Omega.{arith}
use Rattle.image.specs.Words.{words_from}
use Rattle.table_text.specs.Inside.{Lays}
use Rattle.table_text.specs.Print.{line_of, text_from, rows_from}
use Rattle.table_text.proofs.Laid.{rest_start, rest_on, rest_end}
use Rattle.table_text.proofs.Printed.{line_short, lines_on, lines_none}
use Rattle.table_text.proofs.lay.lay_lines.Goals as goal

pub loop-i-init : goal.loop-i-init
loop-i-init c =
    let a = c.args in
    let p : a.from + 2 * a.width * 0 ≡ a.from = rw mul-zero (omega arith) in
    let w : a.count - 0 ≡ a.count = omega arith in
    (omega arith, rw (p, w) (rest_start (text_from (rows_from a.image.now a.from a.count a.width)) a.at a.out.now))

pub loop-i-preserved : goal.loop-i-preserved
loop-i-preserved c =
    let a = c.args in
    let img = a.image.now in
    let inv = c.loop-i.invariant in
    let at = a.from + 2 * a.width * c.loop-i.i in
    let said : Lays (line_of (words_from img at a.width)) c.loop-i.to c.loop-i.out c.lay_line-to.result c.lay_line-to.new.out
    = c.lay_line-to.ensures in (
      omega (arith, inv.0, said.ends, line_short img at a.width c.requires.0, c.requires.1),
      rest_on (rw (lines_on img a.from a.count a.width c.loop-i.i c.loop-i-test.true) at inv.1) said,
    )

pub returns : goal.returns
returns c =
    let a = c.args in
    let none : a.count - c.loop-i.i ≡ 0 = omega (arith, c.loop-i-test.false) in
    rest_end (rw (lines_none a.image.now (a.from + 2 * a.width * c.loop-i.i) (a.count - c.loop-i.i) a.width none) at c.loop-i.invariant.1)
