-- `table_text::lay::lay_line` meets its contract. The loop's invariant: what is left of the line, laid from here on, makes the
-- whole line, and each number so far took six bytes at most. Assumes nothing.
use Prim.Native.Nat.{ℕ, ◌+◌, ◌*◌, ◌-◌, ◌<◌}
use mathlib.Core.Bool.{cond}
use mathlib.Core.List.{[], ◌∷◌, ◌++◌}
use mathlib.Core.Path.{◌≡◌}
use native.Mathlib.Omega.{arith}
use lib.Dec.{eqb}
use lib.ListN.{length-append}
use Rattle.image.specs.Words.{word_at}
use Rattle.text.specs.Text.{decimal_of}
use Rattle.table_text.specs.Inside.{Lays}
use Rattle.table_text.proofs.Laid.{rest_on, rest_end}
use Rattle.table_text.proofs.Decimal.{decimal_short}
use Rattle.table_text.proofs.Printed.{line_is, marks_on, marks_none}
use Rattle.table_text.proofs.lay.lay_line.Goals as goal

pub loop-i-preserved : goal.loop-i-preserved
loop-i-preserved c =
    let a = c.args in
    let img = a.image.now in
    let inv = c.loop-i.invariant in
    let in-turn : c.loop-i.i < a.width = c.loop-i-test.true in
    let word = word_at img (a.from + 2 * c.loop-i.i) in
    let mark = cond {A = ℕ} (eqb (c.loop-i.i + 1) a.width) 10 32 in
    let said : Lays (decimal_of word ++ (mark ∷ [])) c.loop-i.to c.loop-i.out c.lay_number-to.result c.lay_number-to.new.out
    = rw (← c.word_or_zero-n.ensures, ← c.mark_behind.ensures) c.lay_number-to.ensures in (
      omega (arith, simp length-append at said.ends, decimal_short word, inv.0),
      rest_on (rw (marks_on img a.from a.width c.loop-i.i in-turn) at inv.1) said,
    )

pub returns : goal.returns
returns c =
    let a = c.args in
    let none : a.width - c.loop-i.i ≡ 0 = omega (arith, c.loop-i-test.false) in
    rw (line_is a.image.now a.from a.width c.requires.0)
    (rest_end (rw (marks_none a.image.now (a.from + 2 * c.loop-i.i) _ none) at c.loop-i.invariant.1))
