-- `table_text::lines::read_line` meets its contract. The loop's invariant: so many numbers are read and laid, and the words from
-- here on are left. Each number takes a byte and a space at least, so there are no more of them than places passed.
-- Assumes nothing.
use Prim.Native.Nat.{ℕ, suc, ◌+◌, ◌-◌, ◌<◌}
use mathlib.Core.Path.{◌≡◌, sym, ap, ◌∙◌}
use mathlib.Core.List.{List, []}
use borrow.Author.Tests.{eqb-true, eqb-false}
use native.Mathlib.Omega.{arith}
use lib.ListN.{length, length-drop, take, drop, drop_of_length-le}
use lib.Seq.{drop-drop}
use Rattle.std.specs.Prelude.{Option, Some}
use Rattle.number.specs.Number.{read_decimal}
use Rattle.table_text.specs.Lines.{Numbers, before}
use Rattle.table_text.specs.Inside.{index_of, unspaced}
use Rattle.table_text.proofs.LineRead.{words_in, so_start, so_more, so_odd, so_end, so_empty, word_last, word_more, word_odd, words_none}
use Rattle.table_text.proofs.lines.read_line.Goals as goal

pub returns-then-is_empty : goal.returns-then-is_empty
returns-then-is_empty c = let a = c.args in so_empty a.line.now a.image.now a.k (eqb-true _ _ (sym c.if-is_empty.ensures))

pub loop-i-init : goal.loop-i-init
loop-i-init c =
    let a = c.args in
    (omega arith, omega arith, so_start a.line.now a.image.now a.k (omega (arith, eqb-false _ _ (sym c.if-is_empty.ensures))))

-- what the first word of these bytes is
word : (S : List ℕ) (n : ℕ) (x y : Option ℕ) → n ≡ index_of 32 S → x ≡ read_decimal (take n S) → x ≡ y → read_decimal (take (index_of 32 S) S) ≡ y
word S n x y e r is = ap (λ m. read_decimal (take m S)) (sym e) ∙ sym r ∙ is

pub returns-in_err-value : goal.returns-in_err-value
returns-in_err-value c =
    let S = drop c.loop-i.i c.args.line.now in
    let long : c.find-end.result - c.loop-i.i ≡ index_of 32 S = omega (arith, c.find-end.ensures.0) in
    rw c.from_residual.ensures (so_odd c.loop-i.image c.loop-i.invariant.2 (word_odd S (word S _ _ _ long c.decimal.ensures c.in_err-value.was)))

pub returns-then-end-line : goal.returns-then-end-line
returns-then-end-line c =
    let S = drop c.loop-i.i c.args.line.now in
    let long : c.find-end.result - c.loop-i.i ≡ index_of 32 S = omega (arith, c.find-end.ensures.0) in
    let all : index_of 32 S ≡ length S = simp length-drop (omega (arith, c.find-end.ensures.0, c.if-end-line.true)) in
    let last = word_last S _ all (word S _ _ _ long c.decimal.ensures c.in_ok-value.was) in
    so_end (so_more _ (Numbers []) c.loop-i.invariant.2 last c.put_word.ensures) (omega (arith, c.loop-i.invariant.1, c.loop-i-test.true))

pub loop-i-preserved : goal.loop-i-preserved
loop-i-preserved c =
    let line = c.args.line.now in
    let S = drop c.loop-i.i line in
    let inv = c.loop-i.invariant in
    let e = c.find-end.ensures.0 in
    let v = c.in_ok-value.value in
    let long : c.find-end.result - c.loop-i.i ≡ index_of 32 S = omega (arith, e) in
    let some : index_of 32 S < length S = simp length-drop (omega (arith, e, c.find-end.ensures.1, c.if-end-line.false)) in
    let next : c.loop-i.i + suc (index_of 32 S) ≡ c.find-end.result + 1 = omega (arith, e) in
    let rest : unspaced (drop (suc (index_of 32 S)) S) ≡ drop c.past_spaces-i.result line
    = ap unspaced (drop-drop (suc (index_of 32 S)) c.loop-i.i line ∙ ap (λ m. drop m line) next) ∙ sym c.past_spaces-i.ensures.0 in
    let more = word_more S v some (word S _ _ _ long c.decimal.ensures c.in_ok-value.was) ∙ ap (λ x. before (Some v) (words_in x)) rest in (
      c.past_spaces-i.ensures.2,
      omega (arith, inv.1, e, c.past_spaces-i.ensures.1),
      so_more v _ inv.2 more c.put_word.ensures,
    )

pub returns : goal.returns
returns c =
    let none = drop_of_length-le c.args.line.now c.loop-i-test.false in
    so_odd c.loop-i.image c.loop-i.invariant.2 (ap words_in none ∙ words_none)
