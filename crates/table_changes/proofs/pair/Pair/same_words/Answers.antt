-- `table_changes::pair::Pair::same_words` meets its contract. Assumes nothing.
use mathlib.Core.Path.{sym, ◌∙◌}
use Rattle.table_changes.proofs.Words.{alike_on, alike_no, alike_end}
use Rattle.table_changes.proofs.pair.Pair.same_words.Goals as goal

pub returns-then-word_or_zero : goal.returns-then-word_or_zero
returns-then-word_or_zero c =
    sym (c.loop-i.invariant ∙ alike_no _ _ _ _ _ _ c.loop-i-test.true (λ e. c.if-word_or_zero.true (cc)))

pub loop-i-preserved : goal.loop-i-preserved
loop-i-preserved c =
    c.loop-i.invariant ∙ alike_on _ _ _ _ _ _ c.loop-i-test.true (cc)

pub returns : goal.returns
returns c = sym (c.loop-i.invariant ∙ alike_end _ _ _ _ _ _ c.loop-i-test.false)
