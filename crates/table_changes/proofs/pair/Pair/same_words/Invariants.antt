-- `table_changes::pair::Pair::same_words` meets its contract. The loop's invariant: the words are alike just where those from here on are. Assumes nothing.
use Rattle.std.proofs.Common.{◌≡◌}
use Rattle.lists.specs.Lists.{alike}
use Rattle.image.specs.Words.{words_from}
use Rattle.image.proofs.Entries.{words_after}
use Rattle.table_changes.proofs.pair.Pair.same_words.Given as goal

abbrev pub invariant-loop-i : goal.invariant-loop-i
invariant-loop-i l =
    alike (words_from l.self.first.now l.at l.count) (words_from l.self.second.now l.other l.count)
    ≡ alike (words_after l.self.first.now l.at l.count l.i) (words_after l.self.second.now l.other l.count l.i)
