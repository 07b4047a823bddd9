-- `table_changes::pair::Pair::list_changes` meets its contract. The loop's invariant: the cells that differ among those so far are laid. Assumes nothing.
use Rattle.image.specs.Words.{rows_of, columns_of}
use Rattle.table_changes.specs.Changes.{differs}
use Rattle.table_changes.proofs.Places.{Laid}
use Rattle.table_changes.proofs.pair.Pair.list_changes.Given as goal

abbrev pub invariant-loop-i : goal.invariant-loop-i
invariant-loop-i l =
    Laid (differs l.self.first.now l.self.second.now) (rows_of l.self.first.now) (columns_of l.self.first.now) l.i l.count l.out l.initial.out
