-- `layout::line::Line::age` meets its contract. Assumes nothing.
use mathlib.Core.List.{◌++◌, map}
use mathlib.Core.Path.{◌≡◌}
use lib.ListN.{take, drop}
use Rattle.layout.proofs.Parts.{older_in}
use Rattle.layout.proofs.line.Line.age.Given as goal

abbrev pub invariant-loop-waits : goal.invariant-loop-waits
invariant-loop-waits l = l.waits-items ≡ map older_in (take l.waits-index l.initial.waits-items) ++ drop l.waits-index l.initial.waits-items
