-- `layout::line::Line::find_release` meets its contract. Assumes nothing.
use mathlib.Core.List.{map}
use mathlib.Core.Path.{◌≡◌}
use lib.ListN.{drop}
use Rattle.layout.specs.Actions.{find}
use Rattle.layout.specs.Packed.{queued_of}
use Rattle.layout.proofs.line.Line.find_release.Given as goal

abbrev pub invariant-loop-stacked : goal.invariant-loop-stacked
invariant-loop-stacked l = find l.coord (map queued_of l.stacked-items) ≡ find l.coord (map queued_of (drop l.stacked-index l.stacked-items))
