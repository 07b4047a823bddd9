-- `debounce::sizes::Sizes::tell` meets its contract: the events up to a place stand in the buffer. Assumes nothing.
use Rattle.std.proofs.Common.{◌≤◌, take}
use Rattle.debounce.specs.Events.{changes}
use Rattle.debounce.specs.Inside.{WrittenTo}
use Rattle.debounce.proofs.sizes.Sizes.tell.Given as goal

abbrev pub invariant-loop-place : goal.invariant-loop-place
invariant-loop-place l =
    (l.count ≤ l.place)
    × WrittenTo l.initial.out (changes l.self.columns 0 (take l.place l.before) (take l.place l.after)) l.count l.out
