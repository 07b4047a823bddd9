-- What the private functions answer, in the words of the public definitions. Assumes nothing.
use Rattle.std.specs.Prelude.{ℕ, ◌<◌, Bool, cond, ◌&&◌, List, [], ◌≡◌, leb, length, take, Result, Ok, Err}
use Rattle.lists.specs.Lists.{laid}
use Rattle.refusal.specs.Verdict.{Verdict, fine}
use Rattle.refusal.specs.declared.Fault.{Fault}
use Rattle.event.specs.declared.Event.{Event}
use Rattle.debounce.specs.Picture.{is_picture}
use Rattle.debounce.specs.Step as filter
use Rattle.debounce.specs.Events.{changes, written}
use Rattle.debounce.specs.Calls.{with_pictures}
use Rattle.debounce.specs.declared.Debouncer.{Debouncer}
use Rattle.debounce.specs.declared.Step.{Step}
use Rattle.debounce.specs.declared.sizes.Sizes.{Sizes}

-- a place holds at most so much
abbrev pub at_most : ℕ → ℕ → Bool
at_most most u = leb u most

-- an answer without its values
abbrev pub verdict_of : {A : Type 0} → Result A Fault → Verdict
verdict_of (Ok values) = fine
verdict_of (Err fault) = Err fault

-- since and the pictures of so many switches break no rule
abbrev pub is_kept : Debouncer → ℕ → Bool
is_kept d n = leb d.since d.nb_bounce && (is_picture n d.cur && is_picture n d.new)

-- the sizes are the debouncer's, and its count can grow
abbrev pub IsLegal : Debouncer → Sizes → Type 0
IsLegal d s = (s.rows ≡ d.rows) × (s.columns ≡ d.columns) × (d.since < 65535)

-- what a scan leaves, in the code's record
abbrev pub step_out : Debouncer → filter.Outcome (List ℕ) → Step
step_out d o = record { changed = o.changed; debouncer = with_pictures d o.pictures }

-- the events between two pictures of so many switches, in rows of so many columns
abbrev pub events_between : ℕ → ℕ → List ℕ → List ℕ → List Event
events_between columns n before after = changes columns 0 (take n before) (take n after)

-- those of a step
abbrev pub events_in : Step → ℕ → ℕ → List Event
events_in s columns n = cond s.changed (events_between columns n s.debouncer.new s.debouncer.cur) []

-- events at the start of a buffer: how many, and the buffer then
abbrev pub WrittenTo : List ℕ → List Event → ℕ → List ℕ → Type 0
WrittenTo buffer events count after = (count ≡ length events) × (after ≡ laid (written events) buffer)
