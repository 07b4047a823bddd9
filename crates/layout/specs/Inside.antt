-- What the private functions promise: how the parts of a layout and the lists that they stand for go together.
-- Assumes nothing.
use Rattle.std.specs.Prelude.{◌≡◌, List, ℕ, ◌-◌, length, Option, Some, Result, Ok, Err}
use Rattle.lists.specs.Lists.{laid}
use Rattle.refusal.specs.Verdict.{Verdict, fine}
use Rattle.refusal.specs.declared.Fault.{Fault}
use Rattle.event.specs.declared.Coord.{Coord}
use Rattle.image.specs.Table.{table_of, tree_in}
use Rattle.layout.specs.Model.{Queued, Model, Done, age_of, with_waiting}
use Rattle.layout.specs.Steps.{codes, pressed, act, overflow, into, tick_wait}
use Rattle.layout.specs.Packed.{states_in, queued_of, list_in, waiting_of, waits_at, model_of}
use Rattle.layout.specs.Order.{Tidy}
use Rattle.layout.specs.Notes.{noted}
use Rattle.layout.specs.declared.active.Active.{Active}
use Rattle.layout.specs.declared.active.WaitingState.{WaitingState}
use Rattle.layout.specs.declared.notes.Notes.{Notes}
use Rattle.layout.specs.declared.notes.Way.{Way}
use Rattle.layout.specs.declared.queue.Stacked.{Stacked}
use Rattle.layout.specs.declared.queue.Queue.{Queue}
use Rattle.layout.specs.declared.progress.Progress.{Progress}
use Rattle.layout.specs.declared.line.Line.{Line}
use Rattle.layout.specs.declared.answer.Answer.{Answer}
use Rattle.layout.specs.declared.answer.Answered.{Answered}

-- the active part comes from another, whatever is queued
pub record Moves (img : List ℕ) (start end : Active) (move : Model → Model) : Type 0 where
  pub tidy : Tidy end
  pub is : (q : List Queued) → model_of img end q ≡ move (model_of img start q)

-- a call with these notes has come by a step to an end, where the queue is q
pub record Did (img : List ℕ) (before : Notes) (end : Progress) (q : List Queued) (done : Done) : Type 0 where
  pub is : model_of img end.active q ≡ done.layout
  pub notes : end.notes ≡ noted before done

abbrev pub Steps : List ℕ → Progress → Progress → Queue → (Model → Done) → Type 0
Steps img begun end queue step = Did img begun.notes end (list_in queue) (step (model_of img begun.active (list_in queue)))

-- the same of a step that changes the queue too
abbrev pub Goes : List ℕ → Progress → Line → Progress → Line → (Model → Done) → Type 0
Goes img begun first end last step = Did img begun.notes end (list_in last.queue) (step (model_of img begun.active (list_in first.queue)))

-- the record that a press runs
abbrev pub PressedTo : List ℕ → Active → Coord → Option ℕ → Type 0
PressedTo img active c cell = (q : List Queued) → tree_in img cell ≡ pressed (table_of img) c (model_of img active q)

-- a queued event is acted on, with its age, also where it left a full queue; what waits becomes tap or hold, and a tick
-- of it
abbrev pub unstacked : List ℕ → Stacked → Model → Done
unstacked img s l = act (table_of img) s.event (age_of (queued_of s)) l

abbrev pub overflowed : List ℕ → Stacked → Model → Done
overflowed img s l = overflow (table_of img) (queued_of s) l

abbrev pub becomes : List ℕ → Way → WaitingState → Model → Done
becomes img way w l = into way (table_of img) (waiting_of img (Some w)) l

abbrev pub waited_one : List ℕ → WaitingState → Model → Done
waited_one img w l = tick_wait (table_of img) (w.left - 1) (with_waiting (waiting_of img (waits_at w.coord (w.left - 1) w.number)) l)

-- whether a result is refused
abbrev pub verdict_of : {A : Type 0} → Result A Fault → Verdict
verdict_of (Ok a) = fine
verdict_of (Err fault) = Err fault

-- the answer of a call that was not refused, and its buffer; and with the layout that it hands back
abbrev pub Answers : Progress → Answer → List ℕ → List ℕ → Type 0
Answers end a buffer after =
    let held = codes (states_in end.active) in
    (a ≡ record { codes = length held; notes = end.notes }) × (after ≡ laid held buffer)

abbrev pub Handed : Progress → Queue → Answered → List ℕ → List ℕ → Type 0
Handed end queue r buffer after =
    let held = codes (states_in end.active) in
    (r ≡ record { answer = Ok (record { codes = length held; notes = end.notes }); layout = record { active = end.active; queue = queue } }) × (after ≡ laid held buffer)
