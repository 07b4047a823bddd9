-- What each call hands back: document 01, Layout, its last paragraph, and "Refusal numbers": the image's own refusals, then 13
-- State, then 12 Room. The contracts of `event`, `tick` and `keycodes` are these definitions, and the demands speak of runs of
-- them.
-- Assumes nothing.
use Rattle.std.specs.Prelude.{ℕ, List, leb, length, take, Result, Ok, Err}
use Rattle.lists.specs.Lists.{laid}
use Rattle.refusal.specs.Verdict.{Verdict, fine, rule, or_else}
use Rattle.refusal.specs.Said.{Said, said}
use Rattle.refusal.specs.declared.Refusal.TheVariants as refusal
use Rattle.refusal.specs.declared.Fault.{Fault}
use Rattle.event.specs.declared.Event.{Event}
use Rattle.image.specs.Check.{Checked, check_of}
use Rattle.image.specs.Table.{table_of}
use Rattle.layout.specs.Model.{Model, Done, still}
use Rattle.layout.specs.Steps.{codes, event, tick}
use Rattle.layout.specs.Packed.{pack, unpack}
use Rattle.layout.specs.State.{state_good}
use Rattle.layout.specs.Notes.{no_notes, noted}
use Rattle.layout.specs.declared.layout.Layout.{Layout}
use Rattle.layout.specs.declared.answer.Answer.{Answer}
use Rattle.layout.specs.declared.answer.Answered.{Answered}

-- the refusal in the image check's answer
abbrev pub verdict_in : Checked → Verdict
verdict_in (Ok shape) = fine
verdict_in (Err fault) = Err fault

-- the image's own refusals, then State, then Room: a code buffer under 64 bytes
unfoldable pub judged_of : List ℕ → Layout → ℕ → Verdict
judged_of img lay room =
    or_else (verdict_in (check_of img)) (rule (state_good img lay) refusal.State 0 (rule (leb 64 room) refusal.Room 0 fine))

-- the answer of a call that did so: the number of its codes, the event acted on and the decisions made
unfoldable pub answer_of : Verdict → Done → Result Answer Fault
answer_of (Ok u) done = Ok (record { codes = length (codes done.layout.states); notes = noted no_notes done })
answer_of (Err fault) done = Err fault

-- the layout after it; a refused call leaves it as it was
unfoldable pub layout_after : Verdict → Done → Layout → Layout
layout_after (Ok u) done lay = pack done.layout
layout_after (Err fault) done lay = lay

-- the buffer after it: the codes in state order; bytes past them, and those of a refused call, are unchanged
unfoldable pub buffered : Verdict → Done → List ℕ → List ℕ
buffered (Ok u) done buffer = laid (codes done.layout.states) buffer
buffered (Err fault) done buffer = buffer

-- the values of a refused answer: no codes, no event and no decisions
abbrev pub no_answer : Answer
no_answer = record { codes = 0; notes = no_notes }

-- all that a call hands back: the number, the place and the values of its answer, the layout, and the buffer that it was lent
pub record Reply : Type 0 where
  pub told : Said Answer
  pub layout : Layout
  pub buffer : List ℕ

-- the codes of an answer: the first bytes of the buffer, as many as the answer says
abbrev pub codes_told : Reply → List ℕ
codes_told r = take r.told.values.codes r.buffer

-- what the result of a call and its buffer at exit come to; of one that hands no layout on, the layout is the one it had
abbrev pub handed : Answered → List ℕ → Reply
handed r buffer = record { told = said no_answer r.answer; layout = r.layout; buffer = buffer }

abbrev pub shown : Result Answer Fault → Layout → List ℕ → Reply
shown a layout buffer = record { told = said no_answer a; layout = layout; buffer = buffer }

-- the reply of a call by its step: over an image, on a layout, a buffer lent
unfoldable pub replied : List ℕ → (Model → Done) → Layout → List ℕ → Reply
replied image step layout buffer =
    let j = judged_of image layout (length buffer) in
    let done = step (unpack image layout) in
    record { told = said no_answer (answer_of j done); layout = layout_after j done layout; buffer = buffered j done buffer }

abbrev pub event_reply : List ℕ → Event → Layout → List ℕ → Reply
event_reply image e layout buffer = replied image (event (table_of image) e) layout buffer

abbrev pub tick_reply : List ℕ → Layout → List ℕ → Reply
tick_reply image layout buffer = replied image (tick (table_of image)) layout buffer

abbrev pub keycodes_reply : List ℕ → Layout → List ℕ → Reply
keycodes_reply image layout buffer = let r = replied image still layout buffer in record { told = r.told; layout = layout; buffer = r.buffer }
