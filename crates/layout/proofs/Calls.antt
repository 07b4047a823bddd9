-- Laws of the public calls: what a call that is not refused may rely on, and its answer in either case. Assumes nothing.
use mathlib.Core.Path.{◌≡◌, refl, sym, ap, ◌∙◌}
use mathlib.Core.Bool.{true}
use mathlib.Core.List.{List, [], ◌∷◌, map}
use Prim.Native.Nat.{ℕ, ◌≤◌}
use borrow.Author.Tests.{leb-true}
use lib.Dec.{leb}
use lib.ListN.{length, take}
use Rattle.lists.specs.Lists.{laid}
use Rattle.std.specs.Prelude.{Option, Some, None, Result, Ok, Err}
use Rattle.refusal.specs.Verdict.{Verdict, fine}
use Rattle.refusal.specs.declared.Fault.{Fault}
use Rattle.refusal.specs.declared.Refusal.TheVariants as refusal
use Rattle.refusal.proofs.Verdicts.{rule_fine, or_fine}
use Rattle.image.specs.Check.{Checked, check_of}
use Rattle.image.specs.Sound.{Sound}
use Rattle.image.proofs.Accepted.{accepted}
use Rattle.layout.specs.Model.{Model, Done}
use Rattle.layout.specs.Steps.{codes}
use Rattle.layout.specs.Packed.{pad, no_state, no_stacked, states_in, queued_of, stacked_of, list_in, waiting_of, waiting_in, model_of, pack, unpack}
use Rattle.layout.specs.State.{state_good}
use Rattle.layout.specs.Notes.{no_notes, noted}
use Rattle.layout.specs.Calls.{verdict_in, judged_of, answer_of, layout_after, buffered, handed, replied}
use Rattle.layout.specs.Order.{Tidy, Lined, Ready}
use Rattle.layout.specs.Inside.{Answers, Handed, verdict_of}
use Rattle.layout.specs.declared.active.State.{State}
use Rattle.layout.specs.declared.active.Active.{Active}
use Rattle.layout.specs.declared.active.WaitingState.{WaitingState}
use Rattle.layout.specs.declared.queue.Stacked.{Stacked}
use Rattle.layout.specs.declared.queue.Queue.{Queue}
use Rattle.layout.specs.declared.progress.Progress.{Progress}
use Rattle.layout.specs.declared.line.Line.{Line}
use Rattle.layout.specs.declared.layout.Layout.{Layout}
use Rattle.layout.specs.declared.answer.Answer.{Answer}
use Rattle.layout.specs.declared.answer.Answered.{Answered}
use Rattle.layout.proofs.Moves.{Finished}
use Rattle.layout.proofs.Parts.{held_length, list_length}
use Rattle.layout.proofs.States.{legal, legal_tidy, legal_lined}

fine_sound : (x : Checked) (img : List ℕ) → check_of img ≡ x → verdict_in x ≡ fine → Sound img
fine_sound (Ok s) img c e = (accepted img s c).1
fine_sound (Err f) img c e = cc

-- a call that is not refused has an accepted image, a layout that State is not given for, and room for its codes
pub judged_fine : (img : List ℕ) (lay : Layout) (room : ℕ) → judged_of img lay room ≡ fine → Sound img × (state_good img lay ≡ true) × (64 ≤ room)
unfolding judged_of
judged_fine img lay room e =
    let a = or_fine (verdict_in (check_of img)) _ e in
    let b = rule_fine (state_good img lay) refusal.State 0 _ a.1 in
    let c = rule_fine (leb 64 room) refusal.Room 0 _ b.1 in
    (fine_sound (check_of img) img refl a.0, b.0, leb-true 64 room c.0)

-- what a call is judged tells which of the two it is
module _ {A : Type 0} where
  judged_ok : {v : Verdict} {judged : Result A Fault} {t : A} → verdict_of judged ≡ v → judged ≡ Ok t → v ≡ fine
  judged_ok j e = sym j ∙ rw e

  judged_err : {v : Verdict} {judged : Result A Fault} {f : Fault} → verdict_of judged ≡ v → judged ≡ Err f → v ≡ Err f
  judged_err j e = sym j ∙ rw e

pub ready : (img : List ℕ) (lay : Layout) (room : ℕ) → length lay.active.states ≡ 64 → length lay.queue.stacked ≡ 16 → judged_of img lay room ≡ fine
    → Ready lay.active lay.queue × (64 ≤ room)
ready img lay room e f j =
    let a = judged_fine img lay room j in
    let good = legal img lay a.1 in
    (record { tidy = legal_tidy img lay good e; lined = legal_lined img lay good f }, a.2)

map_stacked : (l : List Stacked) → map stacked_of (map queued_of l) ≡ l
map_stacked [] = refl
map_stacked (s ∷ l) = ap (λ (x : List Stacked). s ∷ x) (map_stacked l)

waiting_back : (img : List ℕ) (w : Option WaitingState) → waiting_in (waiting_of img w) ≡ w
waiting_back img None = refl
waiting_back img (Some w) = refl

-- both parts in order are the packed layout
pub packed : (img : List ℕ) (active : Active) (queue : Queue) → Tidy active → Lined queue → record { active = active; queue = queue } ≡ pack (model_of img active (list_in queue))
packed img active queue t l =
    let states : active.states ≡ pad 64 no_state (states_in active) = sym t.clean in
    let count : active.len ≡ length (states_in active) = sym (held_length active t) in
    let waits : active.waiting ≡ waiting_in (waiting_of img active.waiting) = sym (waiting_back img active.waiting) in
    let events : queue.stacked ≡ pad 16 no_stacked (map stacked_of (list_in queue)) = sym (ap (pad 16 no_stacked) (map_stacked (take queue.queued queue.stacked)) ∙ l.clean) in
    let queued : queue.queued ≡ length (list_in queue) = sym (list_length queue l) in
    λ i. record {
      active = record { default_layer = active.default_layer; states = states i; len = count i; waiting = waits i };
      queue = record { stacked = events i; queued = queued i };
    }

-- a refused call
pub call_refused : (img : List ℕ) (lay : Layout) (buffer : List ℕ) (step : Model → Done) {A : Type 0} {judged : Result A Fault} {fault : Fault}
    → verdict_of judged ≡ judged_of img lay (length buffer) → judged ≡ Err fault
    → handed (record { answer = Err fault; layout = lay }) buffer ≡ replied img step lay buffer
unfolding replied answer_of layout_after buffered
call_refused img lay buffer step j e = rw (judged_err j e)

-- the answer with the layout that stands beside it
pub handing : (end : Progress) (queue : Queue) (a : Answer) (buffer after : List ℕ) → Answers end a buffer after
    → Handed end queue (record { answer = Ok a; layout = record { active = end.active; queue = queue } }) buffer after
handing end queue a buffer after h = (ap (λ (x : Answer). record { answer = Ok x; layout = record { active = end.active; queue = queue } }) h.0, h.1)

-- a call that was not
pub call_finished : (img : List ℕ) (lay : Layout) (end : Progress) (line : Line) (step : Model → Done) (buffer after : List ℕ) (a : Answered) {A : Type 0} {judged : Result A Fault} {t : A}
    → verdict_of judged ≡ judged_of img lay (length buffer) → judged ≡ Ok t → Finished img end line (step (unpack img lay)) → Handed end line.queue a buffer after
    → handed a after ≡ replied img step lay buffer
unfolding replied answer_of layout_after buffered
call_finished img lay end line step buffer after a j o w h =
    let done = step (unpack img lay) in
    let held : states_in end.active ≡ done.layout.states = ap (λ (m : Model). m.states) w.is in
    let whole : record { active = end.active; queue = line.queue } ≡ pack done.layout = packed img end.active line.queue end.tidy line.lined ∙ ap pack w.is in
    let answers : a ≡ record { answer = Ok (record { codes = length (codes done.layout.states); notes = noted no_notes done }); layout = pack done.layout } =
    h.0 ∙ (λ i. record { answer = Ok (record { codes = length (codes (held i)); notes = w.notes i }); layout = whole i }) in
    let bytes : after ≡ laid (codes done.layout.states) buffer = h.1 ∙ ap (λ (s : List State). laid (codes s) buffer) held in
    rw (judged_ok j o) (λ i. handed (answers i) (bytes i))
