-- Laws of the steps of a layout, by cases, and of the stages of a call that come by them. Assumes nothing.
--     did_nothing, did-moves, did-acted     a stage with one part changed, and the step that it is
--     did-as, did_then                      the same step by another name; one step after another
--     put, tick_goes, event-goes     a step that changes the queue too
--     Finished, finished             a whole call
use mathlib.Core.Path.{◌≡◌, refl, sym, ap, subst, ◌∙◌}
use mathlib.Core.Bool.{true, false}
use mathlib.Core.List.{List, [], ◌∷◌}
use Prim.Native.Nat.{ℕ, zero, suc, ◌-◌, ◌≤◌, ◌<◌}
use native.Mathlib.Omega.{arith}
use lib.ListN.{length, drop, get_or}
use borrow.Author.Tests.{lt-ltb, le-ltb}
use Rattle.event.specs.declared.Event.{Event}
use Rattle.event.specs.declared.Coord.{Coord}
use Rattle.image.specs.Tree.{Action}
use Rattle.image.specs.Table.{Table, table_of}
use Rattle.layout.specs.Model.{Queued, Model, Waiting, Idle, Waits, Acted, Done, age_of, still, marked, after, with_waiting, with_queue}
use Rattle.layout.specs.Actions.{find, decided}
use Rattle.layout.specs.Steps.{act, into, into_hold, into_tap, releases, released, overflow, appended, entered, event, older, tick_wait, ticked, tick}
use Rattle.layout.specs.Packed.{list_in, waiting_of, waits_at, model_of, unpack}
use Rattle.layout.specs.Notes.{no_notes, note_acted, noted, noted_marks}
use Rattle.layout.specs.Inside.{Moves, Did, Steps, Goes, becomes, waited_one}
use Rattle.layout.specs.Effects.{Begun, Settled, Grown}
use Rattle.layout.specs.declared.active.Active.{Active}
use Rattle.layout.specs.declared.active.WaitingState.{WaitingState}
use Rattle.std.specs.Prelude.{Option, Some, None}
use Rattle.layout.specs.declared.notes.Way.{Way}
use Rattle.layout.specs.declared.notes.Way.TheVariants.{Hold}
use Rattle.layout.specs.declared.notes.Notes.{Notes}
use Rattle.layout.specs.declared.queue.Queue.{Queue}
use Rattle.layout.specs.declared.effect.Effect.{Effect}
use Rattle.layout.specs.declared.progress.Progress.{Progress}
use Rattle.layout.specs.declared.line.Line.{Line}
use Rattle.layout.specs.declared.layout.Layout.{Layout}
use Rattle.layout.proofs.Noted.{noted_after}
use Rattle.layout.proofs.Effects.{did_effect}

-- a call that began with no notes has come to its end by a step, with this queue
abbrev pub Finished : List ℕ → Progress → Line → Done → Type 0
Finished img end line done = Did img no_notes end (list_in line.queue) done

module _ (img : List ℕ) where
  pub did_nothing : (end : Progress) (q : List Queued) → Did img end.notes end q (still (model_of img end.active q))
  unfolding noted_marks
  did_nothing end q = record { is = refl; notes = refl }

  pub did_moves : (notes : Notes) (active : Active) (end : Progress) (q : List Queued) {move : Model → Model} → Moves img active end.active move → end.notes ≡ notes
      → Did img notes end q (still (move (model_of img active q)))
  unfolding noted_marks
  did_moves notes active end q m e = record { is = m.is q; notes = e }

  -- an event is acted on, and that is noted first
  pub did_acted : (notes noting : Notes) (end : Progress) (q : List Queued) (e : Event) (done : Done) → noting ≡ note_acted notes e → Did img noting end q done → Did img notes end q (marked (Acted e) done)
  unfolding noted_marks
  did_acted notes noting end q e done en d = record { is = d.is; notes = d.notes ∙ ap (λ (n : Notes). noted n done) en }

  pub did_as : {notes : Notes} {end : Progress} {q : List Queued} {x y : Done} → Did img notes end q x → x ≡ y → Did img notes end q y
  did_as {notes} {end} {q} d e = subst (Did img notes end q) e d

  pub did_then : {notes : Notes} {b c : Progress} {q : List Queued} {x : Done} (g : Model → Done) → Did img notes b q x → Did img b.notes c q (g (model_of img b.active q)) → Did img notes c q (after x (g x.layout))
  did_then {notes} {b} {c} {q} {x} g d e =
      let r : Did img b.notes c q (g x.layout) = subst (λ (m : Model). Did img b.notes c q (g m)) d.is e in
      record {
        is = r.is;
        notes = r.notes ∙ ap (λ (n : Notes). noted n (g x.layout)) d.notes ∙ sym (noted_after notes x (g x.layout));
      }

  -- a step of a call whose queue was put in before, and holds the list l
  pub put : (begun end : Progress) (line : Line) (l : List Queued) (f : Model → Done) → list_in line.queue ≡ l
      → Steps img begun end line.queue f → Did img begun.notes end (list_in line.queue) (f (model_of img begun.active l))
  put begun end line l f e d = subst (λ (x : List Queued). Did img begun.notes end (list_in line.queue) (f (model_of img begun.active x))) e d

  -- a call that began with no notes
  pub finished : (lay : Layout) (begun end : Progress) (first last : Line) (f : Model → Done) → begun.active ≡ lay.active → begun.notes ≡ no_notes → first.queue ≡ lay.queue
      → Goes img begun first end last f → Finished img end last (f (unpack img lay))
  finished lay begun end first last f ea en e d = rw (← ea, ← en, ← e) d

-- an event entered, where there is room and where there is not
module _ (T : Table) (e : Event) where
  pub entered_room : (q : List Queued) (l : Model) → length q < 16 → entered T e q l ≡ still (with_queue (appended e q) l)
  unfolding entered
  entered_room [] l h = refl
  entered_room (s ∷ q) l h = rw (lt-ltb (length (s ∷ q)) 16 h)

  pub entered_full : (q : List Queued) (l : Model) (d : Queued) → 16 ≤ length q → entered T e q l ≡ overflow T (get_or q 0 d) (with_queue (appended e (drop 1 q)) l)
  unfolding entered
  entered_full [] l d h = absurd (omega arith)
  entered_full (s ∷ q) l d h = rw (le-ltb (length (s ∷ q)) 16 h)

  -- the new event releases the waiting key, or does not
  pub released_yes : (l : Model) → releases e l.waiting ≡ true → released T e l ≡ into_tap T l.waiting l
  unfolding released
  released_yes l h = rw h

  pub released_no : (l : Model) → releases e l.waiting ≡ false → released T e l ≡ still l
  unfolding released
  released_no l h = rw h

-- a tick: something waits, and its ticks are up or not; nothing waits, and nothing is queued, or something is
module _ (T : Table) (l : Model) where
  pub tick_on : (c : Coord) (k i : ℕ) (h p : Action) → l.waiting ≡ Waits c k i h p
      → tick T l ≡ tick_wait T (k - 1) (with_waiting (Waits c (k - 1) i h p) (with_queue (older l.queue) l))
  unfolding tick ticked
  tick_on c k i h p e = ap (λ (w : Waiting). ticked T w (older l.queue) l) e

  pub tick_none : l.waiting ≡ Idle → length (older l.queue) ≡ 0 → tick T l ≡ still (with_queue (older l.queue) l)
  unfolding tick ticked
  tick_none e z = ap (λ (w : Waiting). ticked T w (older l.queue) l) e ∙ go (older l.queue) z
    where
      go : (q : List Queued) → length q ≡ 0 → ticked T Idle q l ≡ still (with_queue q l)
      go [] h = refl
      go (s ∷ q) h = absurd (omega arith)

  pub tick_some : l.waiting ≡ Idle → 0 < length (older l.queue) → (d : Queued)
      → tick T l ≡ act T (get_or (older l.queue) 0 d).event (age_of (get_or (older l.queue) 0 d)) (with_queue (drop 1 (older l.queue)) l)
  unfolding tick ticked
  tick_some e z d = ap (λ (w : Waiting). ticked T w (older l.queue) l) e ∙ go (older l.queue) z
    where
      go : (q : List Queued) → 0 < length q → ticked T Idle q l ≡ act T (get_or q 0 d).event (age_of (get_or q 0 d)) (with_queue (drop 1 q) l)
      go [] h = absurd (omega arith)
      go (s ∷ q) h = refl

  pub wait_on : (k : ℕ) → 0 < k → tick_wait T k l ≡ still l
  wait_on zero h = absurd (omega arith)
  wait_on (suc k) h = refl

  pub wait_up : (k : ℕ) → k ≤ 0 → tick_wait T k l ≡ into_hold T l.waiting l
  wait_up zero h = refl
  wait_up (suc k) h = absurd (omega arith)

-- nothing waits, so nothing becomes hold or tap; and what waits is decided
module _ (img : List ℕ) (begun : Progress) (way : Way) where
  pub into_none : (q : List Queued) → begun.active.waiting ≡ None
      → Did img begun.notes begun q (into way (table_of img) (waiting_of img begun.active.waiting) (model_of img begun.active q))
  unfolding into
  into_none q e = did_as img (did_nothing img begun q) (sym (ap (λ (w : Option WaitingState). into way (table_of img) (waiting_of img w) (model_of img begun.active q)) e))

  pub into_on : (q : List Queued) (end : Progress) (w : WaitingState) → begun.active.waiting ≡ Some w → Did img begun.notes end q (becomes img way w (model_of img begun.active q))
      → Did img begun.notes end q (into way (table_of img) (waiting_of img begun.active.waiting) (model_of img begun.active q))
  into_on q end w e d = did_as img d (sym (ap (λ (x : Option WaitingState). into way (table_of img) (waiting_of img x) (model_of img begun.active q)) e))

  -- the HoldTap that waits is decided in its setting, and what that left is taken
  pub becomes_so : (queue : Queue) (w : WaitingState) (found : Option ℕ) (effect last : Effect) (end : Progress)
      → found ≡ find w.coord (list_in queue) → Begun begun.active begun.notes effect
      → Settled img w.number (record { coord = w.coord; delay = 0; found = found }) way effect last → Grown begun.active last w.coord end
      → Steps img begun end queue (becomes img way w)
  unfolding into
  becomes_so queue w found effect last end ef b d g =
      did_as img (did_effect img w.coord begun begun.notes end effect last b d g (list_in queue)) (rw ef)

-- a tick where something waits: it has a tick less, or becomes hold where none is left
module _ (img : List ℕ) (begun : Progress) (queue : Queue) (w : WaitingState) (k : ℕ) (ek : k ≡ w.left - 1) where
  pub did_waiting : (next : Progress) → next.notes ≡ begun.notes → Moves img begun.active next.active (with_waiting (waiting_of img (waits_at w.coord k w.number))) → 0 < k
      → Steps img begun next queue (waited_one img w)
  did_waiting next en m h =
      let fewer = subst (λ (x : ℕ). Moves img begun.active next.active (with_waiting (waiting_of img (waits_at w.coord x w.number)))) ek m in
      did_as img (did_moves img begun.notes begun.active next (list_in queue) fewer en) (sym (wait_on (table_of img) _ (w.left - 1) (omega arith)))

  -- what waits is gone once it is decided, so that how many ticks it had left is all the same
  pub did_up : (end : Progress) → k ≤ 0 → Steps img begun end queue (becomes img Hold w) → Steps img begun end queue (waited_one img w)
  unfolding into decided
  did_up end h d = did_as img d (sym (wait_up (table_of img) _ (w.left - 1) (omega arith)))

-- a tick, where something waits
pub tick_goes : (img : List ℕ) (begun : Progress) (w : WaitingState) (first last : Line) (end : Progress) → begun.active.waiting ≡ Some w → list_in last.queue ≡ older (list_in first.queue)
    → Steps img begun end last.queue (waited_one img w) → Goes img begun first end last (tick (table_of img))
tick_goes img begun w first last end e eq d =
    did_as img (put img begun end last (older (list_in first.queue)) (waited_one img w) eq d)
    (sym (tick_on (table_of img) (model_of img begun.active (list_in first.queue)) w.coord w.left w.number _ _ (ap (waiting_of img) e)))

-- an event: it is entered by a step, and then what waits for its release becomes tap
pub event_goes : (img : List ℕ) (begun : Progress) (e : Event) (first last : Line) (end : Progress) (l : List Queued) (enter : Model → Done) → list_in last.queue ≡ l
    → let m = model_of img begun.active (list_in first.queue) in entered (table_of img) e (list_in first.queue) m ≡ enter (with_queue l m)
    → Steps img begun end last.queue (λ (m : Model). after (enter m) (released (table_of img) e (enter m).layout))
    → Goes img begun first end last (event (table_of img) e)
unfolding event
event_goes img begun e first last end l enter el eq d =
    did_as img (put img begun end last l (λ (m : Model). after (enter m) (released (table_of img) e (enter m).layout)) el d)
    (sym (ap (λ (r : Done). after r (released (table_of img) e r.layout)) eq))
