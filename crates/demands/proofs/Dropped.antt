-- What the count of dropped states is worth: specs/Dropped.antt.
-- Assumes nothing.
use Rattle.refusal.specs.Verdict.{Verdict, fine}
use Rattle.std.specs.Prelude.{Ok, Err, Option, Some}
use Prim.Native.Nat.{ℕ, zero, suc, ◌+◌, ◌≤◌}
use mathlib.Core.Path.{◌≡◌, refl, sym, ap, ap₂, subst, ◌∙◌}
use mathlib.Core.Bool.{true}
use mathlib.Core.List.{List, [], ◌∷◌, map}
use native.Mathlib.Omega.{arith}
use borrow.Author.Tests.{eqb-true}
use lib.Dec.{eqb}
use lib.ListN.{length}
use Rattle.lists.specs.Lists.{every}
use Rattle.lists.proofs.Laws.{both_true}
use Rattle.image.specs.Check.{check_of}
use Rattle.image.specs.Sound.{Sound}
use Rattle.image.specs.Table.{Table, table_of}
use Rattle.image.specs.declared.words.Shape.{Shape}
use Rattle.layout.specs.Model.{Model, Mark, Acted, Begun, Decided, Done}
use Rattle.layout.specs.Actions.{push}
use Rattle.layout.specs.Steps.{event, tick, codes, sum}
use Rattle.layout.specs.Packed.{pack, unpack}
use Rattle.layout.specs.Notes.{no_notes, note_acted, decision_at, note_decision, noted_marks, counted, noted, acted_on, decisions}
use Rattle.refusal.specs.Said.{said}
use Rattle.layout.specs.Calls.{judged_of, answer_of, layout_after, buffered, no_answer, Reply, codes_told, replied, keycodes_reply}
use Rattle.layout.specs.declared.notes.Decision.{Decision}
use Rattle.layout.specs.declared.notes.Notes.{Notes}
use Rattle.layout.specs.declared.layout.Layout.{Layout}
use Rattle.layout.proofs.Calls.{judged_fine}
use Rattle.layout.proofs.Lawful.{Lawful}
use Rattle.layout.proofs.Reach.{starts_lawful}
use Rattle.demands.specs.Runs.{Call, Tick, Enter, call}
use Rattle.demands.specs.Public.{Lent, calls_of, Roomy, reply, replies, step, last_layout}
use Rattle.demands.specs.Limits.{OfCalls}
use Rattle.demands.specs.Adding.{silent, kept}
use Rattle.demands.specs.Dropped.{dropped_if, count_in, Told, NoneShown, counts_in, dropped_in, AddUp, reply_by, call_by, Same, uncounted, AsBefore, said_in, said_by, says_by, leaves_by, NothingLost}
use Rattle.demands.proofs.Adding.{Match, follow_event, follow_tick, Any, None, all, nothing, all_told, none_told, none_dropped, push_follows, silent_follows, kept_follows}
use Rattle.demands.proofs.Drops.{event_drops, tick_drops}
use Rattle.demands.proofs.Limits.{of_calls}
use Rattle.demands.proofs.Replies.{reply_with, given_codes, none_refused, stays_lawful, step_is, reply_is, marks_are}

-- marks leave the count of the notes, and a count that does not stop is the count
decision_count : (k : ℕ) (d : Option Decision) (n : Notes) → (decision_at k d n).dropped ≡ n.dropped
decision_count zero d n = refl
decision_count (suc zero) d n = refl
decision_count (suc (suc k)) d n = refl

marks_count : (ms : List Mark) (n : Notes) → (noted_marks n ms).dropped ≡ n.dropped
unfolding noted_marks
marks_count [] n = refl
marks_count (Acted e ∷ ms) n = marks_count ms (note_acted n e)
marks_count (Begun c ∷ ms) n = marks_count ms n
marks_count (Decided c w ∷ ms) n = marks_count ms (note_decision n c w) ∙ decision_count n.made (Some (record { coord = c; way = w })) n

counted_few : (k : ℕ) → k ≤ 65535 → counted 0 k ≡ k
counted_few zero h = refl
counted_few (suc k) h = omega arith

noted_count : (done : Done) → done.dropped ≤ 65535 → (noted no_notes done).dropped ≡ done.dropped
noted_count done h = ap (λ (k : ℕ). counted k done.dropped) (marks_count done.marks no_notes) ∙ counted_few done.dropped h

-- a call by its step, refused or not
module _ (image : List ℕ) (f : Model → Done) (most : ℕ) (few : most ≤ 65535) (layout : Layout) (buffer : List ℕ) (limit : Sound image → (f (unpack image layout)).dropped ≤ most) where
  tells : let n = dropped_if (judged_of image layout (length buffer)) (f (unpack image layout)) in (count_in (replied image f layout buffer) ≡ n) × (n ≤ most)
  unfolding dropped_if replied answer_of
  tells = go (judged_of image layout (length buffer)) refl
    where
      go : (j : Verdict) → judged_of image layout (length buffer) ≡ j → let n = dropped_if (judged_of image layout (length buffer)) (f (unpack image layout)) in (count_in (replied image f layout buffer) ≡ n) × (n ≤ most)
      go (Ok u) e =
          let h = limit (judged_fine image layout (length buffer) e).0 in
          rw e (noted_count (f (unpack image layout)) (omega arith), h)
      go (Err f) e = rw e (refl, omega arith)

pub told : Told
unfolding Told step reply
told image Tick layout buffer = tells image (tick (table_of image)) 63 (omega arith) layout buffer (λ s. tick_drops image s layout)
told image (Enter e) layout buffer = tells image (event (table_of image) e) 124 (omega arith) layout buffer (λ s. event_drops image s e layout)

pub none_shown : NoneShown
unfolding NoneShown replied answer_of noted_marks
none_shown image layout buffer = go (judged_of image layout (length buffer)) refl
  where
    go : (j : Verdict) → judged_of image layout (length buffer) ≡ j → count_in (keycodes_reply image layout buffer) ≡ 0
    go (Ok u) e = rw e
    go (Err f) e = rw e

pub add_up : AddUp
unfolding AddUp replies dropped_in sum Told
add_up image [] layout = refl
add_up image (k ∷ ks) layout =
    ap₂ ◌+◌ (told image k.call layout k.buffer).0 (add_up image ks (reply image k.call layout k.buffer).layout)

-- the reply of a call whose step did so
abbrev replied_with : List ℕ → Layout → List ℕ → Done → Reply
replied_with image layout buffer done = reply_with (judged_of image layout (length buffer)) done layout buffer

-- steps that leave the same, and steps that do but for the count
match_all : (x y : Done) → Match Any all x y → x ≡ y
match_all x y m = λ i. record { layout = m.layout i; marks = m.marks i; dropped = m.dropped i }

abbrev untold : Done → Done
untold y = record { layout = y.layout; marks = y.marks; dropped = 0 }

match_untold : (x y : Done) → Match Any nothing x y → x ≡ untold y
match_untold x y m = λ i. record { layout = m.layout i; marks = m.marks i; dropped = m.dropped i }

pub same : Same
unfolding Same reply_by reply replied
same image Tick layout buffer =
    ap (replied_with image layout buffer) (match_all _ _ (follow_tick Any all all_told push push_follows (table_of image) (unpack image layout) tt))
same image (Enter e) layout buffer =
    ap (replied_with image layout buffer) (match_all _ _ (follow_event Any all all_told push push_follows (table_of image) e (unpack image layout) tt))

untold_reply : (image : List ℕ) (layout : Layout) (buffer : List ℕ) (y : Done) → replied_with image layout buffer (untold y) ≡ uncounted (replied_with image layout buffer y)
unfolding answer_of layout_after buffered
untold_reply image layout buffer y = go (judged_of image layout (length buffer))
  where
    n : Notes
    n = noted_marks no_notes y.marks

    go :
        (j : Verdict)
        → ◌≡◌ {A = Reply}
        (record { told = said no_answer (answer_of j (untold y)); layout = layout_after j (untold y) layout; buffer = buffered j (untold y) buffer })
        (uncounted (record { told = said no_answer (answer_of j y); layout = layout_after j y layout; buffer = buffered j y buffer }))
    go (Ok u) =
        ap (λ (k : ℕ). record { told = record { number = 0; place = 0; values = record { codes = length (codes y.layout.states); notes = record { acted = n.acted; made = n.made; first = n.first; second = n.second; dropped = k } } }; layout = pack y.layout; buffer = buffered fine y buffer })
        (marks_count y.marks no_notes)
    go (Err f) = refl

pub as_before : AsBefore
unfolding AsBefore reply_by reply replied
as_before image Tick layout buffer =
    ap (replied_with image layout buffer) (match_untold _ _ (follow_tick Any nothing none_told silent silent_follows (table_of image) (unpack image layout) tt))
    ∙ untold_reply image layout buffer _
as_before image (Enter e) layout buffer =
    ap (replied_with image layout buffer) (match_untold _ _ (follow_event Any nothing none_told silent silent_follows (table_of image) e (unpack image layout) tt))
    ∙ untold_reply image layout buffer _

-- a call that drops nothing, with room for any number of states
kept_call : (T : Table) (k : Call) (l : Model) → (call T k l).dropped ≡ 0 → Match None nothing (call_by kept T k l) (call T k l)
unfolding call_by call
kept_call T Tick l z = follow_tick None nothing none_dropped kept kept_follows T l z
kept_call T (Enter e) l z = follow_event None nothing none_dropped kept kept_follows T e l z

said_by_lem : (x y : Done) → Match None nothing x y → said_by y ≡ said_by x
said_by_lem x y m = ap₂ (λ (l : Model) (ms : List Mark). said_by (record { layout = l; marks = ms; dropped = 0 })) (sym m.layout) (sym m.marks)

module _ (img : List ℕ) (shape : Shape) (e : check_of img ≡ Ok shape) where
  abbrev table : Table
  table = table_of img

  -- what the answer of such a call says
  said_in_lem : (k : Call) (l : Model) (buffer : List ℕ) → Lawful img l → 64 ≤ length buffer → said_in (reply img k (pack l) buffer) ≡ said_by (call table k l)
  unfolding OfCalls
  said_in_lem k l buffer w h =
      let names = (of_calls img k (pack l) buffer).1 in
      let marks = marks_are img shape e k l buffer w h in
      let told : codes_told (reply img k (pack l) buffer) ≡ codes (call table k l).layout.states = ap codes_told (reply_is img shape e k l buffer w h) ∙ given_codes (call table k l) buffer in
      let acted = names.acted ∙ ap acted_on marks in
      let made = names.decided ∙ ap decisions marks in
      λ i. record { codes = told i; acted = acted i; decided = made i }

  count_is : (k : Call) (l : Model) (buffer : List ℕ) → Lawful img l → 64 ≤ length buffer → count_in (reply img k (pack l) buffer) ≡ (call table k l).dropped
  unfolding Told dropped_if
  count_is k l buffer w h = (told img k (pack l) buffer).0 ∙ rw (none_refused img shape e l (length buffer) w h, step_is img shape e k l w)

  full : (ks : List Lent) (l : Model) → Lawful img l → Roomy ks → every (λ n. eqb n 0) (counts_in (replies img ks (pack l))) ≡ true
      → (map said_in (replies img ks (pack l)) ≡ says_by kept table (calls_of ks) l) × (last_layout (pack l) (replies img ks (pack l)) ≡ pack (leaves_by kept table (calls_of ks) l))
  unfolding replies last_layout says_by leaves_by Roomy
  full [] l w h z = (refl, refl)
  full (k ∷ ks) l w h z =
      let r = call table k.call l in
      let here = reply img k.call (pack l) k.buffer in
      let q = both_true (eqb (count_in here) 0) (every (λ n. eqb n 0) (counts_in (replies img ks here.layout))) z in
      let none : r.dropped ≡ 0 = sym (count_is k.call l k.buffer w h.0) ∙ eqb-true (count_in here) 0 q.0 in
      let m = kept_call table k.call l none in
      let next : here.layout ≡ pack r.layout = ap (λ (x : Reply). x.layout) (reply_is img shape e k.call l k.buffer w h.0) in
      let t = full ks r.layout (stays_lawful img shape e k.call l w) h.1 (subst (λ (lay : Layout). every (λ n. eqb n 0) (counts_in (replies img ks lay)) ≡ true) next q.1) in (
        ap₂ ◌∷◌
            (said_in_lem k.call l k.buffer w h.0 ∙ said_by_lem _ _ m)
            (ap (λ (lay : Layout). map said_in (replies img ks lay)) next ∙ t.0 ∙ ap (says_by kept table (calls_of ks)) (sym m.layout)),
        ap (λ (lay : Layout). last_layout lay (replies img ks lay)) next ∙ t.1 ∙ ap (λ (x : Model). pack (leaves_by kept table (calls_of ks) x)) (sym m.layout),
      )

pub nothing_lost : NothingLost
unfolding NothingLost
nothing_lost image shape e start s calls h z = let f = full image shape e calls start (starts_lawful image start s) h z in record { answers = f.0; layout = f.1 }
