-- A run of the public calls over an accepted image, on a layout that was packed, is the run of the steps on its lists.
-- Assumes nothing.
use Rattle.std.specs.Prelude.{Ok}
use Prim.Native.Nat.{ℕ, zero, suc, ◌≤◌}
use mathlib.Core.Path.{◌≡◌, refl, ap, ap₂, ◌∙◌}
use mathlib.Core.List.{List, [], ◌∷◌, ◌++◌}
use borrow.Author.Tests.{le-leb}
use lib.Dec.{leb}
use lib.ListN.{length, drop, replicate}
use lib.Seq.{take_at}
use Rattle.lists.specs.Lists.{laid}
use Rattle.refusal.specs.Verdict.{rule, or_else, Verdict, fine}
use Rattle.refusal.specs.declared.Refusal.TheVariants.{Room}
use Rattle.image.specs.Check.{check_of}
use Rattle.image.specs.Sound.{Sound}
use Rattle.image.specs.Table.{table_of}
use Rattle.image.specs.declared.words.Shape.{Shape}
use Rattle.image.proofs.Accepted.{accepted}
use Rattle.layout.specs.Model.{Model, Done}
use Rattle.layout.specs.Steps.{event, tick, codes}
use Rattle.layout.specs.Packed.{pack}
use Rattle.layout.specs.Notes.{no_notes, noted}
use Rattle.refusal.specs.Said.{said}
use Rattle.layout.specs.Calls.{no_answer, Reply, codes_told, replied, judged_of, answer_of, layout_after, buffered}
use Rattle.layout.specs.Reach.{Starts}
use Rattle.layout.specs.declared.layout.Layout.{Layout}
use Rattle.layout.proofs.Lawful.{Lawful, event_lawful, tick_lawful}
use Rattle.layout.proofs.Reach.{lawful_good, unpack_pack, starts_lawful}
use Rattle.demands.specs.Runs.{Call, Tick, Enter, call, run, ticks}
use Rattle.demands.specs.Public.{Lent, calls_of, ticks_on, lent_all, Roomy, step, reply, replies, marks_if, marks_of, last_layout, last_codes, NoneRefused}

-- on a packed layout only the buffer can be too small
abbrev pub room_for : List ℕ → Verdict
room_for buffer = rule (leb 64 (length buffer)) Room 0 fine

-- the reply to a verdict on a call whose step did so; and with nothing refused
abbrev pub reply_with : Verdict → Done → Layout → List ℕ → Reply
reply_with j done layout buffer = record { told = said no_answer (answer_of j done); layout = layout_after j done layout; buffer = buffered j done buffer }

abbrev pub given : Done → List ℕ → Reply
given done buffer =
    record {
      told = record { number = 0; place = 0; values = record { codes = length (codes done.layout.states); notes = noted no_notes done } };
      layout = pack done.layout;
      buffer = laid (codes done.layout.states) buffer;
    }

pub given_codes : (done : Done) (buffer : List ℕ) → codes_told (given done buffer) ≡ codes done.layout.states
given_codes done buffer = take_at (codes done.layout.states) (drop (length (codes done.layout.states)) buffer) (length (codes done.layout.states)) refl

module _ (img : List ℕ) (shape : Shape) (e : check_of img ≡ Ok shape) where
  sound : Sound img
  sound = (accepted img shape e).1

  judged : (l : Model) (room : ℕ) → Lawful img l → judged_of img (pack l) room ≡ rule (leb 64 room) Room 0 fine
  unfolding judged_of or_else rule
  judged l room w = rw (e, lawful_good img l w)

  pub none_refused : (l : Model) (room : ℕ) → Lawful img l → 64 ≤ room → judged_of img (pack l) room ≡ fine
  unfolding rule
  none_refused l room w h = judged l room w ∙ rw (le-leb 64 room h)

  pub stays_lawful : (k : Call) (l : Model) → Lawful img l → Lawful img (call (table_of img) k l).layout
  unfolding call
  stays_lawful Tick l w = tick_lawful img sound l w
  stays_lawful (Enter x) l w = event_lawful img sound x l w

  pub step_is : (k : Call) (l : Model) → Lawful img l → step img k (pack l) ≡ call (table_of img) k l
  unfolding step call
  step_is Tick l w = ap (tick (table_of img)) (unpack_pack img l w)
  step_is (Enter x) l w = ap (event (table_of img) x) (unpack_pack img l w)

  pub replied_so : (f : Model → Done) (l : Model) (buffer : List ℕ) → Lawful img l → replied img f (pack l) buffer ≡ reply_with (room_for buffer) (f l) (pack l) buffer
  unfolding replied
  replied_so f l buffer w = rw (judged l (length buffer) w, ap f (unpack_pack img l w))

  pub reply_so : (k : Call) (l : Model) (buffer : List ℕ) → Lawful img l → reply img k (pack l) buffer ≡ reply_with (room_for buffer) (call (table_of img) k l) (pack l) buffer
  unfolding reply call
  reply_so Tick l buffer w = replied_so (tick (table_of img)) l buffer w
  reply_so (Enter x) l buffer w = replied_so (event (table_of img) x) l buffer w

  pub reply_is : (k : Call) (l : Model) (buffer : List ℕ) → Lawful img l → 64 ≤ length buffer → reply img k (pack l) buffer ≡ given (call (table_of img) k l) buffer
  unfolding rule answer_of layout_after buffered
  reply_is k l buffer w h = reply_so k l buffer w ∙ rw (le-leb 64 (length buffer) h)

  pub marks_are : (k : Call) (l : Model) (buffer : List ℕ) → Lawful img l → 64 ≤ length buffer
      → marks_if (judged_of img (pack l) (length buffer)) (step img k (pack l)) ≡ (call (table_of img) k l).marks
  unfolding marks_if
  marks_are k l buffer w h = rw (none_refused l (length buffer) w h, step_is k l w)

  -- a run of the public calls and the run of the steps
  pub record Tied (ks : List Lent) (l : Model) : Type 0 where
    pub layout : last_layout (pack l) (replies img ks (pack l)) ≡ pack (run (table_of img) (calls_of ks) l).layout
    pub marks : marks_of img ks (pack l) ≡ (run (table_of img) (calls_of ks) l).marks
    pub heard : NoneRefused (replies img ks (pack l))
    pub told : last_codes (codes l.states) (replies img ks (pack l)) ≡ codes (run (table_of img) (calls_of ks) l).layout.states

  pub tied : (ks : List Lent) (l : Model) → Lawful img l → Roomy ks → Tied ks l
  unfolding replies marks_of last_layout last_codes NoneRefused run Roomy
  tied [] l w h = record { layout = refl; marks = refl; heard = refl; told = refl }
  tied (k ∷ ks) l w h =
      let r = call (table_of img) k.call l in
      let e = reply_is k.call l k.buffer w h.0 in
      let t = tied ks r.layout (stays_lawful k.call l w) h.1 in
      record {
        layout = rw e t.layout;
        marks = ap₂ ◌++◌ (marks_are k.call l k.buffer w h.0) (rw e t.marks);
        heard = rw e t.heard;
        told = rw (e, given_codes r k.buffer) t.told;
      }

  -- calls keep a layout lawful
  pub lawful_run : (ks : List Call) (l : Model) → Lawful img l → Lawful img (run (table_of img) ks l).layout
  unfolding run
  lawful_run [] l w = w
  lawful_run (k ∷ ks) l w = lawful_run ks (call (table_of img) k l).layout (stays_lawful k l w)

  -- from a start
  pub tied_start : (start : Model) → Starts img start → (ks : List Lent) → Roomy ks → Tied ks start
  tied_start start s ks h = tied ks start (starts_lawful img start s) h

-- calls, then ticks
pub roomy_append : (a b : List Lent) → Roomy a → Roomy b → Roomy (a ++ b)
unfolding Roomy
roomy_append [] b h g = g
roomy_append (k ∷ a) b h g = (h.0, roomy_append a b h.1 g)

pub ticks_are : (bs : List (List ℕ)) → calls_of (ticks_on bs) ≡ ticks (length bs)
unfolding ticks
ticks_are [] = refl
ticks_are (b ∷ bs) = ap (λ (ks : List Call). Tick ∷ ks) (ticks_are bs)

pub calls_are : (ks : List Lent) (bs : List (List ℕ)) → calls_of (ks ++ ticks_on bs) ≡ calls_of ks ++ ticks (length bs)
calls_are [] bs = ticks_are bs
calls_are (k ∷ ks) bs = ap (λ (x : List Call). k.call ∷ x) (calls_are ks bs)

pub lent_calls : (b : List ℕ) (ks : List Call) → calls_of (lent_all b ks) ≡ ks
lent_calls b [] = refl
lent_calls b (k ∷ ks) = ap (λ (x : List Call). k ∷ x) (lent_calls b ks)

pub lent_roomy : (b : List ℕ) (ks : List Call) → 64 ≤ length b → Roomy (lent_all b ks)
unfolding Roomy
lent_roomy b [] h = tt
lent_roomy b (k ∷ ks) h = (h, lent_roomy b ks h)

pub ticks_roomy : (b : List ℕ) (n : ℕ) → 64 ≤ length b → Roomy (ticks_on (replicate n b))
unfolding Roomy
ticks_roomy b zero h = tt
ticks_roomy b (suc n) h = (h, ticks_roomy b n h)
