-- Demand 3 of the public calls, proved of every accepted image: by the tie, from the same of the layout as lists.
-- Assumes nothing.
use Rattle.std.specs.Prelude.{Ok, Err}
use Prim.Native.Nat.{ℕ, ◌≤◌, ◌<◌}
use mathlib.Core.Path.{◌≡◌, refl, ap, ◌∙◌}
use mathlib.Core.Bool.{true}
use mathlib.Core.List.{List, [], ◌++◌}
use native.Mathlib.Omega.{arith}
use lib.Dec.{eqb}
use lib.ListN.{length, get_or}
use Rattle.lists.proofs.Laws.{both_true}
use Rattle.codes.specs.Report.{with_codes, report_of}
use Rattle.refusal.specs.Verdict.{or_else, Verdict, fine}
use Rattle.refusal.proofs.Said.{number_some}
use Rattle.image.specs.Check.{Checked, check_of}
use Rattle.image.specs.Table.{table_of, times_of}
use Rattle.image.specs.declared.words.Shape.{Shape}
use Rattle.image.proofs.Accepted.{accepted}
use Rattle.layout.specs.Model.{Model, Done, fresh}
use Rattle.layout.specs.Steps.{event, tick, codes}
use Rattle.layout.specs.Packed.{waiting_in, pack, unpack}
use Rattle.layout.specs.Notes.{acted_on}
use Rattle.refusal.specs.Said.{said}
use Rattle.layout.specs.Calls.{judged_of, answer_of, no_answer, replied}
use Rattle.layout.specs.declared.layout.Layout.{Layout}
use Rattle.layout.specs.Reach.{Starts, FreshStarts}
use Rattle.layout.proofs.Reach.{fresh_starts}
use Rattle.layout.proofs.Calls.{judged_fine}
use Rattle.demands.specs.Runs.{Tick, Enter, arrived}
use Rattle.demands.specs.Public.{Lent, calls_of, ticks_on, Roomy, reply, NoneRefused}
use Rattle.demands.specs.Demand3.{did, bound_of, AtRest, Demand3, OfImages, OfFresh, Given, Heard}
use Rattle.demands.proofs.Proper.{Quiet, proper_image}
use Rattle.demands.proofs.Answers.{names_events, names_decisions}
use Rattle.demands.proofs.OnLists.{OnLists, on_lists}
use Rattle.demands.proofs.Replies.{Tied, tied_start, roomy_append, calls_are}

pub at_rest : (l : Model) → Quiet l → AtRest (pack l)
at_rest l q = record { empty = ap length q.empty; idle = ap waiting_in q.idle }

module _ (img : List ℕ) (shape : Shape) (bytes : (i : ℕ) → get_or img i 0 < 256) (e : check_of img ≡ Ok shape) (start : Model) (s : Starts img start) (calls : List Lent) (room : Roomy calls) where
  -- the bound is that of the lists
  lists : (n : ℕ) → bound_of img start calls ≤ n → OnLists (table_of img) (times_of img) start (calls_of calls) n
  lists n h = on_lists (table_of img) (times_of img) (proper_image img bytes (accepted img shape e).1) start s.stateless s.idle s.empty (calls_of calls) n (rw (tied_start img shape e start s calls room).layout at h)

  after : (bs : List (List ℕ)) → Roomy (ticks_on bs) → Tied img shape e (calls ++ ticks_on bs) start
  after bs r = tied_start img shape e start s (calls ++ ticks_on bs) (roomy_append calls (ticks_on bs) room r)

  acted : (bs : List (List ℕ)) → Roomy (ticks_on bs) → bound_of img start calls ≤ length bs → acted_on (did img start calls bs) ≡ arrived (calls_of calls)
  acted bs r h = rw ((after bs r).marks, calls_are calls bs) (lists (length bs) h).acted

  -- no state has no code
  told : codes start.states ≡ []
  unfolding codes
  told = rw s.stateless

  demand3 : Demand3 img start calls
  unfolding codes report_of with_codes
  demand3 =
      record {
        unrefused = λ bs r. (after bs r).heard;
        drained = λ bs r h. rw ((after bs r).layout, calls_are calls bs) (at_rest _ (lists (length bs) h).drained);
        acted = acted;
        named = λ bs r h. names_events img (calls ++ ticks_on bs) (pack start) ∙ acted bs r h;
        decided = λ bs r h. rw ((after bs r).marks, calls_are calls bs) (lists (length bs) h).decided;
        named_decisions_lem = λ bs r. names_decisions img (calls ++ ticks_on bs) (pack start);
        stateless = λ f bs r h. rw ((after bs r).layout, calls_are calls bs, (lists (length bs) h).stateless f);
        zeros = λ f bs r h. rw (← told, (after bs r).told, calls_are calls bs, (lists (length bs) h).stateless f);
      }

pub of_images : OfImages
unfolding OfImages
of_images img shape bytes e start s calls room = demand3 img shape bytes e start s calls room

pub of_fresh : OfFresh
unfolding OfFresh OfImages FreshStarts
of_fresh img shape bytes e calls room = of_images img shape bytes e fresh (fresh_starts img shape e) calls room

-- an answer whose number is 0 is not refused
heard_fine : (v : Verdict) (done : Done) → eqb (said no_answer (answer_of v done)).number 0 ≡ true → v ≡ fine
unfolding answer_of
heard_fine (Ok u) done h = refl
heard_fine (Err f) done h = let z = number_some f.refusal in cc

heard_by : (x : Checked) (img : List ℕ) (layout : Layout) (buffer : List ℕ) → check_of img ≡ x → judged_of img layout (length buffer) ≡ fine → Given img buffer
unfolding judged_of or_else
heard_by (Ok s) img layout buffer e h = record { shape = s; accepted = e; room = (judged_fine img layout (length buffer) h).2 }
heard_by (Err f) img layout buffer e h = let y = rw e at h in let z : ◌≡◌ {A = ℕ} 0 1 = cc in absurd (omega arith)

pub heard : Heard
unfolding Heard NoneRefused reply replied
heard img Tick layout buffer h = heard_by (check_of img) img layout buffer refl (heard_fine _ (tick (table_of img) (unpack img layout)) (both_true _ _ h).0)
heard img (Enter x) layout buffer h = heard_by (check_of img) img layout buffer refl (heard_fine _ (event (table_of img) x (unpack img layout)) (both_true _ _ h).0)
