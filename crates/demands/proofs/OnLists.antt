-- Demand 3 of the layout as lists: of every legal table, from every layout in which nothing is held, waits or is queued.
-- Assumes nothing.
use Prim.Native.Nat.{ℕ, ◌≤◌}
use mathlib.Core.Path.{◌≡◌, refl, sym, ap, subst, ◌∙◌}
use mathlib.Core.Bool.{Bool, false}
use mathlib.Core.List.{List, [], ◌∷◌, ◌++◌, append-nil}
use lib.ListN.{length}
use Rattle.event.specs.declared.Coord.{Coord}
use Rattle.image.specs.Proper.{Times}
use Rattle.image.specs.Table.{Table}
use Rattle.layout.specs.Model.{Queued, Model, Waiting, Idle, Done}
use Rattle.layout.specs.Notes.{acted_on}
use Rattle.demands.specs.Runs.{Call, call, run, ticks, arrived}
use Rattle.demands.specs.Words.{bound, Leads, Nothing, AllReleased}
use Rattle.demands.proofs.Proper.{Proper, Quiet}
use Rattle.demands.proofs.Marks.{down_nil, arrived_append, arrived_ticks, down_none}
use Rattle.demands.proofs.Waits.{pending, good_idle}
use Rattle.demands.proofs.Calls.{queued, Fit, Goes, goes_run}
use Rattle.demands.proofs.Drain.{drains, draining_start}

-- the calls on a layout over the table, then n ticks; and how many events are queued after the calls
abbrev pub drain : Table → Model → List Call → ℕ → Done
drain table start calls n = run table (calls ++ ticks n) start

abbrev pub queued_after : Table → Model → List Call → ℕ
queued_after table start calls = length (run table calls start).layout.queue

-- the clauses of demand 3 (specs/Demand3.antt), after n ticks, the bound or more
pub record OnLists (table : Table) (times : Times) (start : Model) (calls : List Call) (n : ℕ) : Type 0 where
  pub drained : Quiet (drain table start calls n).layout
  pub acted : acted_on (drain table start calls n).marks ≡ arrived calls
  pub decided : Leads Nothing (drain table start calls n).marks Nothing
  pub stateless : AllReleased (arrived calls) → (drain table start calls n).layout.states ≡ []

pub run_append : (t : Table) (a b : List Call) (l : Model) → (run t (a ++ b) l).layout ≡ (run t b (run t a l).layout).layout
unfolding run
run_append t [] b l = refl
run_append t (k ∷ a) b l = run_append t a b (call t k l).layout

up : Coord → Bool
up c = false

module _ (t : Table) (m : Times) (ok : Proper t m) (start : Model) (stateless : start.states ≡ []) (idle : start.waiting ≡ Idle) (empty : start.queue ≡ []) (calls : List Call) where
  fits : Fit m up start
  fits = record { wait = good_idle m _ up start.waiting idle; down = rw stateless (down_nil up) }

  goes : (ks : List Call) → Goes m (arrived ks) up start (run t ks start).layout (run t ks start).marks
  goes ks = goes_run t m ok ks up start fits

  came : (n : ℕ) → arrived (calls ++ ticks n) ≡ arrived calls
  came n = arrived_append calls (ticks n) ∙ rw (arrived_ticks n) (append-nil _)

  rests : (n : ℕ) → bound (queued_after t start calls) m ≤ n → Quiet (drain t start calls n).layout
  rests n b =
      let first = (goes calls).fit in
      rw run_append (drains t m ok n 0 _ (run t calls start).layout first (draining_start m n _ (run t calls start).layout first.wait b))

  ordered : (n : ℕ) → bound (queued_after t start calls) m ≤ n → acted_on (drain t start calls n).marks ≡ arrived calls
  ordered n b = sym (append-nil _) ∙ (rw (rests n b).empty at (goes (calls ++ ticks n)).order) ∙ ap (λ (q : List Queued). queued q ++ arrived (calls ++ ticks n)) empty ∙ came n

  pub on_lists : (n : ℕ) → bound (queued_after t start calls) m ≤ n → OnLists t m start calls n
  unfolding AllReleased up
  on_lists n b =
      record {
        drained = rests n b;
        acted = ordered n b;
        decided = subst (λ (w : Waiting). Leads (pending w) (drain t start calls n).marks Nothing) idle (rw (rests n b).idle at (goes (calls ++ ticks n)).leads);
        stateless = λ f. down_none _ (λ c. rw (ordered n b) (f c)) _ (goes (calls ++ ticks n)).fit.down;
      }
