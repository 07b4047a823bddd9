-- What a call does to a layout, and a run of calls: the events keep their order, the marks their grammar, and every state's
-- key is down. Demand 3; document 01, Layout.
--     Fit      what is true of every layout that a run reaches
--     Goes     what a step, a call, a run does: one after another by `goes_after`
-- Assumes nothing.
use Prim.Native.Nat.{ℕ, zero, suc, ◌-◌, ◌≤◌}
use mathlib.Core.Path.{◌≡◌, refl, ap, sym, ◌∙◌}
use mathlib.Core.Bool.{Bool, true, false, cond, not}
use mathlib.Core.List.{List, [], ◌∷◌, ◌++◌, map, map-map, map-append, append-nil, append_assoc}
use native.Mathlib.Omega.{arith}
use native.Mathlib.Nat.{le_refl}
use borrow.Author.Tests.{eq-eqb}
use lib.Dec.{ltb}
use lib.ListN.{length}
use Rattle.event.specs.declared.Coord.{Coord}
use Rattle.event.specs.declared.Event.{Event}
use Rattle.event.specs.declared.Event.TheVariants.{Release, Press}
use Rattle.image.specs.Tree.{Action}
use Rattle.image.specs.Proper.{Times, holdable}
use Rattle.image.specs.Table.{Table}
use Rattle.layout.specs.Model.{Queued, Waiting, Idle, Waits, Model, Mark, Decided, age_of, same, still, with_waiting, with_queue}
use Rattle.layout.specs.Notes.{acted_on}
use Rattle.layout.specs.Actions.{find, decided}
use Rattle.layout.specs.Steps.{pressed, coord_in, release, act, into, into_hold, into_tap, releases, released, overflow, appended, entered, event, older_one, older, tick_wait, ticked, tick}
use Rattle.layout.specs.declared.active.State.{State}
use Rattle.layout.specs.declared.notes.Way.{Way}
use Rattle.layout.specs.declared.notes.Way.TheVariants.{Tap, Hold}
use Rattle.layout.proofs.Noted.{acted_append}
use Rattle.layout.proofs.Running.{Down, Kept, kept, ran, pressed_proper}
use Rattle.demands.specs.Runs.{Call, Tick, Enter, call, run, arrived}
use Rattle.demands.specs.Words.{Leads, Nothing, Key, down_by, down_after}
use Rattle.demands.proofs.Cost.{cost, share, cost_less, share_whole}
use Rattle.demands.proofs.Marks.{leads_append, down_append, down_nil, down_head, down_cons, down_more}
use Rattle.demands.proofs.Proper.{Proper}
use Rattle.demands.proofs.Waits.{pending, Good, Sure, good_idle, good_more, good_cost, comes_acted, comes_leads, comes_good}

abbrev event_in : Queued → Event
event_in q = q.event

-- the queued events, in order of arrival
abbrev pub queued : List Queued → List Event
queued q = map event_in q

-- a layout of which every state's key, and the waiting one, is down by h, and the wait costs no more than one that begins
pub record Fit (m : Times) (h : Coord → Bool) (l : Model) : Type 0 where
  pub wait : Good m (share m 0) h l.waiting
  pub down : Down h l.states

fit_more : {m : Times} {f g : Coord → Bool} {l : Model} → ((c : Coord) → f c ≡ true → g c ≡ true) → Fit m f l → Fit m g l
fit_more {m} {f} {g} {l} up x = record { wait = good_more m (share m 0) (share m 0) f g (le_refl (share m 0)) up l.waiting x.wait; down = down_more f g up l.states x.down }

-- from l to k, with the events es coming in and the marks ms: the events keep their order, the marks their grammar, and k fits
pub record Goes (m : Times) (es : List Event) (h : Coord → Bool) (l k : Model) (ms : List Mark) : Type 0 where
  pub order : acted_on ms ++ queued k.queue ≡ queued l.queue ++ es
  pub leads : Leads (pending l.waiting) ms (pending k.waiting)
  pub fit : Fit m (λ c. down_after (acted_on ms) c (h c)) k

goes_after : {m : Times} {es fs : List Event} {h : Coord → Bool} {l k j : Model} {ms ns : List Mark}
    → Goes m es h l k ms → Goes m fs (λ c. down_after (acted_on ms) c (h c)) k j ns → Goes m (es ++ fs) h l j (ms ++ ns)
goes_after {l = l} {k} {j} {ms} {ns} p q =
    record {
      order = rw (acted_append, append_assoc (acted_on ms), q.order, ← append_assoc (acted_on ms), p.order, append_assoc);
      leads = leads_append (pending l.waiting) ms (pending k.waiting) ns (pending j.waiting) p.leads q.leads;
      fit = fit_more (λ c t. rw (acted_append, down_append) t) q.fit;
    }

pub same_refl : (c : Coord) → same c c ≡ true
same_refl c = rw (eq-eqb c.i c.i refl, eq-eqb c.j c.j refl)

cond_true : (b x : Bool) → x ≡ true → cond b true x ≡ true
cond_true true x e = refl
cond_true false x e = e

-- an event acted on while nothing waits
pub record Acts (m : Times) (e : Event) (age : ℕ) (h : Coord → Bool) (l k : Model) (ms : List Mark) : Type 0 where
  pub queue : k.queue ≡ l.queue
  pub acted : acted_on ms ≡ e ∷ []
  pub leads : Leads Nothing ms (pending k.waiting)
  pub wait : Good m (share m age) (λ c. down_by e c (h c)) k.waiting
  pub down : Down (λ c. down_by e c (h c)) k.states

-- what a release leaves is down without its key
down_kept : (c : Coord) (h : Coord → Bool) (s : State) (rest : List State) (b : Bool) → same c (coord_in s) ≡ b → h (coord_in s) ≡ true
    → Down (λ d. cond (same c d) false (h d)) rest → Down (λ d. cond (same c d) false (h d)) (cond (not b) (s ∷ rest) rest)
down_kept c h s rest true e t r = r
down_kept c h s rest false e t r = down_cons (λ d. cond (same c d) false (h d)) s rest (rw (e, t)) r

down_release : (c : Coord) (h : Coord → Bool) (ss : List State) → Down h ss → Down (λ d. cond (same c d) false (h d)) (release c ss)
unfolding release
down_release c h [] d = down_nil (λ d. cond (same c d) false (h d))
down_release c h (s ∷ ss) d = let p = down_head h s ss d in down_kept c h s (release c ss) (same c (coord_in s)) refl p.0 (down_release c h ss p.1)

-- a hold-tap that waits is decided, and costs less than it did
pub record Turns (m : Times) (h : Coord → Bool) (l k : Model) (ms : List Mark) : Type 0 where
  pub queue : k.queue ≡ l.queue
  pub acted : acted_on ms ≡ []
  pub leads : Leads (pending l.waiting) ms (pending k.waiting)
  pub wait : Good m (cost m l.waiting - 1) h k.waiting
  pub down : Down h k.states

-- it is decided for good
pub record Over (h : Coord → Bool) (l k : Model) (ms : List Mark) : Type 0 where
  pub queue : k.queue ≡ l.queue
  pub acted : acted_on ms ≡ []
  pub leads : Leads (pending l.waiting) ms Nothing
  pub idle : k.waiting ≡ Idle
  pub down : Down h k.states

over_kept : {h : Coord → Bool} {l k : Model} {ms : List Mark} {c : Coord} (w : Way) → pending l.waiting ≡ Key c → h c ≡ true → Down h l.states → Kept c (with_waiting Idle l) k ms
    → Over h l k (Decided c w ∷ ms)
unfolding acted_on Leads
over_kept {h = h} w e g d x = record { queue = x.queue; acted = rw x.marks; leads = rw (e, x.marks) (refl, refl); idle = x.waiting; down = x.down h g d }

over_still : {h : Coord → Bool} {l : Model} → l.waiting ≡ Idle → Down h l.states → Over h l l []
unfolding acted_on Leads
over_still e d = record { queue = refl; acted = refl; leads = rw e refl; idle = e; down = d }

turns_over : (m : Times) {h : Coord → Bool} {l k : Model} {ms : List Mark} → Over h l k ms → Turns m h l k ms
turns_over m {h} {l} {k} x = record { queue = x.queue; acted = x.acted; leads = rw x.idle x.leads; wait = good_idle m _ h k.waiting x.idle; down = x.down }

module _ (t : Table) (m : Times) (x : ℕ) (h : Coord → Bool) (l : Model) where
  -- cut by a seventeenth event
  cuts : (w : Waiting) → l.waiting ≡ w → Good m x h w → Down h l.states → Over h l (into_hold t w l).layout (into_hold t w l).marks
  unfolding into decided Good holdable
  cuts Idle e g d = over_still e d
  cuts (Waits c k i a b) e g d = over_kept Hold (rw e) g.down d (kept a t.layers c 0 (find c l.queue) (with_waiting Idle l) g.hold)

  -- expired
  pub expires : (w : Waiting) → l.waiting ≡ w → Good m x h w → Down h l.states → Turns m h l (into_hold t w l).layout (into_hold t w l).marks
  expires w e g d = turns_over m (cuts w e g d)

  -- released
  taps : (w : Waiting) → l.waiting ≡ w → Good m x h w → Down h l.states → Over h l (into_tap t w l).layout (into_tap t w l).marks
  unfolding into decided Good
  taps Idle e g d = over_still e d
  taps (Waits c k i a b) e g d = over_kept Tap (rw e) g.down d (kept b t.layers c 0 (find c l.queue) (with_waiting Idle l) g.tap)

-- from l, of which j differs in the queue and the ticks left alone
goes_turns : {m : Times} {es : List Event} {h : Coord → Bool} {l j k : Model} {ms : List Mark} → pending j.waiting ≡ pending l.waiting
    → queued j.queue ≡ queued l.queue ++ es → cost m j.waiting ≤ share m 0 → Turns m h j k ms → Goes m es h l k ms
unfolding down_after
goes_turns {m} {j = j} {k} w q le x =
    record {
      order = rw (x.acted, x.queue) q;
      leads = rw (← w) x.leads;
      fit = rw x.acted (record { wait = good_more m (cost m j.waiting - 1) (share m 0) _ _ (omega arith) (λ c y. y) k.waiting x.wait; down = x.down });
    }

goes_acts : {m : Times} {es : List Event} {h : Coord → Bool} {l j k : Model} {e : Event} {age : ℕ} {ms : List Mark} → l.waiting ≡ Idle
    → e ∷ queued j.queue ≡ queued l.queue ++ es → Acts m e age h j k ms → Goes m es h l k ms
unfolding down_after
goes_acts {m} {k = k} {age = age} w q x =
    record {
      order = rw (x.acted, x.queue) q;
      leads = rw w x.leads;
      fit = rw x.acted (record { wait = good_more m (share m age) (share m 0) _ _ (share_whole m age) (λ c y. y) k.waiting x.wait; down = x.down });
    }

goes_still : {m : Times} {es : List Event} {h : Coord → Bool} {l k : Model} → pending k.waiting ≡ pending l.waiting
    → queued k.queue ≡ queued l.queue ++ es → Fit m h k → Goes m es h l k []
unfolding acted_on Leads down_after
goes_still w q f = record { order = q; leads = sym w; fit = f }

module _ (t : Table) (m : Times) (ok : Proper t m) where
  pub acts : (e : Event) (age : ℕ) (h : Coord → Bool) (l : Model) → l.waiting ≡ Idle → Down h l.states → Acts m e age h l (act t e age l).layout (act t e age l).marks
  unfolding act acted_on Leads
  acts (Press i j) age h l w d =
      let c : Coord = record { i = i; j = j } in
      let r = ran (pressed t c l) m t.layers c age (find c l.queue) l (pressed_proper t m ok.cells c l) w in
      let g : Coord → Bool = λ x. cond (same c x) true (h x) in
      let gc : g c ≡ true = rw (same_refl c) in
      record {
        queue = r.queue;
        acted = ap (λ (es : List Event). Press i j ∷ es) (comes_acted r.comes);
        leads = comes_leads r.comes;
        wait = comes_good g gc r.comes;
        down = r.down g gc (down_more h g (λ x y. cond_true (same c x) (h x) y) l.states d);
      }
  acts (Release i j) age h l w d =
      record {
        queue = refl;
        acted = refl;
        leads = rw w refl;
        wait = good_idle m (share m age) _ l.waiting w;
        down = down_release (record { i = i; j = j }) h l.states d;
      }

  goes_wait : (h : Coord → Bool) (l k : Model) (j : ℕ) → pending k.waiting ≡ pending l.waiting → queued k.queue ≡ queued l.queue ++ []
      → Fit m h k → Goes m [] h l (tick_wait t j k).layout (tick_wait t j k).marks
  goes_wait h l k zero w q f = goes_turns w q (good_cost m (share m 0) h k.waiting f.wait) (expires t m (share m 0) h k k.waiting refl f.wait f.down)
  goes_wait h l k (suc j) w q f = goes_still w q f

  pub fit_wait : (h : Coord → Bool) (l : Model) (c : Coord) (k j i : ℕ) (a b : Action) (q : List Queued) → j ≤ k → l.waiting ≡ Waits c k i a b → Fit m h l → Fit m h (with_waiting (Waits c j i a b) (with_queue q l))
  unfolding Good
  fit_wait h l c k j i a b q le e f =
      let g : Sure m (share m 0) h c k i a b = rw e at f.wait in
      record { wait = record { cheap = omega (arith, g.cheap, cost_less m c i a b j k le); down = g.down; hold = g.hold; tap = g.tap }; down = f.down }

  goes_ticked : (h : Coord → Bool) (l : Model) → Fit m h l → (w : Waiting) → l.waiting ≡ w → (q : List Queued) → queued q ≡ queued l.queue ++ []
      → Goes m [] h l (ticked t w q l).layout (ticked t w q l).marks
  unfolding ticked
  goes_ticked h l f (Waits c k i a b) e q eq = goes_wait h l _ (k - 1) (rw e) eq (fit_wait h l c k (k - 1) i a b q (omega arith) e f)
  goes_ticked h l f Idle e [] eq = goes_still refl eq (record { wait = f.wait; down = f.down })
  goes_ticked h l f Idle e (q ∷ qs) eq = goes_acts e eq (acts q.event (age_of q) h (with_queue qs l) e f.down)

  pub goes_tick : (h : Coord → Bool) (l : Model) → Fit m h l → Goes m [] h l (tick t l).layout (tick t l).marks
  unfolding tick
  goes_tick h l f = goes_ticked h l f l.waiting refl (older l.queue) (map-map event_in older_one l.queue ∙ sym (append-nil _))

  goes_overflow : (h : Coord → Bool) (l : Model) → Fit m h l → (q : Queued) (es : List Event) (k : List Queued) → q.event ∷ queued k ≡ queued l.queue ++ es
      → Goes m es h l (overflow t q (with_queue k l)).layout (overflow t q (with_queue k l)).marks
  unfolding overflow down_after
  goes_overflow h l f q es k eq =
      let r = into_hold t l.waiting (with_queue k l) in
      let x = cuts t m (share m 0) h (with_queue k l) l.waiting refl f.wait f.down in
      let s = act t q.event (age_of q) r.layout in
      let y = acts q.event (age_of q) h r.layout x.idle x.down in
      record {
        order = rw (acted_append r.marks s.marks, x.acted, y.acted, y.queue, x.queue) eq;
        leads = leads_append _ r.marks Nothing s.marks _ x.leads y.leads;
        fit = rw (acted_append r.marks s.marks, x.acted, y.acted) (record { wait = good_more m (share m (age_of q)) (share m 0) _ _ (share_whole m (age_of q)) (λ c z. z) s.layout.waiting y.wait; down = y.down });
      }

  goes_entered : (h : Coord → Bool) (l : Model) → Fit m h l → (e : Event) (q : List Queued) → l.queue ≡ q → Goes m (e ∷ []) h l (entered t e q l).layout (entered t e q l).marks
  unfolding entered
  goes_entered h l f e [] eq = goes_still refl (rw eq) (record { wait = f.wait; down = f.down })
  goes_entered h l f e (q ∷ qs) eq = go (ltb (length (q ∷ qs)) 16)
    where
      go : (b : Bool) → let r = cond b (still (with_queue (appended e (q ∷ qs)) l)) (overflow t q (with_queue (appended e qs) l)) in
          Goes m (e ∷ []) h l r.layout r.marks
      go true = goes_still refl (rw (eq, map-append)) (record { wait = f.wait; down = f.down })
      go false = goes_overflow h l f q (e ∷ []) (appended e qs) (rw (eq, map-append))

  goes_released : (h : Coord → Bool) (l : Model) → Fit m h l → (e : Event) → Goes m [] h l (released t e l).layout (released t e l).marks
  unfolding released
  goes_released h l f e = go (releases e l.waiting)
    where
      go : (b : Bool) → let r = cond b (into_tap t l.waiting l) (still l) in Goes m [] h l r.layout r.marks
      go true = goes_turns refl (sym (append-nil _)) (good_cost m (share m 0) h l.waiting f.wait) (turns_over m (taps t m (share m 0) h l l.waiting refl f.wait f.down))
      go false = goes_still refl (sym (append-nil _)) f

  goes_event : (h : Coord → Bool) (l : Model) → Fit m h l → (e : Event) → Goes m (e ∷ []) h l (event t e l).layout (event t e l).marks
  unfolding event
  goes_event h l f e = let x = goes_entered h l f e l.queue refl in goes_after x (goes_released _ (entered t e l.queue l).layout x.fit e)

  pub goes_run : (ks : List Call) (h : Coord → Bool) (l : Model) → Fit m h l → Goes m (arrived ks) h l (run t ks l).layout (run t ks l).marks
  unfolding run call arrived
  goes_run [] h l f = goes_still refl (sym (append-nil _)) f
  goes_run (Tick ∷ ks) h l f = let x = goes_tick h l f in goes_after x (goes_run ks _ (tick t l).layout x.fit)
  goes_run (Enter e ∷ ks) h l f = let x = goes_event h l f e in goes_after x (goes_run ks _ (event t e l).layout x.fit)
