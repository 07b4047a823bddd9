-- Laws of the State check: each test one place on, and what a layout that passes is. Assumes nothing.
use mathlib.Core.Path.{◌≡◌, refl, ap, ◌∙◌}
use mathlib.Core.Bool.{Bool, true, false, ◌&&◌}
use mathlib.Core.List.{List, [], ◌∷◌, map}
use Prim.Native.Nat.{ℕ, ◌≤◌, ◌<◌}
use native.Mathlib.Omega.{arith}
use borrow.Author.Tests.{leb-true, ltb-true, eqb-true}
use lib.Dec.{leb, ltb, eqb}
use lib.ListN.{length, take, drop, get_or, replicate, length-drop}
use Rattle.lists.specs.Lists.{every}
use Rattle.lists.proofs.Laws.{both_true}
use Rattle.event.specs.declared.Event.{Event}
use Rattle.event.specs.declared.Event.TheVariants.{Release, Press}
use Rattle.image.specs.Words.{layers_of}
use Rattle.image.specs.Tree.{Action, meaning}
use Rattle.image.specs.declared.record.Action.{Action as Coded}
use Rattle.image.specs.declared.record.Action.TheVariants as code
use Rattle.layout.specs.Model.{Queued}
use Rattle.layout.specs.Packed.{no_state, no_stacked, queued_of, list_in}
use Rattle.layout.specs.State.{legal_state, falling, may_wait, waiting_good, unused_state, unused_event, unused_stacked, state_good}
use Rattle.layout.specs.Order.{Tidy, Lined}
use Rattle.layout.specs.declared.active.State.{State}
use Rattle.layout.specs.declared.active.State.TheVariants.{NormalKey, LayerModifier}
use Rattle.layout.specs.declared.queue.Stacked.{Stacked}
use Rattle.layout.specs.declared.layout.Layout.{Layout}
use Rattle.layout.proofs.Pads.{padded}

-- the ages of two that follow each other, where the others stand behind them
pub falling_pair : (l pair : List Stacked) (d : Stacked) → 2 ≤ length l → pair ≡ take 2 l
    → falling (map queued_of l) ≡ leb (get_or pair 1 d).since (get_or pair 0 d).since && falling (map queued_of (drop 1 l))
unfolding falling
falling_pair [] pair d h e = absurd (omega arith)
falling_pair (a ∷ []) pair d h e = absurd (omega arith)
falling_pair (a ∷ (b ∷ l)) pair d h e = rw e

pub falling_short : (l : List Queued) → length l ≤ 1 → falling l ≡ true
unfolding falling
falling_short [] h = refl
falling_short (s ∷ []) h = refl
falling_short (s ∷ (t ∷ l)) h = absurd (omega arith)

-- a record that is no HoldTap may not wait
pub no_wait : (img : List ℕ) (n : ℕ) (t : ℕ → Action) (a : Coded) (left : ℕ) → ((w k p : ℕ) → a ≡ code.HoldTap w k p → ⊥) → may_wait (meaning img t n a) left ≡ false
unfolding meaning
no_wait img n t code.NoOp left h = refl
no_wait img n t code.Trans left h = refl
no_wait img n t (code.KeyCode k) left h = refl
no_wait img n t (code.MultipleKeyCodes f c) left h = refl
no_wait img n t (code.MultipleActions f c) left h = refl
no_wait img n t (code.Layer v) left h = refl
no_wait img n t (code.DefaultLayer v) left h = refl
no_wait img n t (code.HoldTap w k p) left h = absurd (h w k p refl)

-- the parts of a layout that State is not given for
pub record Legal (img : List ℕ) (lay : Layout) : Type 0 where
  pub few : lay.active.len ≤ 64
  pub short : lay.queue.queued ≤ 16
  pub codes : every legal_state (take lay.active.len lay.active.states) ≡ true
  pub base : lay.active.default_layer < layers_of img
  pub ages : falling (list_in lay.queue) ≡ true
  pub waits : waiting_good img lay.active.waiting ≡ true
  pub slots : every unused_state (drop lay.active.len lay.active.states) ≡ true
  pub events : every unused_stacked (drop lay.queue.queued lay.queue.stacked) ≡ true

pub legal : (img : List ℕ) (lay : Layout) → state_good img lay ≡ true → Legal img lay
unfolding state_good
legal img lay e =
    let a = both_true (leb lay.active.len 64) _ e in
    let b = both_true (leb lay.queue.queued 16) _ a.1 in
    let c = both_true (every legal_state (take lay.active.len lay.active.states)) _ b.1 in
    let d = both_true (ltb lay.active.default_layer (layers_of img)) _ c.1 in
    let f = both_true (falling (list_in lay.queue)) _ d.1 in
    let g = both_true (waiting_good img lay.active.waiting) _ f.1 in
    let h = both_true (every unused_state (drop lay.active.len lay.active.states)) (every unused_stacked (drop lay.queue.queued lay.queue.stacked)) g.1 in
    record {
      few = leb-true lay.active.len 64 a.0;
      short = leb-true lay.queue.queued 16 b.0;
      codes = c.0;
      base = ltb-true lay.active.default_layer (layers_of img) d.0;
      ages = f.0;
      waits = g.0;
      slots = h.0;
      events = h.1;
    }

-- an unused place is zero
unused_state_lem : (s : State) → unused_state s ≡ true → s ≡ NormalKey 0 (record { i = 0; j = 0 })
unused_state_lem (NormalKey k c) h =
    let a = both_true (eqb k 0) (eqb c.i 0 && eqb c.j 0) h in
    let b = both_true (eqb c.i 0) (eqb c.j 0) a.1 in
    let ek = eqb-true k 0 a.0 in
    let ei = eqb-true c.i 0 b.0 in
    let ej = eqb-true c.j 0 b.1 in
    λ t. NormalKey (ek t) (record { i = ei t; j = ej t })
unused_state_lem (LayerModifier v c) h = let z : ◌≡◌ {A = ℕ} 0 1 = cc in absurd (omega arith)

unused_event_lem : (e : Event) → unused_event e ≡ true → e ≡ Release 0 0
unused_event_lem (Release i j) h =
    let b = both_true (eqb i 0) (eqb j 0) h in
    rw (eqb-true i 0 b.0, eqb-true j 0 b.1)
unused_event_lem (Press i j) h = let z : ◌≡◌ {A = ℕ} 0 1 = cc in absurd (omega arith)

unused_stacked_lem : (s : Stacked) → unused_stacked s ≡ true → s ≡ no_stacked
unused_stacked_lem s h =
    let a = both_true (eqb s.since 0) (unused_event s.event) h in
    ap (λ (x : Event). record { event = x; since = s.since }) (unused_event_lem s.event a.1)
    ∙ ap (λ (x : ℕ). record { event = Release 0 0; since = x }) (eqb-true s.since 0 a.0)

all_are : {A : Type 0} (p : A → Bool) (z : A) → ((a : A) → p a ≡ true → a ≡ z) → (l : List A) → every p l ≡ true → l ≡ replicate (length l) z
all_are p z is [] h = refl
all_are {A} p z is (a ∷ l) h = let b = both_true (p a) (every p l) h in rw (is a b.0) (ap (λ (x : List A). z ∷ x) (all_are p z is l b.1))

-- a legal layout is in order in both its parts
module _ (img : List ℕ) (lay : Layout) (g : Legal img lay) where
  pub legal_tidy : length lay.active.states ≡ 64 → Tidy lay.active
  legal_tidy e =
      record { few = g.few; clean = padded 64 lay.active.len no_state lay.active.states e g.few (all_are unused_state no_state unused_state_lem (drop lay.active.len lay.active.states) g.slots ∙ rw (length-drop, e)) }

  pub legal_lined : length lay.queue.stacked ≡ 16 → Lined lay.queue
  legal_lined e =
      record { few = g.short; clean = padded 16 lay.queue.queued no_stacked lay.queue.stacked e g.short (all_are unused_stacked no_stacked unused_stacked_lem (drop lay.queue.queued lay.queue.stacked) g.events ∙ rw (length-drop, e)) }
