-- The layout's steps by another way to add a state (specs/Adding.antt), held to its own: where what they drop keeps to P, both
-- leave the same layout and the same marks, and the count is f of the layout's. P and f are whatever goes through sums.
-- Assumes nothing.
use Rattle.std.specs.Prelude.{Option}
use Prim.Native.Nat.{ℕ, zero, suc, ◌+◌, ◌-◌}
use mathlib.Core.Path.{◌≡◌, refl, sym, ap, ap₂, ◌∙◌}
use mathlib.Core.Bool.{Bool, true, false, cond}
use mathlib.Core.List.{List, [], ◌∷◌, ◌++◌}
use native.Mathlib.Omega.{arith}
use lib.Dec.{ltb}
use lib.ListN.{length}
use Rattle.event.specs.declared.Coord.{Coord}
use Rattle.event.specs.declared.Event.{Event}
use Rattle.event.specs.declared.Event.TheVariants.{Release, Press}
use Rattle.image.specs.Tree.{Action, Actions, NoOp, Trans, KeyCode, MultipleKeyCodes, MultipleActions, Layer, DefaultLayer, HoldTap, end, ◌&◌}
use Rattle.image.specs.Table.{Table}
use Rattle.layout.specs.Model.{Queued, Model, Waiting, Idle, Waits, Mark, Done, age_of, still, lost, marked, after, with_base, with_states, with_waiting, with_queue}
use Rattle.layout.specs.Actions.{push, push_codes, Ruling, Undecided, AtOnce, ruling, begins, chosen, do_action, do_actions, decided}
use Rattle.layout.specs.Steps.{releases, appended, older, act, into, released, overflow, entered, event, tick_wait, ticked, tick}
use Rattle.layout.specs.declared.active.State.{State}
use Rattle.layout.specs.declared.active.State.TheVariants.{NormalKey, LayerModifier}
use Rattle.layout.specs.declared.notes.Way.{Way}
use Rattle.layout.specs.declared.notes.Way.TheVariants.{Tap, Hold}
use Rattle.demands.specs.Adding as by
use Rattle.demands.specs.Adding.{Adds, kept, silent}

module _ (P : ℕ → Type 0) (f : ℕ → ℕ) where
  pub record Match (x y : Done) : Type 0 where
    pub layout : x.layout ≡ y.layout
    pub marks : x.marks ≡ y.marks
    pub dropped : x.dropped ≡ f y.dropped

  abbrev pub Follows : Done → Done → Type 0
  Follows x y = P y.dropped → Match x y

  -- what goes through sums
  pub record Additive : Type 0 where
    pub split : (m n : ℕ) → P (m + n) → P m × P n
    pub none : f 0 ≡ 0
    pub sums : (m n : ℕ) → f (m + n) ≡ f m + f n

module _ (P : ℕ → Type 0) (f : ℕ → ℕ) (a : Additive P f) where
  follow_still : (l : Model) → Follows P f (still l) (still l)
  follow_still l = λ p. record { layout = refl; marks = refl; dropped = sym a.none }

  follow_marked : (m : Mark) (x y : Done) → Follows P f x y → Follows P f (marked m x) (marked m y)
  follow_marked m x y h = λ p. let e = h p in record { layout = e.layout; marks = ap (λ (ms : List Mark). m ∷ ms) e.marks; dropped = e.dropped }

  follow_after : (x y : Done) (g h : Model → Done) → Follows P f x y → ((l : Model) → Follows P f (g l) (h l))
      → Follows P f (after x (g x.layout)) (after y (h y.layout))
  follow_after x y g h first next = λ p.
      let q = a.split y.dropped (h y.layout).dropped p in
      let u = first q.0 in
      let v = next y.layout q.1 in
      record {
        layout = ap (λ (l : Model). (g l).layout) u.layout ∙ v.layout;
        marks = ap₂ ◌++◌ u.marks (ap (λ (l : Model). (g l).marks) u.layout ∙ v.marks);
        dropped = ap₂ ◌+◌ u.dropped (ap (λ (l : Model). (g l).dropped) u.layout ∙ v.dropped) ∙ sym (a.sums y.dropped (h y.layout).dropped);
      }

  follow_cond : (b : Bool) (x y u v : Done) → Follows P f x y → Follows P f u v → Follows P f (cond b x u) (cond b y v)
  follow_cond true x y u v g h = g
  follow_cond false x y u v g h = h

  follow_begins : (v : Ruling) (c : Coord) (w : Model) (t t' h h' : Done) → Follows P f t t' → Follows P f h h' → Follows P f (begins v c w t h) (begins v c w t' h')
  follow_begins Undecided c w t t' h h' x y = follow_marked _ _ _ (follow_still w)
  follow_begins (AtOnce Tap) c w t t' h h' x y = follow_marked _ _ _ (follow_marked _ _ _ x)
  follow_begins (AtOnce Hold) c w t t' h h' x y = follow_marked _ _ _ (follow_marked _ _ _ y)

  module _ (add : Adds) (adds : (s : State) (l : Model) → Follows P f (add s l) (push s l)) where
    follow_codes : (ks : List ℕ) (c : Coord) (l : Model) → Follows P f (by.push_codes add ks c l) (push_codes ks c l)
    unfolding by.push_codes push_codes
    follow_codes [] c l = follow_still l
    follow_codes (k ∷ ks) c l = follow_after _ _ (by.push_codes add ks c) (push_codes ks c) (adds (NormalKey k c) l) (λ m. follow_codes ks c m)

    mutual
      unfolding by.do_action do_action

      pub follow_action : (x : Action) (n : ℕ) (c : Coord) (d : ℕ) (g : Option ℕ) (l : Model) → Follows P f (by.do_action add x n c d g l) (do_action x n c d g l)
      follow_action NoOp n c d g l = follow_still l
      follow_action Trans n c d g l = follow_still l
      follow_action (KeyCode k) n c d g l = adds (NormalKey k c) l
      follow_action (MultipleKeyCodes ks) n c d g l = follow_codes ks c l
      follow_action (MultipleActions xs) n c d g l = follow_actions xs n c d g l
      follow_action (Layer v) n c d g l = adds (LayerModifier v c) l
      follow_action (DefaultLayer v) n c d g l = follow_cond (ltb v n) _ _ _ _ (follow_still (with_base v l)) (follow_still l)
      follow_action (HoldTap i t h p) n c d g l =
          follow_begins (ruling t d g) c _ _ _ _ _ (follow_action p n c 0 g (with_waiting Idle l)) (follow_action h n c 0 g (with_waiting Idle l))

      follow_actions : (xs : Actions) (n : ℕ) (c : Coord) (d : ℕ) (g : Option ℕ) (l : Model) → Follows P f (by.do_actions add xs n c d g l) (do_actions xs n c d g l)
      follow_actions end n c d g l = follow_still l
      follow_actions (x & xs) n c d g l = follow_after _ _ (by.do_actions add xs n c d g) (do_actions xs n c d g) (follow_action x n c d g l) (λ m. follow_actions xs n c d g m)

    module _ (T : Table) where
      follow_act : (e : Event) (age : ℕ) (l : Model) → Follows P f (by.act add T e age l) (act T e age l)
      unfolding by.act act
      follow_act (Release i j) age l = follow_marked _ _ _ (follow_still _)
      follow_act (Press i j) age l = follow_marked _ _ _ (follow_action _ _ _ _ _ l)

      follow_into : (way : Way) (w : Waiting) (l : Model) → Follows P f (by.into add way T w l) (into way T w l)
      unfolding by.into into decided
      follow_into way Idle l = follow_still l
      follow_into way (Waits c left i hold tap) l = follow_marked _ _ _ (follow_action (chosen way hold tap) _ _ _ _ _)

      follow_released : (e : Event) (l : Model) → Follows P f (by.released add T e l) (released T e l)
      unfolding by.released released
      follow_released e l = follow_cond (releases e l.waiting) _ _ _ _ (follow_into Tap l.waiting l) (follow_still l)

      follow_overflow : (q : Queued) (l : Model) → Follows P f (by.overflow add T q l) (overflow T q l)
      unfolding by.overflow overflow
      follow_overflow q l =
          follow_after _ _ (by.act add T q.event (age_of q)) (act T q.event (age_of q)) (follow_into Hold l.waiting l) (λ m. follow_act q.event (age_of q) m)

      follow_entered : (e : Event) (q : List Queued) (l : Model) → Follows P f (by.entered add T e q l) (entered T e q l)
      unfolding by.entered entered
      follow_entered e [] l = follow_still _
      follow_entered e (q ∷ qs) l = follow_cond (ltb (length (q ∷ qs)) 16) _ _ _ _ (follow_still _) (follow_overflow q (with_queue (appended e qs) l))

      pub follow_event : (e : Event) (l : Model) → Follows P f (by.event add T e l) (event T e l)
      unfolding by.event event
      follow_event e l = follow_after _ _ (by.released add T e) (released T e) (follow_entered e l.queue l) (λ m. follow_released e m)

      follow_wait : (k : ℕ) (l : Model) → Follows P f (by.tick_wait add T k l) (tick_wait T k l)
      follow_wait zero l = follow_into Hold l.waiting l
      follow_wait (suc k) l = follow_still l

      follow_ticked : (w : Waiting) (q : List Queued) (l : Model) → Follows P f (by.ticked add T w q l) (ticked T w q l)
      unfolding by.ticked ticked
      follow_ticked (Waits c left i hold tap) q l = follow_wait (left - 1) _
      follow_ticked Idle [] l = follow_still _
      follow_ticked Idle (q ∷ qs) l = follow_act q.event (age_of q) (with_queue qs l)

      pub follow_tick : (l : Model) → Follows P f (by.tick add T l) (tick T l)
      unfolding by.tick tick
      follow_tick l = follow_ticked l.waiting (older l.queue) l

-- what may be dropped, and what is told of it: anything, and all; anything, and nothing; nothing
abbrev pub Any : ℕ → Type 0
Any n = Unit

abbrev pub None : ℕ → Type 0
None n = n ≡ 0

abbrev pub all : ℕ → ℕ
all n = n

abbrev pub nothing : ℕ → ℕ
nothing n = 0

pub all_told : Additive Any all
all_told = record { split = λ m n p. (tt, tt); none = refl; sums = λ m n. refl }

pub none_told : Additive Any nothing
none_told = record { split = λ m n p. (tt, tt); none = refl; sums = λ m n. refl }

pub none_dropped : Additive None nothing
none_dropped = record { split = λ m n p. (omega arith, omega arith); none = refl; sums = λ m n. refl }

pub push_follows : (s : State) (l : Model) → Follows Any all (push s l) (push s l)
push_follows s l p = record { layout = refl; marks = refl; dropped = refl }

pub silent_follows : (s : State) (l : Model) → Follows Any nothing (silent s l) (push s l)
unfolding silent push
silent_follows s l = go (ltb (length l.states) 64)
  where
    go : (b : Bool) → Follows Any nothing (cond b (still (with_states (l.states ++ (s ∷ [])) l)) (still l)) (cond b (still (with_states (l.states ++ (s ∷ [])) l)) (lost l))
    go true p = record { layout = refl; marks = refl; dropped = refl }
    go false p = record { layout = refl; marks = refl; dropped = refl }

pub kept_follows : (s : State) (l : Model) → Follows None nothing (kept s l) (push s l)
unfolding push
kept_follows s l = go (ltb (length l.states) 64)
  where
    go : (b : Bool) → Follows None nothing (kept s l) (cond b (still (with_states (l.states ++ (s ∷ [])) l)) (lost l))
    go true p = record { layout = refl; marks = refl; dropped = refl }
    go false p = absurd (omega arith)
