-- What running an action does to a layout. The facts are of a layout and marks, not of a Done: what else a Done may come
-- to hold does not touch them. Document 01, Layout, the last item of its list.
--     Kept     a closed action: it adds states of its key, and leaves no mark
--     Ran      an action of an accepted table, run while nothing waits: a hold-tap of it begins at most, and that waits or is
--              decided
-- Assumes nothing.
use Prim.Native.Nat.{ℕ, ◌-◌, ◌≤◌}
use mathlib.Core.Path.{◌≡◌, refl, ap₂, ◌∙◌}
use mathlib.Core.Bool.{Bool, true, false, cond, ◌&&◌, ◌||◌}
use mathlib.Core.List.{List, [], ◌∷◌, ◌++◌, append-nil}
use native.Mathlib.Omega.{arith}
use Rattle.std.specs.Prelude.{Option}
use borrow.Author.Tests.{leb-true}
use lib.Dec.{leb, ltb}
use lib.ListN.{length}
use Rattle.lists.specs.Lists.{every}
use Rattle.lists.proofs.Laws.{both_true, every_append}
use Rattle.event.specs.declared.Coord.{Coord}
use Rattle.image.specs.Tree.{Action, Actions, NoOp, Trans, KeyCode, MultipleKeyCodes, MultipleActions, Layer, DefaultLayer, HoldTap, end, ◌&◌}
use Rattle.image.specs.Proper.{closed, closed_all, Times, holdable, is_end, proper, proper_all}
use Rattle.image.specs.Table.{Table}
use Rattle.layout.specs.Model.{Waiting, Idle, Waits, Model, Mark, Begun, Decided, Done, still, after, with_base, with_waiting}
use Rattle.layout.specs.Actions.{push, push_codes, Ruling, Undecided, AtOnce, ruling, begins, do_action, do_actions}
use Rattle.layout.specs.Steps.{coord_in, current, held, or_default, pressed}
use Rattle.layout.specs.declared.active.State.{State}
use Rattle.layout.specs.declared.active.State.TheVariants.{NormalKey, LayerModifier}
use Rattle.layout.specs.declared.notes.Way.{Way}
use Rattle.layout.specs.declared.notes.Way.TheVariants.{Tap, Hold}

-- every state's key is down
unfoldable pub Down : (Coord → Bool) → List State → Type 0
Down h s = every (λ x. h (coord_in x)) s ≡ true

down_push : (h : Coord → Bool) (s : List State) (x : State) → Down h s → h (coord_in x) ≡ true → Down h (s ++ (x ∷ []))
unfolding Down
down_push h s x d e = every_append (λ x. h (coord_in x)) s (x ∷ []) d (rw e)

-- a closed action at the coordinates c leads from l to k: only states of c are added
pub record Kept (c : Coord) (l k : Model) (ms : List Mark) : Type 0 where
  pub queue : k.queue ≡ l.queue
  pub waiting : k.waiting ≡ l.waiting
  pub marks : ms ≡ []
  pub down : (h : Coord → Bool) → h c ≡ true → Down h l.states → Down h k.states

kept_still : (c : Coord) (l : Model) → Kept c l l []
kept_still c l = record { queue = refl; waiting = refl; marks = refl; down = λ h t d. d }

kept_after : {c : Coord} {l k j : Model} {ms ns : List Mark} → Kept c l k ms → Kept c k j ns → Kept c l j (ms ++ ns)
kept_after p q =
    record {
      queue = q.queue ∙ p.queue;
      waiting = q.waiting ∙ p.waiting;
      marks = ap₂ ◌++◌ p.marks q.marks;
      down = λ h t d. q.down h t (p.down h t d);
    }

kept_cond : (b : Bool) (c : Coord) (l : Model) (x y : Done) → Kept c l x.layout x.marks → Kept c l y.layout y.marks → Kept c l (cond b x y).layout (cond b x y).marks
kept_cond true c l x y p q = p
kept_cond false c l x y p q = q

kept_push : (s : State) (l : Model) → Kept (coord_in s) l (push s l).layout (push s l).marks
unfolding push
kept_push s l =
    kept_cond (ltb (length l.states) 64) (coord_in s) l _ _
    (record { queue = refl; waiting = refl; marks = refl; down = λ h t d. down_push h l.states s d t })
    (kept_still (coord_in s) l)

kept_codes : (ks : List ℕ) (c : Coord) (l : Model) → Kept c l (push_codes ks c l).layout (push_codes ks c l).marks
unfolding push_codes
kept_codes [] c l = kept_still c l
kept_codes (k ∷ ks) c l = kept_after (kept_push (NormalKey k c) l) (kept_codes ks c (push (NormalKey k c) l).layout)

mutual
  unfolding closed do_action

  pub kept : (a : Action) (n : ℕ) (c : Coord) (d : ℕ) (f : Option ℕ) (l : Model) → closed a ≡ true → Kept c l (do_action a n c d f l).layout (do_action a n c d f l).marks
  kept NoOp n c d f l t = kept_still c l
  kept Trans n c d f l t = kept_still c l
  kept (KeyCode k) n c d f l t = kept_push (NormalKey k c) l
  kept (MultipleKeyCodes ks) n c d f l t = kept_codes ks c l
  kept (MultipleActions as') n c d f l t = kept_all as' n c d f l t
  kept (Layer v) n c d f l t = kept_push (LayerModifier v c) l
  kept (DefaultLayer v) n c d f l t = kept_cond (ltb v n) c l (still (with_base v l)) (still l) (record { queue = refl; waiting = refl; marks = refl; down = λ h t d. d }) (kept_still c l)
  kept (HoldTap i x h p) n c d f l t = let z : ◌≡◌ {A = ℕ} 0 1 = cc in absurd (omega arith)

  kept_all : (as' : Actions) (n : ℕ) (c : Coord) (d : ℕ) (f : Option ℕ) (l : Model) → closed_all as' ≡ true → Kept c l (do_actions as' n c d f l).layout (do_actions as' n c d f l).marks
  kept_all end n c d f l t = kept_still c l
  kept_all (a & as') n c d f l t =
      let u = both_true (closed a) (closed_all as') t in
      kept_after (kept a n c d f l u.0) (kept_all as' n c d f (do_action a n c d f l).layout u.1)

-- what an action at c, run with delay d, does and leaves waiting: nothing; or a hold-tap begins, and it waits; or a queued
-- release decides it at once
pub data Comes (m : Times) (c : Coord) (d : ℕ) : List Mark → Waiting → Type 0 where
  nothing : Comes m c d [] Idle
  begun : (t i : ℕ) (h p : Action) → t ≤ m.first → holdable h m ≡ true → closed p ≡ true → Comes m c d (Begun c ∷ []) (Waits c (t - d) i h p)
  settled : (way : Way) → Comes m c d (Begun c ∷ Decided c way ∷ []) Idle

-- an action of an accepted table at the coordinates c, run with delay d while nothing waits, leads from l to k
pub record Ran (m : Times) (c : Coord) (d : ℕ) (l k : Model) (ms : List Mark) : Type 0 where
  pub queue : k.queue ≡ l.queue
  pub comes : Comes m c d ms k.waiting
  pub down : (h : Coord → Bool) → h c ≡ true → Down h l.states → Down h k.states

ran_kept : (m : Times) (d : ℕ) {c : Coord} {l k : Model} {ms : List Mark} → l.waiting ≡ Idle → Kept c l k ms → Ran m c d l k ms
ran_kept m d e x = record { queue = x.queue; comes = rw (x.marks, x.waiting, e) nothing; down = x.down }

-- a closed action, then others
ran_then : {m : Times} {c : Coord} {d : ℕ} {l k j : Model} {ms ns : List Mark} → Kept c l k ms → Ran m c d k j ns → Ran m c d l j (ms ++ ns)
ran_then x q = record { queue = q.queue ∙ x.queue; comes = rw x.marks q.comes; down = λ h t y. q.down h t (x.down h t y) }

-- a hold-tap that a queued release decides
ran_now : (m : Times) (d : ℕ) {c : Coord} {l k : Model} {ms : List Mark} (way : Way) → Kept c (with_waiting Idle l) k ms → Ran m c d l k (Begun c ∷ Decided c way ∷ ms)
ran_now m d way x = record { queue = x.queue; comes = rw (x.marks, x.waiting) (settled way); down = x.down }

ran_begins : (m : Times) (i t : ℕ) (h p : Action) (n : ℕ) (c : Coord) (d : ℕ) (f : Option ℕ) (l : Model) (v : Ruling) → t ≤ m.first → holdable h m ≡ true → closed p ≡ true
    → let r = begins v c (with_waiting (Waits c (t - d) i h p) l) (do_action p n c 0 f (with_waiting Idle l)) (do_action h n c 0 f (with_waiting Idle l)) in
    Ran m c d l r.layout r.marks
unfolding holdable
ran_begins m i t h p n c d f l Undecided le th tp = record { queue = refl; comes = begun t i h p le th tp; down = λ g x y. y }
ran_begins m i t h p n c d f l (AtOnce Tap) le th tp = ran_now m d Tap (kept p n c 0 f (with_waiting Idle l) tp)
ran_begins m i t h p n c d f l (AtOnce Hold) le th tp = ran_now m d Hold (kept h n c 0 f (with_waiting Idle l) th)

-- either the entry is closed, or it is the last
ran_join : (m : Times) (a : Action) (as' : Actions) (n : ℕ) (c : Coord) (d : ℕ) (f : Option ℕ) (l : Model) (b : Bool) → l.waiting ≡ Idle
    → closed a ≡ b → b || is_end as' ≡ true → Ran m c d l (do_action a n c d f l).layout (do_action a n c d f l).marks
    → ((k : Model) → k.waiting ≡ Idle → Ran m c d k (do_actions as' n c d f k).layout (do_actions as' n c d f k).marks)
    → let r = after (do_action a n c d f l) (do_actions as' n c d f (do_action a n c d f l).layout) in Ran m c d l r.layout r.marks
unfolding do_action
ran_join m a as' n c d f l true e ea t r next =
    let x = kept a n c d f l ea in
    ran_then x (next (do_action a n c d f l).layout (x.waiting ∙ e))
ran_join m a end n c d f l false e ea t r next = rw append-nil r
ran_join m a (b & bs) n c d f l false e ea t r next = let z : ◌≡◌ {A = ℕ} 0 1 = cc in absurd (omega arith)

mutual
  unfolding closed proper do_action

  pub ran : (a : Action) (m : Times) (n : ℕ) (c : Coord) (d : ℕ) (f : Option ℕ) (l : Model) → proper a m ≡ true → l.waiting ≡ Idle → Ran m c d l (do_action a n c d f l).layout (do_action a n c d f l).marks
  ran NoOp m n c d f l t e = ran_kept m d e (kept NoOp n c d f l refl)
  ran Trans m n c d f l t e = ran_kept m d e (kept Trans n c d f l refl)
  ran (KeyCode k) m n c d f l t e = ran_kept m d e (kept (KeyCode k) n c d f l refl)
  ran (MultipleKeyCodes ks) m n c d f l t e = ran_kept m d e (kept (MultipleKeyCodes ks) n c d f l refl)
  ran (MultipleActions as') m n c d f l t e = ran_all as' m n c d f l t e
  ran (Layer v) m n c d f l t e = ran_kept m d e (kept (Layer v) n c d f l refl)
  ran (DefaultLayer v) m n c d f l t e = ran_kept m d e (kept (DefaultLayer v) n c d f l refl)
  ran (HoldTap i x h p) m n c d f l t e =
      let u = both_true (leb x m.first) (holdable h m && closed p) t in
      let y = both_true (holdable h m) (closed p) u.1 in
      ran_begins m i x h p n c d f l (ruling x d f) (leb-true x m.first u.0) y.0 y.1

  ran_all : (as' : Actions) (m : Times) (n : ℕ) (c : Coord) (d : ℕ) (f : Option ℕ) (l : Model) → proper_all as' m ≡ true → l.waiting ≡ Idle → Ran m c d l (do_actions as' n c d f l).layout (do_actions as' n c d f l).marks
  ran_all end m n c d f l t e = ran_kept m d e (kept_all end n c d f l refl)
  ran_all (a & as') m n c d f l t e =
      let u = both_true ((closed a || is_end as') && proper a m) (proper_all as' m) t in
      let y = both_true (closed a || is_end as') (proper a m) u.0 in
      ran_join m a as' n c d f l (closed a) e refl y.0
      (ran a m n c d f l y.1 e)
      (λ k ek. ran_all as' m n c d f k u.1 ek)

-- what a press finds in an accepted table
default_proper : (a b : Action) (m : Times) → proper a m ≡ true → proper b m ≡ true → proper (or_default a b) m ≡ true
unfolding proper
default_proper NoOp b m r s = refl
default_proper Trans b m r s = s
default_proper (KeyCode k) b m r s = refl
default_proper (MultipleKeyCodes ks) b m r s = refl
default_proper (MultipleActions actions) b m r s = r
default_proper (Layer v) b m r s = refl
default_proper (DefaultLayer v) b m r s = refl
default_proper (HoldTap i t h p) b m r s = r

pub pressed_proper : (T : Table) (m : Times) → ((layer row column : ℕ) → proper (T.cell layer row column) m ≡ true) → (c : Coord) (l : Model) → proper (pressed T c l) m ≡ true
unfolding pressed
pressed_proper T m ok c l = default_proper _ _ m (ok (current l.base (held l.states)) c.i c.j) (ok l.base c.i c.j)
