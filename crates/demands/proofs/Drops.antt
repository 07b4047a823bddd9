-- What an action drops is what it asks for and does not get. And how many states a call drops at most, by the measure of
-- crates/layout/proofs/Limits.antt: what an action drops, and what it leaves waiting may drop, is within what it may add.
-- Assumes nothing.
use Rattle.std.specs.Prelude.{None, Option, Some}
use Prim.Native.Nat.{ℕ, ◌+◌, ◌-◌, ◌≤◌, max}
use mathlib.Core.Path.{◌≡◌, refl, ap}
use mathlib.Core.Bool.{Bool, true, false, cond}
use mathlib.Core.List.{List, [], ◌∷◌, ◌++◌}
use native.Mathlib.Omega.{arith}
use native.Mathlib.Nat.{le_refl}
use lib.Dec.{ltb}
use lib.ListN.{length, length-append}
use Rattle.event.specs.declared.Coord.{Coord}
use Rattle.event.specs.declared.Event.{Event}
use Rattle.event.specs.declared.Event.TheVariants.{Release, Press}
use Rattle.image.specs.Record.{cell_at}
use Rattle.image.specs.Sound.{Sound}
use Rattle.image.specs.Table.{Table, table_of, tree_in, times_of}
use Rattle.image.specs.Tree.{Action, Actions, NoOp, Trans, KeyCode, MultipleKeyCodes, MultipleActions, Layer, DefaultLayer, HoldTap, end, ◌&◌, tree, weight, weights}
use Rattle.image.proofs.Accepted.{light}
use Rattle.layout.specs.Model.{Model, Waiting, Idle, Waits, Done, still, lost, after, with_base, with_states, with_waiting}
use Rattle.layout.specs.Actions.{push, push_codes, find, Ruling, Undecided, AtOnce, ruling, begins, do_action, do_actions, decided}
use Rattle.layout.specs.Steps.{current, held, or_default, pressed, act, into, event, tick}
use Rattle.layout.specs.Packed.{hold_of, tap_of, waiting_of, unpack}
use Rattle.layout.specs.Reach.{waits_in}
use Rattle.layout.specs.declared.active.State.{State}
use Rattle.layout.specs.declared.active.State.TheVariants.{NormalKey, LayerModifier}
use Rattle.layout.specs.declared.active.WaitingState.{WaitingState}
use Rattle.layout.specs.declared.notes.Way.{Way}
use Rattle.layout.specs.declared.notes.Way.TheVariants.{Tap, Hold}
use Rattle.layout.specs.declared.layout.Layout.{Layout}
use Rattle.layout.proofs.Limits.{Measured, event_within, tick_within, Weights, weighed, Calm, spare as spared, weighted, proper_cells, calm_held}
use Rattle.demands.specs.Adding as by
use Rattle.demands.specs.Adding.{Adds, kept}
use Rattle.demands.specs.Dropped.{Missing}
use Rattle.demands.proofs.Adding.{Additive, follow_action, Any, all, nothing, all_told, none_told, push_follows}

-- how many states a ruling lets an action ask for: none where the hold-tap waits
abbrev ruled : Ruling → ℕ → ℕ → ℕ
ruled Undecided tap hold = 0
ruled (AtOnce Tap) tap hold = tap
ruled (AtOnce Hold) tap hold = hold

-- how many states an action asks for
unfoldable mutual
  asks : Action → ℕ → Option ℕ → ℕ
  asks NoOp d f = 0
  asks Trans d f = 0
  asks (KeyCode k) d f = 1
  asks (MultipleKeyCodes ks) d f = length ks
  asks (MultipleActions as') d f = asks_all as' d f
  asks (Layer v) d f = 1
  asks (DefaultLayer v) d f = 0
  asks (HoldTap i t h p) d f = ruled (ruling t d f) (asks p 0 f) (asks h 0 f)

  asks_all : Actions → ℕ → Option ℕ → ℕ
  asks_all end d f = 0
  asks_all (a & as') d f = asks a d f + asks_all as' d f

-- so many are asked for: each is held, or is among what is told of those dropped
abbrev Asked : (ℕ → ℕ) → ℕ → Model → Done → Type 0
Asked g k l r = length r.layout.states + g r.dropped ≡ length l.states + k

module _ (g : ℕ → ℕ) (a : Additive Any g) (add : Adds) (adds : (s : State) (l : Model) → Asked g 1 l (add s l)) where
  asked_still : (l m : Model) → m.states ≡ l.states → Asked g 0 l (still m)
  asked_still l m e = omega (arith, ap length e, a.none)

  asked_after : (i k : ℕ) (l : Model) (r s : Done) → Asked g i l r → Asked g k r.layout s → Asked g (i + k) l (after r s)
  asked_after i k l r s x y = omega (arith, x, y, a.sums r.dropped s.dropped)

  asked_begins : (v : Ruling) (c : Coord) (l w : Model) (t h : Done) (i k : ℕ) → w.states ≡ l.states → Asked g i l t → Asked g k l h → Asked g (ruled v i k) l (begins v c w t h)
  asked_begins Undecided c l w t h i k e x y = asked_still l w e
  asked_begins (AtOnce Tap) c l w t h i k e x y = x
  asked_begins (AtOnce Hold) c l w t h i k e x y = y

  asked_codes : (ks : List ℕ) (c : Coord) (l : Model) → Asked g (length ks) l (by.push_codes add ks c l)
  unfolding by.push_codes
  asked_codes [] c l = asked_still l l refl
  asked_codes (k ∷ ks) c l =
      let r = add (NormalKey k c) l in
      omega (arith, asked_after 1 (length ks) l r (by.push_codes add ks c r.layout) (adds (NormalKey k c) l) (asked_codes ks c r.layout))

  mutual
    unfolding by.do_action asks

    asked : (x : Action) (n : ℕ) (c : Coord) (d : ℕ) (f : Option ℕ) (l : Model) → Asked g (asks x d f) l (by.do_action add x n c d f l)
    asked NoOp n c d f l = asked_still l l refl
    asked Trans n c d f l = asked_still l l refl
    asked (KeyCode k) n c d f l = adds (NormalKey k c) l
    asked (MultipleKeyCodes ks) n c d f l = asked_codes ks c l
    asked (MultipleActions xs) n c d f l = asked_all xs n c d f l
    asked (Layer v) n c d f l = adds (LayerModifier v c) l
    asked (DefaultLayer v) n c d f l = go (ltb v n)
      where
        go : (b : Bool) → Asked g 0 l (cond b (still (with_base v l)) (still l))
        go true = asked_still l (with_base v l) refl
        go false = asked_still l l refl
    asked (HoldTap i t h p) n c d f l =
        asked_begins (ruling t d f) c l (with_waiting (Waits c (t - d) i h p) l) _ _ _ _ refl (asked p n c 0 f (with_waiting Idle l)) (asked h n c 0 f (with_waiting Idle l))

    asked_all : (xs : Actions) (n : ℕ) (c : Coord) (d : ℕ) (f : Option ℕ) (l : Model) → Asked g (asks_all xs d f) l (by.do_actions add xs n c d f l)
    asked_all end n c d f l = asked_still l l refl
    asked_all (x & xs) n c d f l =
        let r = by.do_action add x n c d f l in
        asked_after _ _ l r (by.do_actions add xs n c d f r.layout) (asked x n c d f l) (asked_all xs n c d f r.layout)

kept_asked : (s : State) (l : Model) → Asked nothing 1 l (kept s l)
kept_asked s l = omega (arith, length-append l.states (s ∷ []))

push_asked : (s : State) (l : Model) → Asked all 1 l (push s l)
unfolding push
push_asked s l = go (ltb (length l.states) 64)
  where
    go : (b : Bool) → Asked all 1 l (cond b (still (with_states (l.states ++ (s ∷ [])) l)) (lost l))
    go true = omega (arith, length-append l.states (s ∷ []))
    go false = omega arith

pub missing : Missing
unfolding Missing
missing x n c d f l =
    let m = follow_action Any all all_told push push_follows x n c d f l tt in
    let free = asked nothing none_told kept kept_asked x n c d f l in
    let own = asked all all_told push push_asked x n c d f l in
    omega (arith, free, own, ap (λ (k : Model). length k.states) m.layout, m.dropped)

-- how many states an action adds at most, whatever decides its hold-tap
unfoldable mutual
  most : Action → ℕ
  most NoOp = 0
  most Trans = 0
  most (KeyCode k) = 1
  most (MultipleKeyCodes ks) = length ks
  most (MultipleActions xs) = most_all xs
  most (Layer v) = 1
  most (DefaultLayer v) = 0
  most (HoldTap i t h p) = max (most h) (most p)

  most_all : Actions → ℕ
  most_all end = 0
  most_all (x & xs) = most x + most_all xs

-- what a hold-tap that waits may still drop
abbrev spare : Waiting → ℕ
spare Idle = 0
spare (Waits c k i h p) = max (most h) (most p)

-- of a budget, with what waits behind it counted
abbrev Within : ℕ → Done → Type 0
Within budget r = r.dropped + spare r.layout.waiting ≤ budget

within_push : (s : State) (l : Model) → Within (1 + spare l.waiting) (push s l)
unfolding push
within_push s l = go (ltb (length l.states) 64)
  where
    go : (b : Bool) → Within (1 + spare l.waiting) (cond b (still (with_states (l.states ++ (s ∷ [])) l)) (lost l))
    go true = omega arith
    go false = omega arith

within_codes : (ks : List ℕ) (c : Coord) (l : Model) → Within (length ks + spare l.waiting) (push_codes ks c l)
unfolding push_codes
within_codes [] c l = omega arith
within_codes (k ∷ ks) c l = omega (arith, within_push (NormalKey k c) l, within_codes ks c (push (NormalKey k c) l).layout)

within_begins : (v : Ruling) (c : Coord) (w : Model) (t h : Done) (b : ℕ) → spare w.waiting ≤ b → Within b t → Within b h → Within b (begins v c w t h)
within_begins Undecided c w t h b x y z = omega (arith, x)
within_begins (AtOnce Tap) c w t h b x y z = y
within_begins (AtOnce Hold) c w t h b x y z = z

mutual
  unfolding do_action most

  within : (x : Action) (n : ℕ) (c : Coord) (d : ℕ) (f : Option ℕ) (l : Model) → Within (most x + spare l.waiting) (do_action x n c d f l)
  within NoOp n c d f l = omega arith
  within Trans n c d f l = omega arith
  within (KeyCode k) n c d f l = within_push (NormalKey k c) l
  within (MultipleKeyCodes ks) n c d f l = within_codes ks c l
  within (MultipleActions xs) n c d f l = within_all xs n c d f l
  within (Layer v) n c d f l = within_push (LayerModifier v c) l
  within (DefaultLayer v) n c d f l = go (ltb v n)
    where
      go : (b : Bool) → Within (0 + spare l.waiting) (cond b (still (with_base v l)) (still l))
      go true = omega arith
      go false = omega arith
  within (HoldTap i t h p) n c d f l =
      let x = within p n c 0 f (with_waiting Idle l) in
      let y = within h n c 0 f (with_waiting Idle l) in
      within_begins (ruling t d f) c _ _ _ _ (omega arith) (omega (arith, x)) (omega (arith, y))

  within_all : (xs : Actions) (n : ℕ) (c : Coord) (d : ℕ) (f : Option ℕ) (l : Model) → Within (most_all xs + spare l.waiting) (do_actions xs n c d f l)
  within_all end n c d f l = omega arith
  within_all (x & xs) n c d f l = omega (arith, within x n c d f l, within_all xs n c d f (do_action x n c d f l).layout)

-- an action that is more than one state weighs one more than its states
mutual
  unfolding most weight

  most_weight : (x : Action) → most x ≤ weight x
  most_weight NoOp = omega arith
  most_weight Trans = omega arith
  most_weight (KeyCode k) = omega arith
  most_weight (MultipleKeyCodes ks) = omega arith
  most_weight (MultipleActions xs) = omega (arith, most_weights xs)
  most_weight (Layer v) = omega arith
  most_weight (DefaultLayer v) = omega arith
  most_weight (HoldTap i t h p) = omega (arith, most_weight h, most_weight p)

  most_weights : (xs : Actions) → most_all xs ≤ weights xs
  most_weights end = omega arith
  most_weights (x & xs) = omega (arith, most_weight x, most_weights xs)

fewer : (x : Action) (n : ℕ) → 1 ≤ n → weight x ≤ n + 1 → most x ≤ n
unfolding most weight
fewer NoOp n one h = omega arith
fewer Trans n one h = omega arith
fewer (KeyCode k) n one h = omega arith
fewer (MultipleKeyCodes ks) n one h = omega arith
fewer (MultipleActions xs) n one h = omega (arith, most_weights xs)
fewer (Layer v) n one h = omega arith
fewer (DefaultLayer v) n one h = omega arith
fewer (HoldTap i t hold tap) n one h = omega (arith, most_weight hold, most_weight tap)

weighs : (x : Action) → 1 ≤ weight x
unfolding weight
weighs NoOp = omega arith
weighs Trans = omega arith
weighs (KeyCode k) = omega arith
weighs (MultipleKeyCodes ks) = omega arith
weighs (MultipleActions xs) = omega arith
weighs (Layer v) = omega arith
weighs (DefaultLayer v) = omega arith
weighs (HoldTap i t h p) = omega arith

-- every action that a press finds in an accepted table is light
cell_light : (img : List ℕ) → Sound img → (c : Option ℕ) → weight (tree_in img c) ≤ 64
unfolding tree_in weight
cell_light img s (Some n) = light img n s
cell_light img s None = omega arith

default_light : (a b : Action) → weight a ≤ 64 → weight b ≤ 64 → weight (or_default a b) ≤ 64
default_light NoOp b x y = x
default_light Trans b x y = y
default_light (KeyCode k) b x y = x
default_light (MultipleKeyCodes ks) b x y = x
default_light (MultipleActions actions) b x y = x
default_light (Layer v) b x y = x
default_light (DefaultLayer v) b x y = x
default_light (HoldTap i t h p) b x y = x

pressed_few : (img : List ℕ) → Sound img → (c : Coord) (l : Model) → most (pressed (table_of img) c l) ≤ 63
unfolding pressed
pressed_few img s c l =
    fewer (pressed (table_of img) c l) 63 (omega arith)
    (default_light _ _
    (cell_light img s (cell_at img (current l.base (held l.states)) c.i c.j))
    (cell_light img s (cell_at img l.base c.i c.j)))

-- whatever the marks weigh: that what waits has a hold and a tap that are not open is known of every such measure
abbrev nothing_weighed : Weights
nothing_weighed = record { acted = 0; begun = 0; decided = 0 }

module _ (img : List ℕ) (s : Sound img) where
  abbrev T : Table
  T = table_of img

  calmly : Measured T (λ r. weighed nothing_weighed r.marks) Calm (spared nothing_weighed) (0 + 0 + 0)
  calmly = weighted T (times_of img) (proper_cells img s) nothing_weighed

  act_within : (e : Event) (age : ℕ) (l : Model) → l.waiting ≡ Idle → Within 63 (act T e age l)
  unfolding act
  act_within (Release i j) age l w = rw w (omega arith)
  act_within (Press i j) age l w =
      let c : Coord = record { i = i; j = j } in
      omega (arith, ap spare w, pressed_few img s c l, within (pressed T c l) T.layers c age (find c l.queue) l)

  into_within : (way : Way) (w : Waiting) (l : Model) → (into way T w l).dropped ≤ spare w
  unfolding into decided
  into_within way Idle l = omega arith
  into_within Tap (Waits c left i h p) l = omega (arith, within p T.layers c 0 (find c l.queue) (with_waiting Idle l))
  into_within Hold (Waits c left i h p) l = omega (arith, within h T.layers c 0 (find c l.queue) (with_waiting Idle l))

  measured : Measured T (λ r. r.dropped) Calm spare 63
  measured =
      record {
        nothing = λ l. refl;
        adds = λ r t. refl;
        acts = λ e age l w. ((calmly.acts e age l w).0, act_within e age l w);
        decides = λ way l c. (into_within way l.waiting l, (calmly.decides way l c).1);
        sooner = λ c j k i h p f. (f, le_refl (max (most h) (most p)));
      }

  -- what waits in a layout is looked up in the image: its hold and its tap are both lighter than their record
  lighter : (a : Action) → weight a ≤ 64 → max (most (hold_of a)) (most (tap_of a)) ≤ 61
  unfolding most weight
  lighter NoOp h = omega arith
  lighter Trans h = omega arith
  lighter (KeyCode k) h = omega arith
  lighter (MultipleKeyCodes ks) h = omega arith
  lighter (MultipleActions actions) h = omega arith
  lighter (Layer v) h = omega arith
  lighter (DefaultLayer v) h = omega arith
  lighter (HoldTap i t hold tap) h =
      omega (arith, fewer hold 61 (omega arith) (omega (arith, weighs tap)), fewer tap 61 (omega arith) (omega (arith, weighs hold)))

  spare_held : (w : Option WaitingState) → spare (waiting_of img w) ≤ 61
  spare_held None = omega arith
  spare_held (Some w) = lighter (tree img w.number) (light img w.number s)

  pub event_drops : (e : Event) (layout : Layout) → (event T e (unpack img layout)).dropped ≤ 124
  event_drops e layout = omega (arith, event_within T _ Calm spare 63 measured e (unpack img layout) (calm_held img (waits_in layout) s), spare_held (waits_in layout))

  pub tick_drops : (layout : Layout) → (tick T (unpack img layout)).dropped ≤ 63
  tick_drops layout = tick_within T _ Calm spare 63 measured (unpack img layout) (calm_held img (waits_in layout) s) 63 (le_refl 63) (omega (arith, spare_held (waits_in layout)))
