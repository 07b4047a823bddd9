-- Every step of a layout over an accepted table keeps what State asks for. Assumes nothing.
use mathlib.Core.Path.{◌≡◌, refl, ap, ◌∙◌}
use mathlib.Core.Bool.{Bool, true, false, cond}
use mathlib.Core.List.{List, [], ◌∷◌, ◌++◌}
use Prim.Native.Nat.{ℕ, zero, suc, ◌+◌, ◌-◌, ◌≤◌, ◌<◌, min}
use native.Mathlib.Omega.{arith}
use Rattle.std.specs.Prelude.{Option}
use borrow.Author.Tests.{le-leb, leb-true, ltb-true}
use lib.Dec.{leb, ltb}
use lib.ListN.{length, length-append, length-map}
use Rattle.codes.specs.Codes.{legal}
use Rattle.lists.specs.Lists.{every, keep}
use Rattle.lists.proofs.Laws.{both_true, every_append}
use Rattle.event.specs.declared.Coord.{Coord}
use Rattle.event.specs.declared.Event.{Event}
use Rattle.event.specs.declared.Event.TheVariants.{Release, Press}
use Rattle.image.specs.Words.{layers_of}
use Rattle.image.specs.Tree.{Action, Actions, NoOp, Trans, KeyCode, MultipleKeyCodes, MultipleActions, Layer, DefaultLayer, HoldTap, end, ◌&◌, tree}
use Rattle.image.specs.Sound.{Sound}
use Rattle.image.specs.Table.{table_of}
use Rattle.layout.specs.Model.{Queued, Model, Waiting, Idle, Waits, Done, age_of, fresh, still, with_base, with_states, with_waiting, with_queue}
use Rattle.layout.specs.Actions.{push, push_codes, Ruling, Undecided, AtOnce, ruling, find, begins, do_action, do_actions, chosen, decided}
use Rattle.layout.specs.Steps.{current, held, or_default, pressed, stays, release, act, into, into_hold, released, releases, overflow, appended, entered, event, older, tick_wait, ticked, tick}
use Rattle.layout.specs.Packed.{hold_of, tap_of}
use Rattle.layout.specs.State.{legal_state, falling, may_wait}
use Rattle.layout.specs.declared.active.State.{State}
use Rattle.layout.specs.declared.active.State.TheVariants.{NormalKey, LayerModifier}
use Rattle.layout.specs.declared.notes.Way.{Way}
use Rattle.layout.specs.declared.notes.Way.TheVariants.{Tap, Hold}
use Rattle.layout.proofs.Pads.{keep_length}
use Rattle.layout.proofs.Rooted.{Rooted, AllRooted, rooted_cell}

-- what waits is a HoldTap of the table with no more ticks left than its timeout, and what it runs is of the table: the hold
-- and the tap of its record
abbrev pub WaitsWell : List ℕ → Waiting → Type 0
WaitsWell img Idle = Unit
WaitsWell img (Waits c left i hold tap) =
    (may_wait (tree img i) left ≡ true) × Rooted img hold × Rooted img tap × (hold_of (tree img i) ≡ hold) × (tap_of (tree img i) ≡ tap)

pub record Lawful (img : List ℕ) (l : Model) : Type 0 where
  pub few : length l.states ≤ 64
  pub short : length l.queue ≤ 16
  pub codes : every legal_state l.states ≡ true
  pub base : l.base < layers_of img
  pub ages : falling l.queue ≡ true
  pub waits : WaitsWell img l.waiting

-- the ages of a queue fall: after a tick, without the first, and with a new event
pub falling_older : (q : List Queued) → falling q ≡ true → falling (older q) ≡ true
unfolding falling
falling_older [] h = refl
falling_older (s ∷ []) h = refl
falling_older (s ∷ (t ∷ q)) h =
    let b = both_true (leb (age_of t) (age_of s)) (falling (t ∷ q)) h in
    rw (le-leb (min (age_of t + 1) 65535) (min (age_of s + 1) 65535) (omega (arith, leb-true (age_of t) (age_of s) b.0))) (falling_older (t ∷ q) b.1)

falling_rest : (s : Queued) (q : List Queued) → falling (s ∷ q) ≡ true → falling q ≡ true
unfolding falling
falling_rest s [] h = refl
falling_rest s (t ∷ q) h = (both_true (leb (age_of t) (age_of s)) (falling (t ∷ q)) h).1

pub falling_new : (e : Event) (q : List Queued) → falling q ≡ true → falling (appended e q) ≡ true
unfolding falling
falling_new e [] h = refl
falling_new e (s ∷ []) h = rw (le-leb 0 (age_of s) (omega arith))
falling_new e (s ∷ (t ∷ q)) h =
    let b = both_true (leb (age_of t) (age_of s)) (falling (t ∷ q)) h in
    rw b.0 (falling_new e (t ∷ q) b.1)

every_keep : (p t : State → Bool) (l : List State) → every p l ≡ true → every p (keep t l) ≡ true
every_keep p t [] h = refl
every_keep p t (s ∷ l) h = go (t s) (both_true (p s) (every p l) h).0 (every_keep p t l (both_true (p s) (every p l) h).1)
  where
    go : (b : Bool) → p s ≡ true → every p (keep t l) ≡ true → every p (cond b (s ∷ keep t l) (keep t l)) ≡ true
    go true e f = rw (e, f)
    go false e f = f

may_fewer : (a : Action) (k : ℕ) → may_wait a k ≡ true → may_wait a (k - 1) ≡ true
may_fewer NoOp k h = h
may_fewer Trans k h = h
may_fewer (KeyCode c) k h = h
may_fewer (MultipleKeyCodes cs) k h = h
may_fewer (MultipleActions as') k h = h
may_fewer (Layer v) k h = h
may_fewer (DefaultLayer v) k h = h
may_fewer (HoldTap i t x y) k h = le-leb (k - 1) t (omega (arith, leb-true k t h))

module _ (img : List ℕ) where
  with_queue_lem : (l : Model) (q : List Queued) → Lawful img l → length q ≤ 16 → falling q ≡ true → Lawful img (with_queue q l)
  with_queue_lem l q w h f = record { few = w.few; short = h; codes = w.codes; base = w.base; ages = f; waits = w.waits }

  with_waiting_lem : (l : Model) (x : Waiting) → Lawful img l → WaitsWell img x → Lawful img (with_waiting x l)
  with_waiting_lem l x w h = record { few = w.few; short = w.short; codes = w.codes; base = w.base; ages = w.ages; waits = h }

  lawful_if : (b : Bool) (x y : Done) → (b ≡ true → Lawful img x.layout) → Lawful img y.layout → Lawful img (cond b x y).layout
  lawful_if true x y p q = p refl
  lawful_if false x y p q = q

  push_lawful : (s : State) (l : Model) → legal_state s ≡ true → Lawful img l → Lawful img (push s l).layout
  unfolding push
  push_lawful s l e w =
      lawful_if (ltb (length l.states) 64) (still (with_states (l.states ++ (s ∷ [])) l)) _
      (λ h. record {
        few = simp length-append (omega (arith, ltb-true (length l.states) 64 h));
        short = w.short;
        codes = every_append legal_state l.states (s ∷ []) w.codes (rw e);
        base = w.base;
        ages = w.ages;
        waits = w.waits;
      })
      w

  codes_lawful : (ks : List ℕ) (c : Coord) (l : Model) → every legal ks ≡ true → Lawful img l → Lawful img (push_codes ks c l).layout
  unfolding push_codes
  codes_lawful [] c l e w = w
  codes_lawful (k ∷ ks) c l e w =
      let b = both_true (legal k) (every legal ks) e in
      codes_lawful ks c (push (NormalKey k c) l).layout b.1 (push_lawful (NormalKey k c) l b.0 w)

  begins_lawful : (x : Ruling) (c : Coord) (waits : Model) (tapped held : Done) → Lawful img waits → Lawful img tapped.layout → Lawful img held.layout → Lawful img (begins x c waits tapped held).layout
  begins_lawful Undecided c waits tapped held p q r = p
  begins_lawful (AtOnce Tap) c waits tapped held p q r = q
  begins_lawful (AtOnce Hold) c waits tapped held p q r = r

  mutual
    unfolding do_action Rooted

    do_lawful : (a : Action) (c : Coord) (d : ℕ) (f : Option ℕ) (l : Model) → Rooted img a → Lawful img l → Lawful img (do_action a (layers_of img) c d f l).layout
    do_lawful NoOp c d f l r w = w
    do_lawful Trans c d f l r w = w
    do_lawful (KeyCode k) c d f l r w = push_lawful (NormalKey k c) l r w
    do_lawful (MultipleKeyCodes ks) c d f l r w = codes_lawful ks c l r w
    do_lawful (MultipleActions actions) c d f l r w = all_lawful actions c d f l r w
    do_lawful (Layer v) c d f l r w = push_lawful (LayerModifier v c) l refl w
    do_lawful (DefaultLayer v) c d f l r w =
        lawful_if (ltb v (layers_of img)) (still (with_base v l)) (still l)
        (λ h. record { few = w.few; short = w.short; codes = w.codes; base = ltb-true v (layers_of img) h; ages = w.ages; waits = w.waits })
        w
    do_lawful (HoldTap i t h p) c d f l r w =
        let idle = with_waiting_lem l Idle w tt in
        let may : may_wait (tree img i) (t - d) ≡ true = ap (λ (a : Action). may_wait a (t - d)) r.0 ∙ le-leb (t - d) t (omega arith) in
        begins_lawful (ruling t d f) c (with_waiting (Waits c (t - d) i h p) l) (do_action p (layers_of img) c 0 f (with_waiting Idle l)) (do_action h (layers_of img) c 0 f (with_waiting Idle l))
        (with_waiting_lem l (Waits c (t - d) i h p) w (may, r.1, r.2, ap hold_of r.0, ap tap_of r.0))
        (do_lawful p c 0 f (with_waiting Idle l) r.2 idle)
        (do_lawful h c 0 f (with_waiting Idle l) r.1 idle)

    all_lawful : (as' : Actions) (c : Coord) (d : ℕ) (f : Option ℕ) (l : Model) → AllRooted img as' → Lawful img l → Lawful img (do_actions as' (layers_of img) c d f l).layout
    all_lawful end c d f l r w = w
    all_lawful (a & as') c d f l r w = all_lawful as' c d f (do_action a (layers_of img) c d f l).layout r.1 (do_lawful a c d f l r.0 w)

  chosen_rooted : (way : Way) (h p : Action) → Rooted img h → Rooted img p → Rooted img (chosen way h p)
  chosen_rooted Tap h p r s = s
  chosen_rooted Hold h p r s = r

  into_lawful : (way : Way) (x : Waiting) (l : Model) → WaitsWell img x → Lawful img l → Lawful img (into way (table_of img) x l).layout
  unfolding into decided
  into_lawful way Idle l h w = w
  into_lawful way (Waits c k i a b) l h w =
      do_lawful (chosen way a b) c 0 (find c l.queue) (with_waiting Idle l) (chosen_rooted way a b h.1 h.2) (with_waiting_lem l Idle w tt)

  default_rooted : (a b : Action) → Rooted img a → Rooted img b → Rooted img (or_default a b)
  unfolding Rooted
  default_rooted NoOp b r s = tt
  default_rooted Trans b r s = s
  default_rooted (KeyCode k) b r s = r
  default_rooted (MultipleKeyCodes ks) b r s = r
  default_rooted (MultipleActions actions) b r s = r
  default_rooted (Layer v) b r s = tt
  default_rooted (DefaultLayer v) b r s = tt
  default_rooted (HoldTap i t h p) b r s = r

  module _ (sound : Sound img) where
    act_lawful : (e : Event) (age : ℕ) (l : Model) → Lawful img l → Lawful img (act (table_of img) e age l).layout
    unfolding act pressed release
    act_lawful (Release i j) age l w =
        let c : Coord = record { i = i; j = j } in
        record {
          few = omega (arith, keep_length (stays c) l.states, w.few);
          short = w.short;
          codes = every_keep legal_state (stays c) l.states w.codes;
          base = w.base;
          ages = w.ages;
          waits = w.waits;
        }
    act_lawful (Press i j) age l w =
        do_lawful _ (record { i = i; j = j }) age (find (record { i = i; j = j }) l.queue) l
        (default_rooted _ _ (rooted_cell img sound (current l.base (held l.states)) i j) (rooted_cell img sound l.base i j)) w

    released_lawful : (e : Event) (l : Model) → Lawful img l → Lawful img (released (table_of img) e l).layout
    unfolding released
    released_lawful e l w = lawful_if (releases e l.waiting) (into Tap (table_of img) l.waiting l) (still l) (λ h. into_lawful Tap l.waiting l w.waits w) w

    overflow_lawful : (s : Queued) (l : Model) → Lawful img l → Lawful img (overflow (table_of img) s l).layout
    unfolding overflow
    overflow_lawful s l w = act_lawful s.event (age_of s) (into_hold (table_of img) l.waiting l).layout (into_lawful Hold l.waiting l w.waits w)

    entered_lawful : (e : Event) (q : List Queued) (l : Model) → length q ≤ 16 → falling q ≡ true → Lawful img l → Lawful img (entered (table_of img) e q l).layout
    unfolding entered
    entered_lawful e [] l h f w = with_queue_lem l (appended e []) w (omega arith) (falling_new e [] f)
    entered_lawful e (s ∷ q) l h f w =
        lawful_if (ltb (length (s ∷ q)) 16) (still (with_queue (appended e (s ∷ q)) l)) (overflow (table_of img) s (with_queue (appended e q) l))
        (λ t. with_queue_lem l (appended e (s ∷ q)) w (simp length-append (omega (arith, ltb-true (length (s ∷ q)) 16 t))) (falling_new e (s ∷ q) f))
        (overflow_lawful s (with_queue (appended e q) l) (with_queue_lem l (appended e q) w (simp length-append (omega arith)) (falling_new e q (falling_rest s q f))))

    pub event_lawful : (e : Event) (l : Model) → Lawful img l → Lawful img (event (table_of img) e l).layout
    unfolding event
    event_lawful e l w = released_lawful e (entered (table_of img) e l.queue l).layout (entered_lawful e l.queue l w.short w.ages w)

    wait_lawful : (k : ℕ) (l : Model) → Lawful img l → Lawful img (tick_wait (table_of img) k l).layout
    wait_lawful zero l w = into_lawful Hold l.waiting l w.waits w
    wait_lawful (suc k) l w = w

    ticked_lawful : (x : Waiting) (q : List Queued) (l : Model) → WaitsWell img x → length q ≤ 16 → falling q ≡ true → Lawful img l → Lawful img (ticked (table_of img) x q l).layout
    unfolding ticked
    ticked_lawful (Waits c k i a b) q l h n f w =
        wait_lawful (k - 1) (with_waiting (Waits c (k - 1) i a b) (with_queue q l)) (with_waiting_lem (with_queue q l) (Waits c (k - 1) i a b) (with_queue_lem l q w n f) (may_fewer (tree img i) k h.0, h.1, h.2, h.3, h.4))
    ticked_lawful Idle [] l h n f w = with_queue_lem l [] w n f
    ticked_lawful Idle (s ∷ q) l h n f w = act_lawful s.event (age_of s) (with_queue q l) (with_queue_lem l q w (omega arith) (falling_rest s q f))

    pub tick_lawful : (l : Model) → Lawful img l → Lawful img (tick (table_of img) l).layout
    unfolding tick
    tick_lawful l w = ticked_lawful l.waiting (older l.queue) l w.waits (rw length-map w.short) (falling_older l.queue w.ages) w

    pub fresh_lawful : Lawful img fresh
    unfolding falling
    fresh_lawful = record { few = omega arith; short = omega arith; codes = refl; base = omega (arith, sound.framed.layers.0); ages = refl; waits = tt }
