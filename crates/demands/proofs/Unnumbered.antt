-- Record numbers do not matter to a layout: each step over trees without them leaves what the step leaves, but for them. Of a layout
-- the number of what waits is put to 0, and its hold and tap are without numbers.
-- Assumes nothing.
use Rattle.std.specs.Prelude.{Option}
use Prim.Native.Nat.{ℕ, zero, suc, ◌-◌}
use mathlib.Core.Path.{◌≡◌, refl, ap, ap₂, ◌∙◌}
use mathlib.Core.Bool.{Bool, true, false, cond}
use mathlib.Core.List.{List, [], ◌∷◌}
use lib.Dec.{ltb}
use lib.ListN.{length}
use Rattle.event.specs.declared.Coord.{Coord}
use Rattle.event.specs.declared.Event.{Event}
use Rattle.event.specs.declared.Event.TheVariants.{Release, Press}
use Rattle.image.specs.Tree.{Action, Actions, NoOp, Trans, KeyCode, MultipleKeyCodes, MultipleActions, Layer, DefaultLayer, HoldTap, end, ◌&◌}
use Rattle.image.specs.Table.{Table}
use Rattle.table_changes.specs.Same.{unnumbered, unnumbered_all}
use Rattle.layout.specs.Model.{Queued, Model, Waiting, Idle, Waits, Acted, Decided, Done, age_of, marked, after, with_waiting, with_queue}
use Rattle.layout.specs.Actions.{push, push_codes, find, Ruling, Undecided, AtOnce, ruling, begins, do_action, do_actions, chosen, decided}
use Rattle.layout.specs.Steps.{held, current, or_default, pressed, act, into, into_hold, releases, released, overflow, appended, entered, event, older, tick_wait, ticked, tick}
use Rattle.layout.specs.declared.active.State.{State}
use Rattle.layout.specs.declared.active.State.TheVariants.{NormalKey, LayerModifier}
use Rattle.layout.specs.declared.notes.Way.{Way}
use Rattle.layout.specs.declared.notes.Way.TheVariants.{Tap, Hold}
use Rattle.demands.specs.Runs.{Call, Tick, Enter, call}

-- without record numbers: what waits, a layout, what a step leaves, a table
abbrev pub bare_waiting : Waiting → Waiting
bare_waiting Idle = Idle
bare_waiting (Waits c left n hold tap) = Waits c left 0 (unnumbered hold) (unnumbered tap)

abbrev pub bare : Model → Model
bare l = with_waiting (bare_waiting l.waiting) l

abbrev pub bare_done : Done → Done
bare_done r = record { layout = bare r.layout; marks = r.marks; dropped = r.dropped }

abbrev pub bare_table : Table → Table
bare_table T =
    record {
      layers = T.layers;
      rows = T.rows;
      columns = T.columns;
      cell = λ layer row column. unnumbered (T.cell layer row column);
    }

-- one of two, and one after the other
cond_bare : (b : Bool) (x y x' y' : Done) → x' ≡ bare_done x → y' ≡ bare_done y → cond b x' y' ≡ bare_done (cond b x y)
cond_bare true x y x' y' p q = p
cond_bare false x y x' y' p q = q

then_bare : (r r' : Done) (f f' : Model → Done) → r' ≡ bare_done r → ((l : Model) → f' (bare l) ≡ bare_done (f l)) → after r' (f' r'.layout) ≡ bare_done (after r (f r.layout))
then_bare r r' f f' e g = ap₂ after e (ap (λ (x : Done). f' x.layout) e ∙ g r.layout)

-- running an action
push_bare : (s : State) (l : Model) → push s (bare l) ≡ bare_done (push s l)
unfolding push
push_bare s l = cond_bare (ltb (length l.states) 64) _ _ _ _ refl refl

codes_bare : (ks : List ℕ) (c : Coord) (l : Model) → push_codes ks c (bare l) ≡ bare_done (push_codes ks c l)
unfolding push_codes
codes_bare [] c l = refl
codes_bare (k ∷ ks) c l =
    then_bare (push (NormalKey k c) l) (push (NormalKey k c) (bare l)) (push_codes ks c) (push_codes ks c) (push_bare (NormalKey k c) l) (codes_bare ks c)

begins_bare : (v : Ruling) (c : Coord) (waits : Model) (tapped held tapped' held' : Done) → tapped' ≡ bare_done tapped → held' ≡ bare_done held
    → begins v c (bare waits) tapped' held' ≡ bare_done (begins v c waits tapped held)
begins_bare Undecided c waits tapped held tapped' held' e f = refl
begins_bare (AtOnce Tap) c waits tapped held tapped' held' e f = rw e
begins_bare (AtOnce Hold) c waits tapped held tapped' held' e f = rw f

mutual
  unfolding unnumbered do_action

  do_bare : (a : Action) (n : ℕ) (c : Coord) (d : ℕ) (f : Option ℕ) (l : Model) → do_action (unnumbered a) n c d f (bare l) ≡ bare_done (do_action a n c d f l)
  do_bare NoOp n c d f l = refl
  do_bare Trans n c d f l = refl
  do_bare (KeyCode k) n c d f l = push_bare (NormalKey k c) l
  do_bare (MultipleKeyCodes ks) n c d f l = codes_bare ks c l
  do_bare (MultipleActions actions) n c d f l = do_bares actions n c d f l
  do_bare (Layer v) n c d f l = push_bare (LayerModifier v c) l
  do_bare (DefaultLayer v) n c d f l = cond_bare (ltb v n) _ _ _ _ refl refl
  do_bare (HoldTap i timeout hold tap) n c d f l =
      begins_bare (ruling timeout d f) c (with_waiting (Waits c (timeout - d) i hold tap) l) _ _ _ _ (do_bare tap n c 0 f (with_waiting Idle l)) (do_bare hold n c 0 f (with_waiting Idle l))

  do_bares : (as' : Actions) (n : ℕ) (c : Coord) (d : ℕ) (f : Option ℕ) (l : Model) → do_actions (unnumbered_all as') n c d f (bare l) ≡ bare_done (do_actions as' n c d f l)
  do_bares end n c d f l = refl
  do_bares (a & as') n c d f l =
      then_bare (do_action a n c d f l) (do_action (unnumbered a) n c d f (bare l)) (do_actions as' n c d f) (do_actions (unnumbered_all as') n c d f) (do_bare a n c d f l) (do_bares as' n c d f)

chosen_bare : (way : Way) (hold tap : Action) → chosen way (unnumbered hold) (unnumbered tap) ≡ unnumbered (chosen way hold tap)
chosen_bare Tap hold tap = refl
chosen_bare Hold hold tap = refl

decided_bare : (way : Way) (hold tap : Action) (n : ℕ) (c : Coord) (f : Option ℕ) (l : Model)
    → decided way (unnumbered hold) (unnumbered tap) n c f (bare l) ≡ bare_done (decided way hold tap n c f l)
unfolding decided
decided_bare way hold tap n c f l = rw (chosen_bare way hold tap) (ap (marked (Decided c way)) (do_bare (chosen way hold tap) n c 0 f (with_waiting Idle l)))

default_bare : (a b : Action) → or_default (unnumbered a) (unnumbered b) ≡ unnumbered (or_default a b)
unfolding unnumbered
default_bare NoOp b = refl
default_bare Trans b = refl
default_bare (KeyCode k) b = refl
default_bare (MultipleKeyCodes ks) b = refl
default_bare (MultipleActions actions) b = refl
default_bare (Layer v) b = refl
default_bare (DefaultLayer v) b = refl
default_bare (HoldTap n timeout hold tap) b = refl

-- what a call does
module _ (T : Table) where
  act_bare : (e : Event) (age : ℕ) (l : Model) → act (bare_table T) e age (bare l) ≡ bare_done (act T e age l)
  unfolding act pressed
  act_bare (Release i j) age l = refl
  act_bare (Press i j) age l =
      let c : Coord = record { i = i; j = j } in
      rw (default_bare (T.cell (current l.base (held l.states)) i j) (T.cell l.base i j)) (ap (marked (Acted (Press i j))) (do_bare (pressed T c l) T.layers c age (find c l.queue) l))

  into_bare : (way : Way) (w : Waiting) (l : Model) → into way (bare_table T) (bare_waiting w) (bare l) ≡ bare_done (into way T w l)
  unfolding into
  into_bare way Idle l = refl
  into_bare way (Waits c left n hold tap) l = decided_bare way hold tap T.layers c (find c l.queue) l

  releases_bare : (e : Event) (w : Waiting) → releases e (bare_waiting w) ≡ releases e w
  releases_bare e Idle = refl
  releases_bare e (Waits c left n hold tap) = refl

  released_bare : (e : Event) (l : Model) → released (bare_table T) e (bare l) ≡ bare_done (released T e l)
  unfolding released
  released_bare e l = rw (releases_bare e l.waiting) (cond_bare (releases e l.waiting) _ _ _ _ (into_bare Tap l.waiting l) refl)

  overflow_bare : (q : Queued) (l : Model) → overflow (bare_table T) q (bare l) ≡ bare_done (overflow T q l)
  unfolding overflow
  overflow_bare q l =
      then_bare (into_hold T l.waiting l) _ (act T q.event (age_of q)) (act (bare_table T) q.event (age_of q)) (into_bare Hold l.waiting l) (act_bare q.event (age_of q))

  entered_bare : (e : Event) (q : List Queued) (l : Model) → entered (bare_table T) e q (bare l) ≡ bare_done (entered T e q l)
  unfolding entered
  entered_bare e [] l = refl
  entered_bare e (q ∷ qs) l = cond_bare (ltb (length (q ∷ qs)) 16) _ _ _ _ refl (overflow_bare q (with_queue (appended e qs) l))

  event_bare : (e : Event) (l : Model) → event (bare_table T) e (bare l) ≡ bare_done (event T e l)
  unfolding event
  event_bare e l =
      then_bare (entered T e l.queue l) _ (released T e) (released (bare_table T) e) (entered_bare e l.queue l) (released_bare e)

  wait_bare : (left : ℕ) (l : Model) → tick_wait (bare_table T) left (bare l) ≡ bare_done (tick_wait T left l)
  wait_bare zero l = into_bare Hold l.waiting l
  wait_bare (suc left) l = refl

  ticked_bare : (w : Waiting) (q : List Queued) (l : Model) → ticked (bare_table T) (bare_waiting w) q (bare l) ≡ bare_done (ticked T w q l)
  unfolding ticked
  ticked_bare (Waits c left n hold tap) q l = wait_bare (left - 1) (with_waiting (Waits c (left - 1) n hold tap) (with_queue q l))
  ticked_bare Idle [] l = refl
  ticked_bare Idle (q ∷ qs) l = act_bare q.event (age_of q) (with_queue qs l)

  tick_bare : (l : Model) → tick (bare_table T) (bare l) ≡ bare_done (tick T l)
  unfolding tick
  tick_bare l = ticked_bare l.waiting (older l.queue) l

  pub call_bare : (k : Call) (l : Model) → call (bare_table T) k (bare l) ≡ bare_done (call T k l)
  unfolding call
  call_bare Tick l = tick_bare l
  call_bare (Enter e) l = event_bare e l
