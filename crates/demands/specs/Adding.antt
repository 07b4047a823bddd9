-- The layout's steps once more, by how a state is added: document 01, Layout. They are those of crates/layout/specs/Actions.antt
-- and Steps.antt, definition for definition, but for `add` in the place of `push`. That with `push` they are the same is proved
-- (specs/Dropped.antt: Same).
--     push      the layout's own way: a 65th state is dropped, and counted
--     silent    as before document 02, W-202: a 65th is dropped, and nobody is told
--     kept      with room for any number of states
-- Assumes nothing.
use Rattle.std.specs.Prelude.{ℕ, zero, suc, ◌-◌, cond, List, [], ◌∷◌, ◌++◌, ltb, length, Option}
use Rattle.event.specs.declared.Coord.{Coord}
use Rattle.event.specs.declared.Event.{Event}
use Rattle.event.specs.declared.Event.TheVariants.{Release, Press}
use Rattle.image.specs.Tree.{Action, Actions, NoOp, Trans, KeyCode, MultipleKeyCodes, MultipleActions, Layer, DefaultLayer, HoldTap, end, ◌&◌}
use Rattle.image.specs.Table.{Table}
use Rattle.layout.specs.Model.{Queued, Model, Waiting, Idle, Waits, Acted, Decided, Done, age_of, still, marked, after, with_base, with_states, with_waiting, with_queue}
use Rattle.layout.specs.Actions.{find, ruling, begins, chosen}
use Rattle.layout.specs.Steps.{pressed, release, releases, appended, older}
use Rattle.layout.specs.declared.active.State.{State}
use Rattle.layout.specs.declared.active.State.TheVariants.{NormalKey, LayerModifier}
use Rattle.layout.specs.declared.notes.Way.{Way}
use Rattle.layout.specs.declared.notes.Way.TheVariants.{Tap, Hold}

abbrev pub Adds : Type 0
Adds = State → Model → Done

abbrev pub kept : Adds
kept s l = still (with_states (l.states ++ (s ∷ [])) l)

unfoldable pub silent : Adds
silent s l = cond (ltb (length l.states) 64) (still (with_states (l.states ++ (s ∷ [])) l)) (still l)

module _ (add : Adds) where
  unfoldable pub push_codes : List ℕ → Coord → Model → Done
  push_codes [] c l = still l
  push_codes (k ∷ ks) c l = let r = add (NormalKey k c) l in after r (push_codes ks c r.layout)

  unfoldable mutual
    pub do_action : Action → ℕ → Coord → ℕ → Option ℕ → Model → Done
    do_action NoOp n c d f l = still l
    do_action Trans n c d f l = still l
    do_action (KeyCode k) n c d f l = add (NormalKey k c) l
    do_action (MultipleKeyCodes ks) n c d f l = push_codes ks c l
    do_action (MultipleActions actions) n c d f l = do_actions actions n c d f l
    do_action (Layer v) n c d f l = add (LayerModifier v c) l
    do_action (DefaultLayer v) n c d f l = cond (ltb v n) (still (with_base v l)) (still l)
    do_action (HoldTap i timeout hold tap) n c d f l =
        begins (ruling timeout d f) c
        (with_waiting (Waits c (timeout - d) i hold tap) l)
        (do_action tap n c 0 f (with_waiting Idle l))
        (do_action hold n c 0 f (with_waiting Idle l))

    pub do_actions : Actions → ℕ → Coord → ℕ → Option ℕ → Model → Done
    do_actions end n c d f l = still l
    do_actions (action & actions) n c d f l = let r = do_action action n c d f l in after r (do_actions actions n c d f r.layout)

  unfoldable pub act : Table → Event → ℕ → Model → Done
  act T (Release i j) age l = marked (Acted (Release i j)) (still (with_states (release (record { i = i; j = j }) l.states) l))
  act T (Press i j) age l =
      let c : Coord = record { i = i; j = j } in
      marked (Acted (Press i j)) (do_action (pressed T c l) T.layers c age (find c l.queue) l)

  unfoldable pub into : Way → Table → Waiting → Model → Done
  into way T Idle l = still l
  into way T (Waits c left i hold tap) l =
      marked (Decided c way) (do_action (chosen way hold tap) T.layers c 0 (find c l.queue) (with_waiting Idle l))

  unfoldable pub released : Table → Event → Model → Done
  released T e l = cond (releases e l.waiting) (into Tap T l.waiting l) (still l)

  unfoldable pub overflow : Table → Queued → Model → Done
  overflow T q l = let r = into Hold T l.waiting l in after r (act T q.event (age_of q) r.layout)

  unfoldable pub entered : Table → Event → List Queued → Model → Done
  entered T e [] l = still (with_queue (appended e []) l)
  entered T e (q ∷ qs) l =
      cond (ltb (length (q ∷ qs)) 16)
      (still (with_queue (appended e (q ∷ qs)) l))
      (overflow T q (with_queue (appended e qs) l))

  unfoldable pub event : Table → Event → Model → Done
  event T e l = let r = entered T e l.queue l in after r (released T e r.layout)

  abbrev pub tick_wait : Table → ℕ → Model → Done
  tick_wait T zero l = into Hold T l.waiting l
  tick_wait T (suc k) l = still l

  unfoldable pub ticked : Table → Waiting → List Queued → Model → Done
  ticked T (Waits c left i hold tap) q l = tick_wait T (left - 1) (with_waiting (Waits c (left - 1) i hold tap) (with_queue q l))
  ticked T Idle [] l = still (with_queue [] l)
  ticked T Idle (q ∷ qs) l = act T q.event (age_of q) (with_queue qs l)

  unfoldable pub tick : Table → Model → Done
  tick T l = ticked T l.waiting (older l.queue) l
