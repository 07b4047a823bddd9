-- Running an action: document 01, Layout, the last item of its list, and the rules of its first paragraph on DefaultLayer
-- and on a full list of states. Each step leaves a `Done`, so that a later mark moves no shape.
-- Assumes nothing.
use Rattle.std.specs.Prelude.{ℕ, ◌-◌, Bool, false, cond, List, [], ◌∷◌, ◌++◌, leb, ltb, length, Option, Some, None}
use Rattle.event.specs.declared.Coord.{Coord}
use Rattle.event.specs.declared.Event.{Event}
use Rattle.event.specs.declared.Event.TheVariants.{Release, Press}
use Rattle.image.specs.Tree.{Action, Actions, NoOp, Trans, KeyCode, MultipleKeyCodes, MultipleActions, Layer, DefaultLayer, HoldTap, end, ◌&◌}
use Rattle.layout.specs.Model.{Queued, Model, Idle, Waits, Begun, Decided, Done, age_of, same, still, lost, marked, after, with_base, with_states, with_waiting}
use Rattle.layout.specs.declared.active.State.{State}
use Rattle.layout.specs.declared.active.State.TheVariants.{NormalKey, LayerModifier}
use Rattle.layout.specs.declared.notes.Way.{Way}
use Rattle.layout.specs.declared.notes.Way.TheVariants.{Tap, Hold}

-- one state more, kept if there is room, else dropped: Layout, first paragraph; document 02, W-202
unfoldable pub push : State → Model → Done
push s l = cond (ltb (length l.states) 64) (still (with_states (l.states ++ (s ∷ [])) l)) (lost l)

-- the codes of a MultipleKeyCodes, one after the other
unfoldable pub push_codes : List ℕ → Coord → Model → Done
push_codes [] c l = still l
push_codes (k ∷ ks) c l = let r = push (NormalKey k c) l in after r (push_codes ks c r.layout)

-- an event that releases the coordinates
abbrev pub is_release : Coord → Event → Bool
is_release c (Release i j) = same c (record { i = i; j = j })
is_release c (Press i j) = false

-- the age of the first queued release of the coordinates
unfoldable pub find : Coord → List Queued → Option ℕ
find c [] = None
find c (q ∷ qs) = cond (is_release c q.event) (Some (age_of q)) (find c qs)

-- what a queued release says of a hold-tap that begins: nothing, or how it is decided at once
pub data Ruling : Type 0 where
  Undecided : Ruling
  AtOnce : Way → Ruling

-- Layout, HoldTap: what the first queued release decides. Nothing is subtracted below 0
unfoldable pub ruling : ℕ → ℕ → Option ℕ → Ruling
ruling timeout delay None = Undecided
ruling timeout delay (Some age) = AtOnce (cond (leb (delay - age) timeout) Tap Hold)

-- a hold-tap begins, and with a queued release it is decided in the same step
abbrev pub begins : Ruling → Coord → Model → Done → Done → Done
begins Undecided c waits tapped held = marked (Begun c) (still waits)
begins (AtOnce Tap) c waits tapped held = marked (Begun c) (marked (Decided c Tap) tapped)
begins (AtOnce Hold) c waits tapped held = marked (Begun c) (marked (Decided c Hold) held)

-- an action runs in a table of n layers, at the coordinates c, with the delay d, where f is the first queued release of
-- them. The queue is not changed, so f stays the same while an action and the hold-tap that it decides run each other
unfoldable mutual
  pub do_action : Action → ℕ → Coord → ℕ → Option ℕ → Model → Done
  do_action NoOp n c d f l = still l
  do_action Trans n c d f l = still l
  do_action (KeyCode k) n c d f l = push (NormalKey k c) l
  do_action (MultipleKeyCodes ks) n c d f l = push_codes ks c l
  do_action (MultipleActions actions) n c d f l = do_actions actions n c d f l
  do_action (Layer v) n c d f l = push (LayerModifier v c) l
  do_action (DefaultLayer v) n c d f l = cond (ltb v n) (still (with_base v l)) (still l)
  do_action (HoldTap i timeout hold tap) n c d f l =
      begins (ruling timeout d f) c
      (with_waiting (Waits c (timeout - d) i hold tap) l)
      (do_action tap n c 0 f (with_waiting Idle l))
      (do_action hold n c 0 f (with_waiting Idle l))

  pub do_actions : Actions → ℕ → Coord → ℕ → Option ℕ → Model → Done
  do_actions end n c d f l = still l
  do_actions (action & actions) n c d f l = let r = do_action action n c d f l in after r (do_actions actions n c d f r.layout)

-- a hold-tap is decided: Layout, HoldTap, its last sentence
abbrev pub chosen : Way → Action → Action → Action
chosen Tap hold tap = tap
chosen Hold hold tap = hold

unfoldable pub decided : Way → Action → Action → ℕ → Coord → Option ℕ → Model → Done
decided way hold tap n c f l = marked (Decided c way) (do_action (chosen way hold tap) n c 0 f (with_waiting Idle l))
