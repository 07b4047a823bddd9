-- The steps of a layout over a table: document 01, Layout: event, tick, what acting on an event is, and the codes in
-- state order. Each leaves the layout and the marks of what was done.
-- Assumes nothing.
use Rattle.std.specs.Prelude.{ℕ, zero, suc, ◌+◌, ◌-◌, min, Bool, false, cond, not, List, [], ◌∷◌, ◌++◌, map, ltb, length}
use Rattle.lists.specs.Lists.{keep}
use Rattle.event.specs.declared.Coord.{Coord}
use Rattle.event.specs.declared.Event.{Event}
use Rattle.event.specs.declared.Event.TheVariants.{Release, Press}
use Rattle.image.specs.Tree.{Action, NoOp, Trans, KeyCode, MultipleKeyCodes, MultipleActions, Layer, DefaultLayer, HoldTap}
use Rattle.image.specs.Table.{Table}
use Rattle.layout.specs.Model.{Queued, Model, Waiting, Idle, Waits, Acted, Done, age_of, same, still, marked, after, with_states, with_waiting, with_queue}
use Rattle.layout.specs.Actions.{is_release, find, do_action, decided}
use Rattle.layout.specs.declared.active.State.{State}
use Rattle.layout.specs.declared.active.State.TheVariants.{NormalKey, LayerModifier}
use Rattle.layout.specs.declared.notes.Way.{Way}
use Rattle.layout.specs.declared.notes.Way.TheVariants.{Tap, Hold}

-- the held Layer numbers
unfoldable pub held : List State → List ℕ
held [] = []
held (NormalKey k c ∷ s) = held s
held (LayerModifier v c ∷ s) = v ∷ held s

unfoldable pub sum : List ℕ → ℕ
sum [] = 0
sum (x ∷ xs) = x + sum xs

-- the current layer: Layout, first paragraph
unfoldable pub current : ℕ → List ℕ → ℕ
current base [] = base
current base (x ∷ xs) = sum (x ∷ xs)

-- Trans: Layout, first paragraph. On the default layer it finds itself again, and running a Trans is nothing
abbrev pub or_default : Action → Action → Action
or_default Trans b = b
-- every other action is its own, a NoOp outside the table too
or_default NoOp b = NoOp
or_default (KeyCode k) b = KeyCode k
or_default (MultipleKeyCodes ks) b = MultipleKeyCodes ks
or_default (MultipleActions actions) b = MultipleActions actions
or_default (Layer v) b = Layer v
or_default (DefaultLayer v) b = DefaultLayer v
or_default (HoldTap i timeout hold tap) b = HoldTap i timeout hold tap

-- the action of a press; a cell outside the table is NoOp
unfoldable pub pressed : Table → Coord → Model → Action
pressed T c l = or_default (T.cell (current l.base (held l.states)) c.i c.j) (T.cell l.base c.i c.j)

abbrev pub coord_in : State → Coord
coord_in (NormalKey k c) = c
coord_in (LayerModifier v c) = c

-- a state that a release of the coordinates does not drop
abbrev pub stays : Coord → State → Bool
stays c s = not (same c (coord_in s))

-- what a release leaves: Layout, the third item
unfoldable pub release : Coord → List State → List State
release c s = keep (stays c) s

-- an action runs at its coordinates: the first of their releases that is queued, if any, is what it may find
abbrev pub run_at : Table → Action → Coord → ℕ → Model → Done
run_at T action c delay l = do_action action T.layers c delay (find c l.queue) l

-- an event is acted on: Layout, the third item. The age of a press is its action's delay
unfoldable pub act : Table → Event → ℕ → Model → Done
act T (Release i j) age l = marked (Acted (Release i j)) (still (with_states (release (record { i = i; j = j }) l.states) l))
act T (Press i j) age l =
    let c : Coord = record { i = i; j = j } in
    marked (Acted (Press i j)) (run_at T (pressed T c l) c age l)

-- what waits becomes hold, or tap
unfoldable pub into : Way → Table → Waiting → Model → Done
into way T Idle l = still l
into way T (Waits c left i hold tap) l = decided way hold tap T.layers c (find c l.queue) l

abbrev pub into_hold : Table → Waiting → Model → Done
into_hold = into Hold

abbrev pub into_tap : Table → Waiting → Model → Done
into_tap = into Tap

abbrev pub releases : Event → Waiting → Bool
releases e Idle = false
releases e (Waits c left i hold tap) = is_release c e

-- event, its end: what waits for this release becomes tap. The queue keeps the release, which later drops the states
unfoldable pub released : Table → Event → Model → Done
released T e l = cond (releases e l.waiting) (into_tap T l.waiting l) (still l)

-- event, with a full queue: what waits, then the event that left
unfoldable pub overflow : Table → Queued → Model → Done
overflow T q l = let r = into_hold T l.waiting l in after r (act T q.event (age_of q) r.layout)

-- event, its start: the new event stands last
abbrev pub appended : Event → List Queued → List Queued
appended e q = q ++ (record { event = e; since = 0 } ∷ [])

unfoldable pub entered : Table → Event → List Queued → Model → Done
entered T e [] l = still (with_queue (appended e []) l)
entered T e (q ∷ qs) l =
    cond (ltb (length (q ∷ qs)) 16)
    (still (with_queue (appended e (q ∷ qs)) l))
    (overflow T q (with_queue (appended e qs) l))

unfoldable pub event : Table → Event → Model → Done
event T e l = let r = entered T e l.queue l in after r (released T e r.layout)

-- tick, its start: the ages
abbrev pub older_one : Queued → Queued
older_one q = record { event = q.event; since = min (age_of q + 1) 65535 }

abbrev pub older : List Queued → List Queued
older q = map older_one q

-- tick, where something waits with so many ticks left
abbrev pub tick_wait : Table → ℕ → Model → Done
tick_wait T zero l = into_hold T l.waiting l
tick_wait T (suc k) l = still l

-- tick, after the ages: what waits comes first, and the queue only where nothing waits
unfoldable pub ticked : Table → Waiting → List Queued → Model → Done
ticked T (Waits c left i hold tap) q l = tick_wait T (left - 1) (with_waiting (Waits c (left - 1) i hold tap) (with_queue q l))
ticked T Idle [] l = still (with_queue [] l)
ticked T Idle (q ∷ qs) l = act T q.event (age_of q) (with_queue qs l)

unfoldable pub tick : Table → Model → Done
tick T l = ticked T l.waiting (older l.queue) l

-- the key codes in state order
unfoldable pub codes : List State → List ℕ
codes [] = []
codes (NormalKey k c ∷ s) = k ∷ codes s
codes (LayerModifier v c ∷ s) = codes s
