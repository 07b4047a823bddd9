-- The live tie is hold, and the queued tie is tap: by the tie of the public calls to the steps, of the layout as lists.
-- Assumes nothing.
use Rattle.std.specs.Prelude.{None, Some, Ok}
use Prim.Native.Nat.{ℕ, zero, suc, ◌+◌, ◌-◌, ◌≤◌, ◌<◌}
use mathlib.Core.Path.{◌≡◌, refl, sym, ap, ap₂, subst, ◌∙◌}
use mathlib.Core.Bool.{true, false, cond, ◌&&◌}
use mathlib.Core.List.{List, [], ◌∷◌, ◌++◌, append-nil}
use native.Mathlib.Omega.{arith}
use native.Mathlib.Nat.{zero-add}
use borrow.Author.Tests.{le-leb, lt-leb}
use lib.Dec.{leb}
use lib.ListN.{length}
use Rattle.lists.proofs.Laws.{both_true}
use Rattle.event.specs.declared.Coord.{Coord}
use Rattle.event.specs.declared.Event.{Event}
use Rattle.event.specs.declared.Event.TheVariants.{Release, Press}
use Rattle.image.specs.Check.{check_of}
use Rattle.image.specs.Proper.{closed, holdable, proper}
use Rattle.image.specs.Sound.{Sound}
use Rattle.image.specs.Table.{Table, table_of, times_of}
use Rattle.image.specs.Tree.{Action, HoldTap}
use Rattle.image.specs.declared.words.Shape.{Shape}
use Rattle.image.proofs.Accepted.{accepted}
use Rattle.layout.specs.Actions.{is_release, find, AtOnce, ruling, begins, do_action, decided}
use Rattle.layout.specs.Model.{Queued, Model, Waiting, Idle, Waits, Done, age_of, same, still, with_waiting, with_queue}
use Rattle.layout.specs.Packed.{waiting_in, pack}
use Rattle.layout.specs.Notes.{decisions}
use Rattle.layout.specs.Steps.{event, entered, released, older_one, older, tick, ticked, into, act, pressed}
use Rattle.layout.specs.Reach.{waits_in}
use Rattle.layout.specs.declared.notes.Way.{Way}
use Rattle.layout.specs.declared.notes.Way.TheVariants.{Tap, Hold}
use Rattle.layout.specs.declared.layout.Layout.{Layout}
use Rattle.layout.proofs.Running.{kept, pressed_proper}
use Rattle.layout.proofs.Lawful.{Lawful}
use Rattle.layout.proofs.Limits.{Calm, proper_cells, calm_held}
use Rattle.layout.proofs.Reach.{reached_packed, unpack_pack}
use Rattle.demands.specs.Runs.{Call, Tick, Enter, call, run, ticks}
use Rattle.demands.specs.Public.{Lent, calls_of, ticks_on, Roomy, replies, last_layout}
use Rattle.demands.specs.Demand3.{AtRest}
use Rattle.demands.specs.Ties.{decided_by, Keyed, press_on, Live, LiveTie, press_and_release, Behind, QueuedTie}
use Rattle.demands.proofs.Calls.{same_refl}
use Rattle.demands.proofs.Answers.{names_decisions}
use Rattle.demands.proofs.OnLists.{run_append}
use Rattle.demands.proofs.Replies.{lawful_run, tied, ticks_are}

less : (m : ℕ) → suc m - 1 ≡ m
less m = omega arith

-- the hold and the tap of what a press runs are not open
shut : (img : List ℕ) → Sound img → (l : Model) (c : Coord) (n t : ℕ) (hold tap : Action) → pressed (table_of img) c l ≡ HoldTap n t hold tap → (closed hold ≡ true) × (closed tap ≡ true)
unfolding proper holdable
shut img s l c n t hold tap e =
    let m = times_of img in
    let all = pressed_proper (table_of img) m (proper_cells img s) c l in
    let r : proper (HoldTap n t hold tap) m ≡ true = sym (ap (λ (a : Action). proper a m) e) ∙ all in
    both_true (closed hold) (closed tap) (both_true (leb t m.first) (closed hold && closed tap) r).1

-- the queue after so many ticks
older_by : ℕ → Queued → Queued
older_by zero x = x
older_by (suc m) x = older_by m (older_one x)

aged : ℕ → List Queued → List Queued
aged zero q = q
aged (suc m) q = aged m (older q)

aged_cons : (m : ℕ) (x : Queued) (q : List Queued) → aged m (x ∷ q) ≡ older_by m x ∷ aged m q
unfolding aged older_by
aged_cons zero x q = refl
aged_cons (suc m) x q = aged_cons m (older_one x) (older q)

aged_nil : (m : ℕ) → aged m [] ≡ []
unfolding aged
aged_nil zero = refl
aged_nil (suc m) = aged_nil m

older_event : (m : ℕ) (x : Queued) → (older_by m x).event ≡ x.event
unfolding older_by
older_event zero x = refl
older_event (suc m) x = older_event m (older_one x)

older_age : (m : ℕ) (x : Queued) → age_of x + m ≤ 65535 → age_of (older_by m x) ≡ age_of x + m
unfolding older_by
older_age zero x h = omega arith
older_age (suc m) x h = older_age m (older_one x) (omega arith) ∙ omega arith

-- nothing waits and nothing is queued; a key waits; and an event that has just come
abbrev resting : Model → Model
resting l = record { base = l.base; states = l.states; waiting = Idle; queue = [] }

abbrev waits : Model → Coord → ℕ → Action → Action → ℕ → List Queued → Model
waits l d n hold tap left q = record { base = l.base; states = l.states; waiting = Waits d left n hold tap; queue = q }

abbrev new_one : Event → Queued
new_one e = record { event = e; since = 0 }

-- the wait ended, in hold
record Ended (d : Coord) (q : List Queued) (r : Done) : Type 0 where
  queue : r.layout.queue ≡ q
  idle : r.layout.waiting ≡ Idle
  decided : decisions r.marks ≡ (d, Hold) ∷ []

module _ (t : Table) (l : Model) (d : Coord) (n : ℕ) (hold tap : Action) where
  -- ticks that do not end the wait, and ticks that do
  waits_on : (m left r : ℕ) (q : List Queued) → left ≡ r + m → run t (ticks m) (waits l d n hold tap (suc left) q) ≡ still (waits l d n hold tap (suc r) (aged m q))
  unfolding run ticks call tick ticked aged
  waits_on zero left r q e = let z : left ≡ r = omega arith in ap (λ (x : ℕ). still (waits l d n hold tap (suc x) q)) z
  waits_on (suc m) zero r q e = absurd (omega arith)
  waits_on (suc m) (suc left) r q e = rw (less (suc left), zero-add) (waits_on m left r (older q) (omega arith))

  ends : closed hold ≡ true → (m : ℕ) (q : List Queued) → Ended d (aged (suc m) q) (run t (ticks (suc m)) (waits l d n hold tap (suc m) q))
  unfolding run ticks call tick ticked into decided decisions aged
  ends sh zero q =
      let y = kept hold t.layers d 0 (find d (older q)) (with_waiting Idle (waits l d n hold tap 0 (older q))) sh in
      record { queue = y.queue; idle = y.waiting; decided = rw y.marks }
  ends sh (suc m) q = rw (less (suc m), zero-add) (ends sh m (older q))

  -- a press acted on at its first tick, with a delay of one
  begins_live : (k m : ℕ) → pressed t d (resting l) ≡ HoldTap n (suc (suc k)) hold tap
      → decisions (run t (Enter (Press d.i d.j) ∷ ticks (suc m)) (resting l)).marks ≡ decisions (run t (ticks m) (waits l d n hold tap (suc k) [])).marks
  unfolding decisions run ticks call event entered released tick ticked act find ruling do_action
  begins_live k m e = rw (e, less (suc k)) refl

  live_before : (k : ℕ) → pressed t d (resting l) ≡ HoldTap n (suc (suc k)) hold tap → decisions (run t (Enter (Press d.i d.j) ∷ ticks (suc k)) (resting l)).marks ≡ []
  unfolding decisions
  live_before k e = begins_live k k e ∙ ap (λ (r : Done). decisions r.marks) (waits_on k k 0 [] (omega arith))

  live_at : (k : ℕ) → closed hold ≡ true → pressed t d (resting l) ≡ HoldTap n (suc (suc k)) hold tap
      → decisions (run t (Enter (Press d.i d.j) ∷ ticks (suc (suc k))) (resting l)).marks ≡ (d, Hold) ∷ []
  live_at k sh e = begins_live k (suc k) e ∙ (ends sh k []).decided

  -- another key is pressed and released meanwhile: both are queued when the wait ends
  queues : (c : Coord) → same d c ≡ false → closed hold ≡ true → (g m : ℕ)
      → let k = (run t (Enter (Press c.i c.j) ∷ (ticks g ++ (Enter (Release c.i c.j) ∷ ticks (suc m)))) (waits l d n hold tap (suc (m + g)) [])).layout in
      (k.queue ≡ older_by (suc m) (older_by g (new_one (Press c.i c.j))) ∷ older_by (suc m) (new_one (Release c.i c.j)) ∷ []) × (k.waiting ≡ Idle)
  unfolding run call event entered released
  queues c apart sh g m =
      let p = new_one (Press c.i c.j) in
      let r = new_one (Release c.i c.j) in
      let wait = waits l d n hold tap in
      let rest = Enter (Release c.i c.j) ∷ ticks (suc m) in
      let first : (run t (ticks g ++ rest) (wait (suc (m + g)) (p ∷ []))).layout ≡ (run t rest (wait (suc m) (older_by g p ∷ []))).layout =
      run_append t (ticks g) rest (wait (suc (m + g)) (p ∷ []))
      ∙ ap (λ (x : Done). (run t rest x.layout).layout) (waits_on g (m + g) m (p ∷ []) refl)
      ∙ ap (λ (q : List Queued). (run t rest (wait (suc m) q)).layout) (aged_cons g p [] ∙ ap (λ (q : List Queued). older_by g p ∷ q) (aged_nil g)) in
      let second : (run t rest (wait (suc m) (older_by g p ∷ []))).layout ≡ (run t (ticks (suc m)) (wait (suc m) (older_by g p ∷ r ∷ []))).layout = rw apart in
      let y = ends sh m (older_by g p ∷ r ∷ []) in
      let two : aged (suc m) (older_by g p ∷ r ∷ []) ≡ older_by (suc m) (older_by g p) ∷ older_by (suc m) r ∷ [] =
      aged_cons (suc m) (older_by g p) (r ∷ []) ∙ ap (λ (q : List Queued). older_by (suc m) (older_by g p) ∷ q) (aged_cons (suc m) r [] ∙ ap (λ (q : List Queued). older_by (suc m) r ∷ q) (aged_nil (suc m))) in
      (ap (λ (k : Model). k.queue) (first ∙ second) ∙ y.queue ∙ two, ap (λ (k : Model). k.waiting) (first ∙ second) ∙ y.idle)

-- a hold-tap that a queued release decides makes that one decision
decides_now : (w : Way) (c : Coord) (k : Model) (tapped held : Done) → tapped.marks ≡ [] → held.marks ≡ [] → decisions (begins (AtOnce w) c k tapped held).marks ≡ (c, w) ∷ []
unfolding decisions
decides_now Tap c k tapped held et eh = rw et
decides_now Hold c k tapped held et eh = rw eh

module _ (t : Table) (k : Model) (c : Coord) (n timeout : ℕ) (hold tap : Action) (e : pressed t c k ≡ HoldTap n timeout hold tap) (sh : closed hold ≡ true) (st : closed tap ≡ true) where
  keyed : (q : List Queued) → pressed t c (with_queue q k) ≡ HoldTap n timeout hold tap
  unfolding pressed
  keyed q = e

  found : (y : Queued) → y.event ≡ Release c.i c.j → find c (y ∷ []) ≡ Some (age_of y)
  unfolding find
  found y ey = ap (λ (x : Event). cond (is_release c x) (Some (age_of y)) None) ey ∙ rw (same_refl c)

  -- an old press is acted on, its release behind it
  acts_queued : (y : Queued) → y.event ≡ Release c.i c.j → (age : ℕ) → decisions (act t (Press c.i c.j) age (with_queue (y ∷ []) k)).marks ≡ (c, cond (leb (age - age_of y) timeout) Tap Hold) ∷ []
  unfolding act do_action decisions ruling
  acts_queued y ey age =
      let l = with_queue (y ∷ []) k in
      rw (keyed (y ∷ []), found y ey)
      (decides_now (cond (leb (age - age_of y) timeout) Tap Hold) c (with_waiting (Waits c (timeout - age) n hold tap) l) (do_action tap t.layers c 0 (Some (age_of y)) (with_waiting Idle l)) (do_action hold t.layers c 0 (Some (age_of y)) (with_waiting Idle l))
      (kept tap t.layers c 0 (Some (age_of y)) (with_waiting Idle l) st).marks (kept hold t.layers c 0 (Some (age_of y)) (with_waiting Idle l) sh).marks)

  ticks_queued : (x y : Queued) → k.waiting ≡ Idle → k.queue ≡ x ∷ y ∷ [] → x.event ≡ Press c.i c.j → y.event ≡ Release c.i c.j
      → decisions (tick t k).marks ≡ (c, cond (leb (age_of (older_one x) - age_of (older_one y)) timeout) Tap Hold) ∷ []
  unfolding tick ticked
  ticks_queued x y idle queue ex ey =
      ap₂ (λ (w : Waiting) (q : List Queued). decisions (ticked t w (older q) k).marks) idle queue
      ∙ ap (λ (z : Event). decisions (act t z (age_of (older_one x)) (with_queue (older_one y ∷ []) k)).marks) ex
      ∙ acts_queued (older_one y) ey (age_of (older_one x))

-- what a press runs does not depend on what waits and what is queued
key_rests : (t : Table) (l : Model) (c : Coord) (a : Action) → pressed t c l ≡ a → pressed t c (resting l) ≡ a
unfolding pressed
key_rests t l c a e = e

-- of the public calls
module _ (img : List ℕ) (shape : Shape) (e : check_of img ≡ Ok shape) (l : Model) (w : Lawful img l) where
  decides_as : (ks : List Lent) → Roomy ks → decided_by img (pack l) ks ≡ decisions (run (table_of img) (calls_of ks) l).marks
  decides_as ks h = names_decisions img ks (pack l) ∙ ap decisions (tied img shape e ks l w h).marks

  sound : Sound img
  sound = (accepted img shape e).1

  keyed_as : (c : Coord) (timeout : ℕ) (x : Keyed img (pack l) c timeout) → pressed (table_of img) c l ≡ HoldTap x.number timeout x.hold x.tap
  keyed_as c timeout x = sym (ap (pressed (table_of img) c) (unpack_pack img l w)) ∙ x.is

  idle_of : (x : Waiting) → waiting_in x ≡ None → x ≡ Idle
  idle_of Idle h = refl
  idle_of (Waits d left n a b) h = let z : ◌≡◌ {A = ℕ} 0 1 = cc in absurd (omega arith)

  empty_of : (q : List Queued) → length q ≡ 0 → q ≡ []
  empty_of [] h = refl
  empty_of (x ∷ q) h = absurd (omega arith)

  live : AtRest (pack l) → (c : Coord) (timeout : ℕ) → 2 ≤ timeout → Keyed img (pack l) c timeout → Live img (pack l) c timeout
  live r c zero two x = absurd (omega arith)
  live r c (suc zero) two x = absurd (omega arith)
  live r c (suc (suc k)) two x =
      let iw : l.waiting ≡ Idle = idle_of l.waiting r.idle in
      let iq : l.queue ≡ [] = empty_of l.queue r.empty in
      let is : l ≡ resting l = λ i. record { base = l.base; states = l.states; waiting = iw i; queue = iq i } in
      let key = key_rests (table_of img) l c _ (keyed_as c (suc (suc k)) x) in
      let sh = (shut img sound (resting l) c x.number (suc (suc k)) x.hold x.tap key).0 in
      let go : (b : List ℕ) (bs : List (List ℕ)) (m : ℕ) → Roomy (press_on c b bs) → length bs ≡ m → decided_by img (pack l) (press_on c b bs) ≡ decisions (run (table_of img) (Enter (Press c.i c.j) ∷ ticks m) (resting l)).marks =
      λ b bs m h n.
      decides_as (press_on c b bs) h
      ∙ ap (λ (ks : List Call). decisions (run (table_of img) (Enter (Press c.i c.j) ∷ ks) l).marks) (ticks_are bs ∙ ap ticks n)
      ∙ ap (λ (y : Model). decisions (run (table_of img) (Enter (Press c.i c.j) ∷ ticks m) y).marks) is in
      record {
        before = λ b bs h n. go b bs (suc k) h (omega arith) ∙ live_before (table_of img) l c x.number x.hold x.tap k key;
        at = λ b bs h n. go b bs (suc (suc k)) h n ∙ live_at (table_of img) l c x.number x.hold x.tap k sh key;
      }

  -- the tick after a wait that ended, with a press and its release g ticks apart in the queue
  tie : (c : Coord) (g m : ℕ) → g + suc m < 65535 → l.waiting ≡ Idle
      → l.queue ≡ older_by (suc m) (older_by g (new_one (Press c.i c.j))) ∷ older_by (suc m) (new_one (Release c.i c.j)) ∷ []
      → (timeout : ℕ) → Keyed img (pack l) c timeout → Behind img (pack l) c g timeout
  unfolding Roomy run call ticks
  tie c g m few idle queue timeout key =
      let p = new_one (Press c.i c.j) in
      let r = new_one (Release c.i c.j) in
      let x = older_by (suc m) (older_by g p) in
      let y = older_by (suc m) r in
      let is = keyed_as c timeout key in
      let sh = shut img sound l c key.number timeout key.hold key.tap is in
      let young : age_of (older_by g p) ≡ g = older_age g p (omega arith) ∙ omega arith in
      let ax : age_of x ≡ g + suc m = older_age (suc m) (older_by g p) (omega arith) ∙ omega arith in
      let ay : age_of y ≡ suc m = older_age (suc m) r (omega arith) ∙ omega arith in
      let go : (b : List ℕ) → 64 ≤ length b → decided_by img (pack l) (ticks_on (b ∷ [])) ≡ (c, cond (leb (age_of (older_one x) - age_of (older_one y)) timeout) Tap Hold) ∷ [] =
      λ b h.
      decides_as (ticks_on (b ∷ [])) (h, tt)
      ∙ ap decisions (append-nil (tick (table_of img) l).marks)
      ∙ ticks_queued (table_of img) l c key.number timeout key.hold key.tap is sh.0 sh.1 x y idle queue
      (older_event (suc m) (older_by g p) ∙ older_event g p) (older_event (suc m) r) in
      record {
        at = λ b h eg. go b h ∙ rw (le-leb (age_of (older_one x) - age_of (older_one y)) timeout (omega arith));
        past = λ b h eg. go b h ∙ rw (lt-leb (age_of (older_one x) - age_of (older_one y)) timeout (omega arith));
      }

-- the calls of a press, ticks, its release, and ticks
calls_after : (gap : List (List ℕ)) (ks : List Lent) → calls_of (ticks_on gap ++ ks) ≡ ticks (length gap) ++ calls_of ks
unfolding ticks
calls_after [] ks = refl
calls_after (b ∷ gap) ks = ap (λ (x : List Call). Tick ∷ x) (calls_after gap ks)

module _ (img : List ℕ) (shape : Shape) (e : check_of img ≡ Ok shape) (l : Model) (w : Lawful img l) where
  behind : (d : Coord) (left n : ℕ) (hold tap : Action) → l.waiting ≡ Waits d left n hold tap → l.queue ≡ [] → (c : Coord) → same d c ≡ false
      → (p : List ℕ) (gap : List (List ℕ)) (r : List ℕ) (rest : List (List ℕ)) → Roomy (press_and_release c p gap r rest) → left ≡ length gap + length rest → 1 ≤ length rest → left < 65535
      → let after = last_layout (pack l) (replies img (press_and_release c p gap r rest) (pack l)) in
      (timeout : ℕ) → Keyed img after c timeout → Behind img after c (length gap) timeout
  behind d left n hold tap ew eq c apart p gap r [] roomy sum one few timeout key = absurd (omega arith)
  behind d left n hold tap ew eq c apart p gap r (b ∷ bs) roomy sum one few timeout key =
      let t = table_of img in
      let ks = press_and_release c p gap r (b ∷ bs) in
      let g = length gap in
      let m = length bs in
      let calls = Enter (Press c.i c.j) ∷ (ticks g ++ (Enter (Release c.i c.j) ∷ ticks (suc m))) in
      let lefts : left ≡ suc (m + g) = omega arith in
      let start = waits l d n hold tap (suc (m + g)) [] in
      let from : l ≡ start = λ i. record { base = l.base; states = l.states; waiting = (ew ∙ ap (λ (x : ℕ). Waits d x n hold tap) lefts) i; queue = eq i } in
      let same-calls : calls_of ks ≡ calls = ap (λ (x : List Call). Enter (Press c.i c.j) ∷ x) (calls_after gap _ ∙ ap (λ (x : List Call). ticks g ++ (Enter (Release c.i c.j) ∷ x)) (ticks_are (b ∷ bs))) in
      let k = (run t calls start).layout in
      let is : (run t (calls_of ks) l).layout ≡ k = ap₂ (λ (x : List Call) (y : Model). (run t x y).layout) same-calls from in
      let lawful : Lawful img k = subst (Lawful img) is (lawful_run img shape e (calls_of ks) l w) in
      let after : last_layout (pack l) (replies img ks (pack l)) ≡ pack k = (tied img shape e ks l w roomy).layout ∙ ap pack is in
      let calm : Calm (Waits d left n hold tap) = subst Calm (ap (λ (x : Model). x.waiting) (unpack_pack img l w) ∙ ew) (calm_held img (waits_in (pack l)) (accepted img shape e).1) in
      let y = queues t l d n hold tap c apart calm.0 g m in
      subst (λ (lay : Layout). Behind img lay c g timeout) (sym after)
      (tie img shape e k lawful c g m (omega arith) y.1 y.0 timeout (subst (λ (lay : Layout). Keyed img lay c timeout) after key))

pub queued_tie : QueuedTie
unfolding QueuedTie
queued_tie img shape e lay reached =
    let q = reached_packed img lay (accepted img shape e).1 reached in
    let back = sym (unpack_pack img q.model q.lawful) in
    rw q.is
    (λ d left h. behind img shape e q.model q.lawful d left h.number h.hold h.tap (ap (λ (x : Model). x.waiting) back ∙ h.is) (ap (λ (x : Model). x.queue) back ∙ h.empty))

pub live_tie : LiveTie
unfolding LiveTie
live_tie img shape e lay reached rest c timeout two x =
    let p = reached_packed img lay (accepted img shape e).1 reached in
    rw p.is (live img shape e p.model p.lawful (rw p.is at rest) c timeout two (rw p.is at x))
