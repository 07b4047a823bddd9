-- Laws of the parts of a layout: their lengths, and one part put in. Assumes nothing.
--     new-queue, append-room      a queue of a list, and one event more
--     new-states, new-waiting     the active part with one part put in, and the move that it is
use mathlib.Core.Path.{◌≡◌, refl, sym, ap, ◌∙◌}
use mathlib.Core.List.{List, [], ◌∷◌, ◌++◌, append-nil, map}
use Prim.Native.Nat.{ℕ, suc, ◌+◌, ◌-◌, ◌≤◌, ◌<◌}
use native.Mathlib.Omega.{arith}
use lib.ListN.{length, take, drop, set, get_or, replicate, length-take, length-drop, length-map, drop_of_length-le}
use lib.Seq.{length-take-le, append_snoc, set_at}
use Rattle.event.specs.declared.Event.{Event}
use Rattle.layout.specs.Model.{Queued, Model, with_states}
use Rattle.layout.specs.Steps.{appended, older_one, older}
use Rattle.layout.specs.Packed.{pad, no_state, no_stacked, waiting_of, queued_of, stacked_of, list_in, model_of}
use Rattle.layout.specs.Order.{Tidy, Lined}
use Rattle.layout.specs.Inside.{Moves}
use Rattle.layout.specs.declared.active.State.{State}
use Rattle.layout.specs.declared.active.Active.{Active}
use Rattle.layout.specs.declared.queue.Stacked.{Stacked}
use Rattle.layout.specs.declared.queue.Queue.{Queue}
use Rattle.layout.proofs.Pads.{held_more, take_pad, length_pad, clean_rest, take_all, map-append}

pub tidy_length : (active : Active) → Tidy active → length active.states ≡ 64
tidy_length active t = rw (← t.clean) (length_pad 64 no_state (take active.len active.states) (simp length-take (omega (arith, t.few))))

pub lined_length : (queue : Queue) → Lined queue → length queue.stacked ≡ 16
lined_length queue t = rw (← t.clean) (length_pad 16 no_stacked (take queue.queued queue.stacked) (simp length-take (omega (arith, t.few))))

pub held_length : (active : Active) → Tidy active → length (take active.len active.states) ≡ active.len
held_length active t = length-take-le active.len active.states (omega (arith, t.few, tidy_length active t))

pub list_length : (queue : Queue) → Lined queue → length (list_in queue) ≡ queue.queued
list_length queue t = length-map (take queue.queued queue.stacked) queued_of ∙ length-take-le queue.queued queue.stacked (omega (arith, t.few, lined_length queue t))

-- a queue of so many events in an array
pub new_queue : (l arr : List Stacked) (k : ℕ) → length l ≤ 16 → k ≡ length l → arr ≡ pad 16 no_stacked l
    → Lined (record { stacked = arr; queued = k }) × (map queued_of (take k arr) ≡ map queued_of l)
new_queue l arr k h ek ea =
    let is : take k arr ≡ l = rw (ek, ea) (take_pad 16 no_stacked l) in
    (record { few = omega arith; clean = ap (pad 16 no_stacked) is ∙ sym ea }, ap (map queued_of) is)

-- each one tick older, by its model; and the oldest gone
abbrev pub older_in : Stacked → Stacked
older_in s = stacked_of (older_one (queued_of s))

pub older_list : (l : List Stacked) → map queued_of (map older_in l) ≡ older (map queued_of l)
older_list [] = refl
older_list (s ∷ l) = ap (λ (x : List Queued). older_one (queued_of s) ∷ x) (older_list l)

pub rest_list : (l : List Stacked) → map queued_of (drop 1 l) ≡ drop 1 (map queued_of l)
rest_list [] = refl
rest_list (s ∷ l) = refl

-- the active part with one part of it put in
module _ (img : List ℕ) where
  pub new_states : (active : Active) (l arr : List State) (k : ℕ) → length l ≤ 64 → k ≡ length l → arr ≡ pad 64 no_state l
      → Moves img active (record { default_layer = active.default_layer; states = arr; len = k; waiting = active.waiting }) (with_states l)
  new_states active l arr k h ek ea =
      let is : take k arr ≡ l = rw (ek, ea) (take_pad 64 no_state l) in
      record {
        tidy = record { few = omega arith; clean = ap (pad 64 no_state) is ∙ sym ea };
        is = λ q. ap (λ (x : List State). record { base = active.default_layer; states = x; waiting = waiting_of img active.waiting; queue = q }) is;
      }

  pub moves_as : {a b : Active} {f g : Model → Model} → Moves img a b f → ((q : List Queued) → f (model_of img a q) ≡ g (model_of img a q)) → Moves img a b g
  moves_as d e = record { tidy = d.tidy; is = λ q. d.is q ∙ e q }

-- an event more where there is room
pub append_room : (queue : Queue) (e : Event) → Lined queue → queue.queued < 16
    → let longer : Queue = record { stacked = set queue.stacked queue.queued (record { event = e; since = 0 }); queued = queue.queued + 1 } in
    Lined longer × (list_in longer ≡ appended e (list_in queue))
append_room queue e t h =
    let new : Stacked = record { event = e; since = 0 } in
    let l = take queue.queued queue.stacked in
    let long = length-take-le queue.queued queue.stacked (omega (arith, t.few, lined_length queue t)) in
    let m = held_more 16 no_stacked l new queue.stacked queue.queued h (sym long) (sym t.clean) in
    let n = new_queue (l ++ (new ∷ [])) (set queue.stacked queue.queued new) (queue.queued + 1) (omega (arith, m.0)) m.0 m.1 in
    (n.0, n.1 ∙ map-append queued_of l (new ∷ []))

-- every event one tick older: the new events, made up to the last of them, are put in front of the unused places
pub aged : (queue : Queue) (new : List Stacked) (k : ℕ) → Lined queue → length (take queue.queued queue.stacked) ≤ k
    → new ≡ map older_in (take k (take queue.queued queue.stacked)) ++ drop k (take queue.queued queue.stacked)
    → let grown : Queue = record { stacked = new ++ drop queue.queued queue.stacked; queued = queue.queued } in
    Lined grown × (list_in grown ≡ older (list_in queue))
aged queue new k t done e =
    let n = queue.queued in
    let used = take n queue.stacked in
    let full = lined_length queue t in
    let count : length (map older_in used) ≡ n = rw length-map (length-take-le n queue.stacked (omega (arith, t.few))) in
    let none = drop_of_length-le used {i = k} done in
    let all : new ≡ map older_in used = e ∙ rw (take_all used k done, none) (append-nil (map older_in used)) in
    let rest = clean_rest 16 n no_stacked queue.stacked (omega (arith, t.few)) t.clean in
    let q = new_queue (map older_in used) (new ++ drop n queue.stacked) n (omega (arith, t.few)) (sym count) (rw (all, rest, count)) in
    (q.0, q.1 ∙ older_list used)

take_first : {A : Type 0} (l : List A) (d : A) → 0 < length l → take 1 l ≡ get_or l 0 d ∷ []
take_first [] d h = absurd (omega arith)
take_first (x ∷ l) d h = refl

-- the oldest event turned behind the others, and its place then unused
pub shifted : (queue : Queue) (new : List Stacked) → Lined queue → 0 < queue.queued → new ≡ drop 1 (take queue.queued queue.stacked) ++ take 1 (take queue.queued queue.stacked)
    → let rest : Queue = record { stacked = set (new ++ drop queue.queued queue.stacked) (queue.queued - 1) no_stacked; queued = queue.queued - 1 } in
    Lined rest × (list_in rest ≡ drop 1 (list_in queue))
shifted queue new t some e =
    let n = queue.queued in
    let used = take n queue.stacked in
    let l = drop 1 used in
    let first = get_or used 0 no_stacked in
    let full = lined_length queue t in
    let long : length used ≡ n = length-take-le n queue.stacked (omega (arith, t.few)) in
    let count : length l ≡ n - 1 = length-drop 1 used ∙ ap (λ (k : ℕ). k - 1) long in
    let rest = clean_rest 16 n no_stacked queue.stacked (omega (arith, t.few)) t.clean in
    let one : 16 - (n - 1) ≡ suc (16 - n) = omega (arith, t.few) in
    let q = new_queue l (set (new ++ drop n queue.stacked) (n - 1) no_stacked) (n - 1) (omega (arith, t.few)) (sym count)
    (rw (e, take_first used no_stacked (omega arith), rest, append_snoc, count, one) (set_at l first (replicate (16 - n) no_stacked) no_stacked (n - 1) count)) in
    (q.0, q.1 ∙ rest_list used)
