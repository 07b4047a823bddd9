-- Laws of effects and of the steps that they come by. Assumes nothing.
--     grown-more, grown     the states that were added, put behind others
--     new-wait, new-base, settled, push-room, push-full     an effect with one part put in, and the step that it is
--     effected-as, effected-then, effected-begun     the same step by another name; one step after another; a hold-tap begun
--     Left     where a loop over a list of steps stands: what is done and what is left make the whole
--     did_effect     a run with what its effect left
use mathlib.Core.Path.{◌≡◌, refl, sym, ap, ◌∙◌}
use mathlib.Core.List.{List, ◌∷◌, [], ◌++◌, append_assoc, append-nil, map}
use Prim.Native.Nat.{ℕ, ◌+◌, ◌≤◌, ◌<◌}
use native.Mathlib.Numerals.{add-one}
use native.Mathlib.Omega.{arith}
use lib.ListN.{length, take, set, get_or, length-append, length-map}
use lib.Seq.{length-take-le, take-suc, take-suc-set}
use borrow.Author.Tests.{lt-ltb, le-ltb}
use Rattle.event.specs.declared.Coord.{Coord}
use Rattle.layout.specs.Model.{Queued, Model, Waiting, Idle, Begun, Decided, Done, still, lost, marked, after, with_base, with_states, with_waiting}
use Rattle.layout.specs.Actions.{push}
use Rattle.layout.specs.Packed.{pad, no_state, states_in, waiting_of, model_of}
use Rattle.layout.specs.Notes.{noted, noted_marks, note_decision, note_dropped}
use Rattle.layout.specs.Order.{Tidy}
use Rattle.layout.specs.Inside.{Did}
use Rattle.layout.specs.Room.{HasRoom}
use Rattle.layout.specs.Effects.{state_of, effect_in, Begun as BeginsSo, Effected, Grown}
use Rattle.layout.specs.declared.active.State.{State}
use Rattle.layout.specs.declared.active.WaitingState.{WaitingState}
use Rattle.std.specs.Prelude.{Option, None}
use Rattle.layout.specs.declared.notes.Way.{Way}
use Rattle.layout.specs.declared.notes.Notes.{Notes}
use Rattle.layout.specs.declared.active.Active.{Active}
use Rattle.layout.specs.declared.effect.Holds.{Holds}
use Rattle.layout.specs.declared.effect.Holds.TheVariants.{Code}
use Rattle.layout.specs.declared.effect.Effect.{Effect}
use Rattle.layout.specs.declared.progress.Progress.{Progress}
use Rattle.layout.proofs.Pads.{held_more, take_pad, map-append}
use Rattle.layout.proofs.Parts.{held_length}
use Rattle.layout.proofs.Noted.{noted_after}

-- a loop that puts states behind the first h places: the array before it, and after the step at k
pub grown_none : (active : Active) (h : ℕ) → Tidy active → h ≡ active.len → active.states ≡ pad 64 no_state (take h active.states ++ [])
grown_none active h t e = rw (e, append-nil) (sym t.clean)

pub grown_more : (c : Coord) (l arr : List State) (a : List Holds) (h k : ℕ) → length l ≡ h → h + k < 64 → k < length a → arr ≡ pad 64 no_state (l ++ map (state_of c) (take k a))
    → set arr (h + k) (state_of c (get_or a k (Code 0))) ≡ pad 64 no_state (l ++ map (state_of c) (take (k + 1) a))
grown_more c l arr a h k e lt in-a ea =
    let put = l ++ map (state_of c) (take k a) in
    let count : h + k ≡ length put = sym (rw (length-append, length-map, length-take-le k a (omega arith), e)) in
    let more : l ++ map (state_of c) (take (k + 1) a) ≡ put ++ (state_of c (get_or a k (Code 0)) ∷ []) = rw (add-one, take-suc a k (Code 0) in-a, map-append, append_assoc) in
    rw more (held_more 64 no_state put (state_of c (get_or a k (Code 0))) arr (h + k) lt count ea).1

-- the first h states, and k that were put behind them
module _ (active now : Active) (c : Coord) (a : List Holds) (h k : ℕ) (t : Tidy active) (eh : h ≡ active.len) (few : h + k ≤ 64) (long : k ≤ length a)
    (count : now.len ≡ h + k) (is : now.states ≡ pad 64 no_state (take h active.states ++ map (state_of c) (take k a))) where
  pub grown : states_in now ≡ take h active.states ++ map (state_of c) (take k a)
  grown =
      let put = take h active.states ++ map (state_of c) (take k a) in
      let first : length (take h active.states) ≡ h = rw eh (held_length active t) in
      let all : h + k ≡ length put = sym (rw (length-append, length-map, first, length-take-le k a long)) in
      rw (count, all, is) (take_pad 64 no_state put)

  pub grown_tidy : Tidy now
  grown_tidy = record { few = rw count few; clean = ap (pad 64 no_state) grown ∙ sym is }

-- a state more where there is room, and none where there is not
push_yes : (s : State) (l : Model) → length l.states < 64 → push s l ≡ still (with_states (l.states ++ (s ∷ [])) l)
unfolding push
push_yes s l h = rw (lt-ltb (length l.states) 64 h)

push_no : (s : State) (l : Model) → 64 ≤ length l.states → push s l ≡ lost l
unfolding push
push_no s l h = rw (le-ltb (length l.states) 64 h)

model_of_lem : {b b' : ℕ} {s s' : List State} {w w' : Waiting} (q : List Queued) → b ≡ b' → s ≡ s' → w ≡ w'
    → ◌≡◌ {A = Model} (record { base = b; states = s; waiting = w; queue = q }) (record { base = b'; states = s'; waiting = w'; queue = q })
model_of_lem q e f g = rw (e, f, g)

module _ (img : List ℕ) (c : Coord) where
  pub effected_nothing : (t : Effect) → Effected img c t t still
  unfolding noted_marks
  effected_nothing t = record { held = refl; is = λ s h q. refl; notes = λ s h q. refl }

  pub new_wait : (t : Effect) (w : Option WaitingState) (r : HasRoom t.held t.added t.holds)
      → Effected img c t (record { default_layer = t.default_layer; held = t.held; holds = t.holds; added = t.added; waiting = w; notes = t.notes; roomy = r }) (λ m. still (with_waiting (waiting_of img w) m))
  unfolding noted_marks
  new_wait t w r = record { held = refl; is = λ s h q. refl; notes = λ s h q. refl }

  pub new_base : (t : Effect) (v : ℕ) (r : HasRoom t.held t.added t.holds)
      → Effected img c t (record { default_layer = v; held = t.held; holds = t.holds; added = t.added; waiting = t.waiting; notes = t.notes; roomy = r }) (λ m. still (with_base v m))
  unfolding noted_marks
  new_base t v r = record { held = refl; is = λ s h q. refl; notes = λ s h q. refl }

  -- what waits waits no more, and the decision is noted
  pub settled : (t : Effect) (k : Coord) (way : Way) (notes : Notes) (r : HasRoom t.held t.added t.holds) → notes ≡ note_decision t.notes k way
      → Effected img c t (record { default_layer = t.default_layer; held = t.held; holds = t.holds; added = t.added; waiting = None; notes = notes; roomy = r }) (λ m. marked (Decided k way) (still (with_waiting Idle m)))
  unfolding noted_marks
  settled t k way notes r e = record { held = refl; is = λ s h q. refl; notes = λ s h q. e }

  pub effected_as : {t u : Effect} {f g : Model → Done} → Effected img c t u f
      → ((s : List State) (q : List Queued) → f (effect_in img c t s q) ≡ g (effect_in img c t s q)) → Effected img c t u g
  effected_as {t} d e =
      record {
        held = d.held;
        is = λ s h q. d.is s h q ∙ ap (λ (r : Done). r.layout) (e s q);
        notes = λ s h q. d.notes s h q ∙ ap (λ (r : Done). noted t.notes r) (e s q);
      }

  pub effected_begun : {t u : Effect} {f : Model → Done} (k : Coord) → Effected img c t u f → Effected img c t u (λ l. marked (Begun k) (f l))
  unfolding noted_marks
  effected_begun k d = record { held = d.held; is = d.is; notes = d.notes }

  pub effected_then : {t u v : Effect} {f g : Model → Done} → Effected img c t u f → Effected img c u v g → Effected img c t v (λ l. after (f l) (g (f l).layout))
  effected_then {t} {u} {v} {f} {g} x y =
      record {
        held = y.held ∙ x.held;
        is = λ s h q. y.is s (h ∙ sym x.held) q ∙ ap (λ (m : Model). (g m).layout) (x.is s h q);
        notes = λ s h q.
            let m = f (effect_in img c t s q) in
            y.notes s (h ∙ sym x.held) q
            ∙ ap (λ (l : Model). noted u.notes (g l)) (x.is s h q)
            ∙ ap (λ (n : Notes). noted n (g m.layout)) (x.notes s h q)
            ∙ sym (noted_after t.notes m (g m.layout));
      }

  pub record Left (start now : Effect) (all rest : Model → Done) : Type 0 where
    pub held : now.held ≡ start.held
    pub same : (s : List State) → length s ≡ start.held → (q : List Queued) → (rest (effect_in img c now s q)).layout ≡ (all (effect_in img c start s q)).layout
    pub notes : (s : List State) → length s ≡ start.held → (q : List Queued) → noted now.notes (rest (effect_in img c now s q)) ≡ noted start.notes (all (effect_in img c start s q))

  pub left_start : (t : Effect) (f : Model → Done) → Left t t f f
  left_start t f = record { held = refl; same = λ s h q. refl; notes = λ s h q. refl }

  pub left_step : {o t u : Effect} {all rest f rest' : Model → Done} → Left o t all rest → Effected img c t u f → ((l : Model) → rest l ≡ after (f l) (rest' (f l).layout)) → Left o u all rest'
  left_step {o} {t} {u} {all} {rest} {f} {rest'} w d e =
      record {
        held = d.held ∙ w.held;
        same = λ s h q.
            ap (λ (m : Model). (rest' m).layout) (d.is s (h ∙ sym w.held) q) ∙ sym (ap (λ (r : Done). r.layout) (e (effect_in img c t s q))) ∙ w.same s h q;
        notes = λ s h q.
            let m = f (effect_in img c t s q) in
            ap (λ (l : Model). noted u.notes (rest' l)) (d.is s (h ∙ sym w.held) q)
            ∙ ap (λ (n : Notes). noted n (rest' m.layout)) (d.notes s (h ∙ sym w.held) q)
            ∙ sym (noted_after t.notes m (rest' m.layout))
            ∙ sym (ap (λ (r : Done). noted t.notes r) (e (effect_in img c t s q)))
            ∙ w.notes s h q;
      }

  pub left_end : {o t : Effect} {all rest : Model → Done} → Left o t all rest → ((l : Model) → rest l ≡ still l) → Effected img c o t all
  unfolding noted_marks
  left_end {o} {t} {all} {rest} w e =
      record {
        held = w.held;
        is = λ s h q. sym (ap (λ (r : Done). r.layout) (e (effect_in img c t s q))) ∙ w.same s h q;
        notes = λ s h q. sym (ap (λ (r : Done). noted t.notes r) (e (effect_in img c t s q))) ∙ w.notes s h q;
      }

  -- how many states there are, those added among them
  count : (t : Effect) (s : List State) → length s ≡ t.held → length (s ++ map (state_of c) (take t.added t.holds)) ≡ t.held + t.added
  count t s h = rw (length-append, length-map, length-take-le t.added t.holds (omega (arith, t.roomy.few, t.roomy.long)), h)

  pub push_room : (t : Effect) (new : Holds) (r : HasRoom t.held (t.added + 1) (set t.holds t.added new)) → t.held + t.added < 64
      → Effected img c t (record { default_layer = t.default_layer; held = t.held; holds = set t.holds t.added new; added = t.added + 1; waiting = t.waiting; notes = t.notes; roomy = r }) (push (state_of c new))
  unfolding noted_marks
  push_room t new r lt =
      let a = t.holds in
      let more : take (t.added + 1) (set a t.added new) ≡ take t.added a ++ (new ∷ []) = rw (add-one) (take-suc-set a t.added new (omega (arith, t.roomy.long))) in
      let yes : (s : List State) → length s ≡ t.held → (q : List Queued) → push (state_of c new) (effect_in img c t s q) ≡ still (with_states ((s ++ map (state_of c) (take t.added a)) ++ (state_of c new ∷ [])) (effect_in img c t s q)) =
      λ s h q. push_yes (state_of c new) (effect_in img c t s q) (omega (arith, count t s h)) in
      record {
        held = refl;
        is = λ s h q.
            model_of_lem q refl (ap (λ (x : List Holds). s ++ map (state_of c) x) more ∙ ap (λ (x : List State). s ++ x) (map-append (state_of c) (take t.added a) (new ∷ [])) ∙ sym (append_assoc s (map (state_of c) (take t.added a)) (state_of c new ∷ []))) refl
            ∙ sym (ap (λ (x : Done). x.layout) (yes s h q));
        notes = λ s h q. sym (ap (λ (x : Done). noted t.notes x) (yes s h q));
      }

  -- a state that finds no room leaves the effect as it was, and is counted
  pub push_full : (t u : Effect) (new : Holds) (notes : Notes) (r : HasRoom u.held u.added u.holds) → u ≡ t → notes ≡ note_dropped u.notes 1 → 64 ≤ t.held + t.added
      → Effected img c t (record { default_layer = u.default_layer; held = u.held; holds = u.holds; added = u.added; waiting = u.waiting; notes = notes; roomy = r }) (push (state_of c new))
  unfolding noted_marks
  push_full t u new notes r e en ge =
      let no : (s : List State) → length s ≡ t.held → (q : List Queued) → push (state_of c new) (effect_in img c t s q) ≡ lost (effect_in img c t s q) =
      λ s h q. push_no (state_of c new) (effect_in img c t s q) (omega (arith, count t s h)) in
      record {
        held = ap (λ (x : Effect). x.held) e;
        is = λ s h q.
            model_of_lem q (ap (λ (x : Effect). x.default_layer) e) (ap (λ (x : Effect). s ++ map (state_of c) (take x.added x.holds)) e) (ap (λ (x : Effect). waiting_of img x.waiting) e)
            ∙ sym (ap (λ (x : Done). x.layout) (no s h q));
        notes = λ s h q. en ∙ ap (λ (x : Effect). note_dropped x.notes 1) e ∙ sym (ap (λ (x : Done). noted t.notes x) (no s h q));
      }

  -- what a call has come to once an action has run comes by the action's step
  pub did_effect : (begun : Progress) (notes : Notes) (end : Progress) (effect last : Effect) {f : Model → Done} → BeginsSo begun.active notes effect → Effected img c effect last f
      → Grown begun.active last c end → (q : List Queued) → Did img notes end q (f (model_of img begun.active q))
  did_effect begun notes end effect last {f} b d g q =
      let active = begun.active in
      let s = states_in active in
      let h : length s ≡ effect.held = held_length active begun.tidy ∙ sym b.held in
      let first : effect_in img c effect s q ≡ model_of img active q =
      model_of_lem q b.base (ap (λ (n : ℕ). s ++ map (state_of c) (take n effect.holds)) b.none ∙ append-nil s) (ap (waiting_of img) b.waiting) in
      record {
        is = model_of_lem q g.base g.states (ap (waiting_of img) g.waiting) ∙ d.is s h q ∙ ap (λ (m : Model). (f m).layout) first;
        notes = g.notes ∙ d.notes s h q ∙ ap (λ (m : Model). noted effect.notes (f m)) first ∙ ap (λ (n : Notes). noted n (f (model_of img active q))) b.noted;
      }
