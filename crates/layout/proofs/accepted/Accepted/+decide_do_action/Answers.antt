-- `layout::accepted::Accepted::decide` and `layout::accepted::Accepted::do_action`, which call each other, meet their contracts: the record number
-- falls, and each arm does what the tree of its record says. Assumes nothing.
use Prim.Native.Nat.{ℕ, ◌+◌, ◌-◌, ◌≤◌, ◌<◌}
use mathlib.Core.List.{List}
use mathlib.Core.Logic.{inl, inr}
use mathlib.Core.Path.{◌≡◌, refl, sym, ◌∙◌}
use native.Mathlib.Omega.{arith}
use native.Mathlib.Nat.{zero-add}
use borrow.Author.Tests.{ltb-true}
use lib.Dec.{ltb}
use Rattle.event.specs.declared.Coord.{Coord}
use Rattle.image.specs.Record.{children_in, codes_in, list_end}
use Rattle.image.specs.Tree.{Action, NoOp, tree, meaning}
use Rattle.image.specs.declared.record.Action.{Action as Coded}
use Rattle.image.specs.declared.record.Action.TheVariants as code
use Rattle.image.proofs.Accepted.{tells, hold_lower, key_legal, entry_is, entry_not, all_head, all_tail, named_step, named_none}
use Rattle.layout.specs.Model.{Model, Idle, Begun, marked, with_waiting}
use Rattle.layout.specs.Actions.{do_action, do_actions, decided, chosen, begins, AtOnce, ruling}
use Rattle.layout.specs.Packed.{hold_of, tap_of}
use Rattle.layout.specs.declared.notes.Way.{Way}
use Rattle.layout.specs.declared.notes.Way.TheVariants.{Tap, Hold}
use Rattle.std.specs.Prelude.{Option}
use Rattle.layout.proofs.Effects.{left_start, left_step, left_end, effected_as, effected_then, effected_begun, effected_nothing}
use Rattle.layout.proofs.accepted.Accepted.+decide_do_action.Goals as goal

-- a record that is no HoldTap has no hold and no tap
no_hold : (img : List ℕ) (n : ℕ) (t : ℕ → Action) (a : Coded) → ((w k p : ℕ) → a ≡ code.HoldTap w k p → ⊥)
    → (hold_of (meaning img t n a) ≡ NoOp) × (tap_of (meaning img t n a) ≡ NoOp)
unfolding meaning
no_hold img n t code.NoOp h = (refl, refl)
no_hold img n t code.Trans h = (refl, refl)
no_hold img n t (code.KeyCode k) h = (refl, refl)
no_hold img n t (code.MultipleKeyCodes f c) h = (refl, refl)
no_hold img n t (code.MultipleActions f c) h = (refl, refl)
no_hold img n t (code.Layer v) h = (refl, refl)
no_hold img n t (code.DefaultLayer v) h = (refl, refl)
no_hold img n t (code.HoldTap w k p) h = absurd (h w k p refl)

neither : (way : Way) → chosen way NoOp NoOp ≡ NoOp
neither Tap = refl
neither Hold = refl

-- a hold-tap that a queued release decides at once
begins_now : (way : Way) (h p : Action) (n : ℕ) (c : Coord) (f : Option ℕ) (l w : Model)
    → marked (Begun c) (decided way h p n c f l)
    ≡ begins (AtOnce way) c w (do_action p n c 0 f (with_waiting Idle l)) (do_action h n c 0 f (with_waiting Idle l))
unfolding decided
begins_now Tap h p n c f l w = refl
begins_now Hold h p n c f l w = refl

pub decide-returns-in_default : goal.decide-returns-in_default
unfolding decided do_action
decide-returns-in_default t c =
    let a = c.args in
    let img = a.self.now.image.now in
    let m = tells img a.n {r = c.action_at.result} a.self.now.sound c.action_at.ensures refl in
    let none = no_hold img a.n (tree img) c.action_at.result c.in_default.not-HoldTap in
    effected_as img a.setting.coord (c.settle.ensures img a.setting.coord)
    (λ x q. rw (m.is, none.0, none.1, neither a.way))

pub decide-do_action-requires : goal.decide-do_action-requires
decide-do_action-requires t c =
    let m = hold_lower _ _ _ _ _ (tells c.args.self.now.image.now c.args.n c.args.self.now.sound c.action_at.ensures c.in-HoldTap.is) in
    omega (arith, m.1, c.decreases)

pub decide-do_action-requires-in-Hold : goal.decide-do_action-requires-in-Hold
decide-do_action-requires-in-Hold t c =
    let m = hold_lower _ _ _ _ _ (tells c.args.self.now.image.now c.args.n c.args.self.now.sound c.action_at.ensures c.in-HoldTap.is) in
    omega (arith, m.0, c.decreases)

pub decide-returns-in-Tap : goal.decide-returns-in-Tap
unfolding decided meaning
decide-returns-in-Tap t c =
    let img = c.args.self.now.image.now in
    let k = c.args.setting.coord in
    let m = tells img c.args.n c.args.self.now.sound c.action_at.ensures c.in-HoldTap.is in
    effected_as img k (effected_then img k (c.settle.ensures img k) c.do_action.ensures) (λ x q. rw (c.in-Tap.is, m.is, zero-add))

pub decide-returns-in-Hold : goal.decide-returns-in-Hold
unfolding decided meaning
decide-returns-in-Hold t c =
    let img = c.args.self.now.image.now in
    let k = c.args.setting.coord in
    let m = tells img c.args.n c.args.self.now.sound c.action_at.ensures c.in-HoldTap.is in
    effected_as img k (effected_then img k (c.settle.ensures img k) c.do_action-in-Hold.ensures) (λ x q. rw (c.in-Hold.is, m.is, zero-add))

pub do_action-push_key-requires : goal.do_action-push_key-requires
do_action-push_key-requires t c =
    key_legal _ _ _ (tells c.args.self.now.image.now c.args.n c.args.self.now.sound c.action_at.ensures c.in-KeyCode.is)

pub do_action-push_codes-requires : goal.do_action-push_codes-requires
unfolding codes_in list_end
do_action-push_codes-requires t c =
    let m = tells c.args.self.now.image.now c.args.n c.args.self.now.sound c.action_at.ensures c.in-MultipleKeyCodes.is in
    (m.codes, m.listed)

pub do_action-loop-at-init : goal.do_action-loop-at-init
unfolding children_in
do_action-loop-at-init t c =
    let a = c.args in
    let m = tells a.self.now.image.now a.n c.args.self.now.sound c.action_at.ensures c.in-MultipleActions.is in
    let all : c.in-MultipleActions.first + c.in-MultipleActions.count - c.in-MultipleActions.first ≡ c.in-MultipleActions.count = omega arith in
    rw all (m.lower, left_start a.self.now.image.now a.setting.coord a.effect.now _)

pub do_action-returns-in_default : goal.do_action-returns-in_default
unfolding list_end
do_action-returns-in_default t c =
    let m = tells c.args.self.now.image.now c.args.n c.args.self.now.sound c.action_at.ensures c.in-MultipleActions.is in
    let past = entry_not _ _ (sym c.entry_at.ensures ∙ c.in_default.is) in
    absurd (omega (arith, m.listed, past, c.loop-at-test.true))

pub do_action-do_action-requires : goal.do_action-do_action-requires
do_action-do_action-requires t c =
    let n = c.args.n in
    let img = c.args.self.now.image.now in
    let at = c.loop-at.at in
    let inv = c.loop-at.invariant in
    let left = c.in-MultipleActions.first + c.in-MultipleActions.count - at in
    let some : 0 < left = omega (arith, c.loop-at-test.true) in
    let h = entry_is img at _ (sym c.entry_at.ensures ∙ c.in-Some.is) in
    let low = ltb-true _ n (all_head (λ k. ltb k n) img at left some inv.0) in
    omega (arith, low, h.1, c.decreases)

pub do_action-loop-at-preserved : goal.do_action-loop-at-preserved
unfolding do_actions
do_action-loop-at-preserved t c =
    let img = c.args.self.now.image.now in
    let at = c.loop-at.at in
    let inv = c.loop-at.invariant in
    let left = c.in-MultipleActions.first + c.in-MultipleActions.count - at in
    let some : 0 < left = omega (arith, c.loop-at-test.true) in
    let next : left - 1 ≡ c.in-MultipleActions.first + c.in-MultipleActions.count - (at + 1) = omega arith in
    let h = entry_is img at _ (sym c.entry_at.ensures ∙ c.in-Some.is) in
    let rest = rw (named_step (tree img) img at left some) at inv.1 in
    rw (← next) (
      all_tail (λ k. ltb k c.args.n) img at left some inv.0,
      left_step img c.args.setting.coord rest c.do_action.ensures (λ l. rw h.1),
    )

pub do_action-returns-in-KeyCode : goal.do_action-returns-in-KeyCode
unfolding do_action meaning
do_action-returns-in-KeyCode t c =
    let img = c.args.self.now.image.now in
    let k = c.args.setting.coord in
    effected_as img k (c.push_key.ensures img k)
    (λ x q. rw (tells img c.args.n c.args.self.now.sound c.action_at.ensures c.in-KeyCode.is).is)

pub do_action-returns-in-MultipleKeyCodes : goal.do_action-returns-in-MultipleKeyCodes
unfolding do_action meaning
do_action-returns-in-MultipleKeyCodes t c =
    let img = c.args.self.now.image.now in
    let k = c.args.setting.coord in
    effected_as img k (c.push_codes.ensures k)
    (λ x q. rw (tells img c.args.n c.args.self.now.sound c.action_at.ensures c.in-MultipleKeyCodes.is).is)

pub do_action-returns-after-loop-at : goal.do_action-returns-after-loop-at
unfolding do_action do_actions meaning
do_action-returns-after-loop-at t c =
    let img = c.args.self.now.image.now in
    let k = c.args.setting.coord in
    let none : c.in-MultipleActions.first + c.in-MultipleActions.count - c.loop-at.at ≤ 0 = omega (arith, c.loop-at-test.false) in
    let rest = rw (named_none (tree img) img c.loop-at.at (c.in-MultipleActions.first + c.in-MultipleActions.count - c.loop-at.at) none) at c.loop-at.invariant.1 in
    effected_as img k (left_end img k rest (λ l. refl))
    (λ x q. rw (tells img c.args.n c.args.self.now.sound c.action_at.ensures c.in-MultipleActions.is).is)

pub do_action-returns-in-Layer : goal.do_action-returns-in-Layer
unfolding do_action meaning
do_action-returns-in-Layer t c =
    let img = c.args.self.now.image.now in
    let k = c.args.setting.coord in
    effected_as img k (c.push_layer.ensures img k)
    (λ x q. rw (tells img c.args.n c.args.self.now.sound c.action_at.ensures c.in-Layer.is).is)

pub do_action-returns-in-DefaultLayer : goal.do_action-returns-in-DefaultLayer
unfolding do_action meaning
do_action-returns-in-DefaultLayer t c =
    let img = c.args.self.now.image.now in
    let k = c.args.setting.coord in
    effected_as img k (c.with_default.ensures img k)
    (λ x q. rw ((tells img c.args.n c.args.self.now.sound c.action_at.ensures c.in-DefaultLayer.is).is, c.args.self.now.counted))

pub do_action-returns-in-None : goal.do_action-returns-in-None
unfolding do_action meaning ruling
do_action-returns-in-None t c =
    let img = c.args.self.now.image.now in
    let k = c.args.setting.coord in
    let m = tells img c.args.n c.args.self.now.sound c.action_at.ensures c.in-HoldTap.is in
    effected_as img k (effected_begun img k k (c.wait_on.ensures img k))
    (λ x q. rw (c.saturating_sub-left.ensures, c.in-None.is, m.is))

pub do_action-returns-in-Some-found : goal.do_action-returns-in-Some-found
unfolding do_action meaning ruling
do_action-returns-in-Some-found t c =
    let img = c.args.self.now.image.now in
    let k = c.args.setting.coord in
    let m = tells img c.args.n c.args.self.now.sound c.action_at.ensures c.in-HoldTap.is in
    effected_as img k (effected_begun img k k c.decide.ensures)
    (λ x q. rw (c.queued_way-way.ensures, c.in-Some-found.is, m.is) (begins_now _ _ _ _ _ _ _ _))

pub do_action-returns-in-NoOp : goal.do_action-returns-in-NoOp
unfolding do_action meaning
do_action-returns-in-NoOp t c =
    let img = c.args.self.now.image.now in
    let k = c.args.setting.coord in
    let nothing = effected_nothing img k c.args.effect.now in
    elim c.in-NoOp.is [
      | inl is ↦ effected_as img k nothing (λ x q. rw (tells img c.args.n c.args.self.now.sound c.action_at.ensures is).is)
      | inr is ↦ effected_as img k nothing (λ x q. rw (tells img c.args.n c.args.self.now.sound c.action_at.ensures is).is)
    ]
