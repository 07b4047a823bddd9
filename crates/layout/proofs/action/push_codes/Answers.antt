-- `layout::action::push_codes` meets its contract. Assumes nothing.
use Prim.Native.Nat.{◌+◌, ◌-◌, ◌<◌}
use mathlib.Core.Path.{◌≡◌, sym, ap, ◌∙◌}
use native.Mathlib.Omega.{arith}
use Rattle.codes.specs.Codes.{legal}
use Rattle.image.specs.Words.{entries}
use Rattle.layout.specs.Actions.{push_codes}
use Rattle.image.proofs.Accepted.{entry_is, entry_not, entries_step, all_head, all_tail}
use Rattle.layout.proofs.Effects.{left_start, left_step, left_end}
use Rattle.layout.proofs.action.push_codes.Goals as goal

pub loop-at-init : goal.loop-at-init
loop-at-init c =
    let all : c.args.first + c.args.count - c.args.first ≡ c.args.count = omega arith in
    rw all (c.requires.0, λ k. left_start c.args.image.now k c.args.effect.now _)

pub returns-in_default : goal.returns-in_default
returns-in_default c = absurd (omega (arith, entry_not _ _ (sym c.entry_at.ensures ∙ c.in_default.is), c.requires.1, c.loop-at-test.true))

pub loop-at-preserved : goal.loop-at-preserved
unfolding push_codes
loop-at-preserved c =
    let img = c.args.image.now in
    let at = c.loop-at.at in
    let inv = c.loop-at.invariant in
    let left = c.args.first + c.args.count - at in
    let some : 0 < left = omega (arith, c.loop-at-test.true) in
    let next : left - 1 ≡ c.args.first + c.args.count - (at + 1) = omega arith in
    let h = entry_is img at _ (sym c.entry_at.ensures ∙ c.in-Some.is) in
    let step = entries_step img at left some in
    rw (← next) (
      all_tail legal img at left some inv.0,
      λ k. left_step img k (rw step at (inv.1 k)) (c.push_key.ensures img k) (λ l. rw h.1),
    )

pub returns : goal.returns
unfolding push_codes entries
returns c =
    let none : c.args.first + c.args.count - c.loop-at.at ≡ 0 = omega (arith, c.loop-at-test.false) in
    λ k. left_end c.args.image.now k (c.loop-at.invariant.1 k) (λ l. rw none)

pub push_key-requires : goal.push_key-requires
push_key-requires c =
    let img = c.args.image.now in
    let at = c.loop-at.at in
    let some : 0 < c.args.first + c.args.count - at = omega (arith, c.loop-at-test.true) in
    let h = entry_is img at _ (sym c.entry_at.ensures ∙ c.in-Some.is) in
    ap legal h.1 ∙ all_head legal img at (c.args.first + c.args.count - at) some c.loop-at.invariant.0
