-- `layout::answer::answer_of` meets its contract. Assumes nothing.
use Prim.Native.Nat.{ℕ, ◌+◌, ◌<◌}
use mathlib.Core.List.{List, [], ◌∷◌, ◌++◌}
use mathlib.Core.Path.{◌≡◌, refl}
use native.Mathlib.Omega.{arith}
use lib.ListN.{length, take, set, length-take, length-append}
use Rattle.lists.specs.Lists.{laid}
use Rattle.layout.specs.Steps.{codes}
use Rattle.layout.specs.Packed.{no_state}
use Rattle.layout.proofs.Pads.{buf_more, take_all}
use Rattle.layout.proofs.Codes.{key_more, no_key}
use Rattle.layout.proofs.answer.answer_of.Goals as goal
use Rattle.layout.proofs.answer.answer_of.Goals.{in-NormalKey, in_default}

-- one byte more behind those that are laid
put : (l b : List ℕ) (a k : ℕ) → k ≡ length l → k < length b → set (laid l b) k a ≡ laid (l ++ (a ∷ [])) b
put l b a k e h =
    let one : length (l ++ (a ∷ [])) ≡ k + 1 = rw (length-append, e) in
    rw (← e, one) (buf_more l b a k e h)

pub loop-state-init : goal.loop-state-init
unfolding codes
loop-state-init c = (omega arith, refl, refl)

pub bounds-out-codes : goal.bounds-out-codes
bounds-out-codes c =
    let few = length-take c.args.end.now.active.len c.args.end.now.active.states in
    omega (arith, c.loop-state.invariant.0, c.loop-state.auto.out, c.args.end.now.tidy.few, c.requires)

pub loop-state-preserved : goal.loop-state-preserved
loop-state-preserved c =
    let inv = c.loop-state.invariant in
    let l = take c.args.end.now.active.len c.args.end.now.active.states in
    let few = length-take c.args.end.now.active.len c.args.end.now.active.states in
    let before = codes (take c.loop-state.state-index l) in
    elim c.match-state.branch [
      | in-NormalKey w ↦
          let more = key_more l c.loop-state.state-index no_state c.loop-state-test.true _ _ w.in-NormalKey.is in
          let k : c.loop-state.codes < length c.args.out.now = omega (arith, inv.0, c.args.end.now.tidy.few, c.requires) in (
            omega (arith, inv.0, w.codes-is),
            rw (w.codes-is, more, length-append) (omega (arith, inv.1)),
            rw (w.out-is, more, inv.2) (put before c.args.out.now _ c.loop-state.codes inv.1 k),
          )
      | in_default w ↦
          let same = no_key l c.loop-state.state-index no_state c.loop-state-test.true w.in_default.not-NormalKey in
          (omega (arith, inv.0, w.codes-is), rw (w.codes-is, same) inv.1, rw (w.out-is, same) inv.2)
    ]

pub returns : goal.returns
returns c =
    let l = take c.args.end.now.active.len c.args.end.now.active.states in
    let all : take c.loop-state.state-index l ≡ l = take_all l c.loop-state.state-index c.loop-state-test.false in
    let inv = rw all at c.loop-state.invariant in
    (rw inv.1, inv.2)
