-- `layout::progress::Progress::add_effect` meets its contract. Assumes nothing.
use Prim.Native.Nat.{◌+◌, ◌≤◌, ◌<◌}
use mathlib.Core.Path.{◌≡◌, refl}
use native.Mathlib.Omega.{arith}
use lib.ListN.{length, take, length-take}
use Rattle.layout.proofs.Pads.{take_all}
use Rattle.layout.proofs.Effects.{grown_none, grown_more, grown_tidy, grown}
use Rattle.layout.proofs.Parts.{held_length}
use Rattle.layout.proofs.progress.Progress.add_effect.Goals as goal

pub loop-holds-init : goal.loop-holds-init
loop-holds-init c =
    (omega (arith, c.requires), grown_none c.args.self.now.active c.args.effect.now.held c.args.self.now.tidy c.requires)

pub bounds-self-self : goal.bounds-self-self
bounds-self-self c =
    let effect = c.args.effect.now in
    omega (arith, c.loop-holds.invariant.0, c.loop-holds-test.true, length-take effect.added effect.holds, effect.roomy.few)

pub loop-holds-preserved : goal.loop-holds-preserved
loop-holds-preserved c =
    let effect = c.args.effect.now in
    let inv = c.loop-holds.invariant in
    let items = take effect.added effect.holds in
    let few = length-take effect.added effect.holds in
    let first : length (take effect.held c.args.self.now.active.states) ≡ effect.held = rw c.requires (held_length c.args.self.now.active c.args.self.now.tidy) in
    let room : effect.held + c.loop-holds.holds-index < 64 = omega (arith, c.loop-holds-test.true, few, effect.roomy.few) in (
      omega (arith, inv.0),
      rw (c.at.ensures, inv.0) (grown_more c.args.coord
          (take effect.held c.args.self.now.active.states) c.loop-holds.self.active.states items effect.held c.loop-holds.holds-index first
          room c.loop-holds-test.true inv.1),
    )

pub invariant_of-self : goal.invariant_of-self
invariant_of-self c =
    let active = c.args.self.now.active in
    let effect = c.args.effect.now in
    let inv = c.loop-holds.invariant in
    let items = take effect.added effect.holds in
    let k = c.loop-holds.holds-index in
    let first : length (take effect.held active.states) ≡ effect.held = rw c.requires (held_length active c.args.self.now.tidy) in
    let room : effect.held + (k + 1) ≤ 64 = omega (arith, c.loop-holds-test.true, length-take effect.added effect.holds, effect.roomy.few) in
    let some : k + 1 ≤ length items = omega (arith, c.loop-holds-test.true) in
    record {
      tidy = grown_tidy active _ c.args.coord items effect.held (k + 1) c.args.self.now.tidy c.requires room some (omega (arith, inv.0))
          (rw (c.at.ensures, inv.0) (grown_more c.args.coord (take effect.held active.states) c.loop-holds.self.active.states items effect.held k first
          (omega (arith, room)) c.loop-holds-test.true inv.1));
    }

pub returns : goal.returns
returns c =
    let active = c.args.self.now.active in
    let effect = c.args.effect.now in
    let items = take effect.added effect.holds in
    let k = c.loop-holds.holds-index in
    let inv = c.loop-holds.invariant in
    let end = c.loop-holds.auto.holds-index-end in
    let all : take k items ≡ items = take_all items k c.loop-holds-test.false in
    let room : effect.held + k ≤ 64 = omega (arith, end, length-take effect.added effect.holds, effect.roomy.few) in
    let states = grown active c.loop-holds.self.active c.args.coord items effect.held k c.args.self.now.tidy c.requires room end inv.0 inv.1 in
    record { base = refl; states = rw (c.requires, all) at states; waiting = refl; notes = refl }
