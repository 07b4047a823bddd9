-- `debounce::sizes::Sizes::tell` meets its contract: one place more. Assumes nothing.
use Rattle.std.proofs.Common.{◌≡◌, ◌<◌, length, rules, refl, arith}
use Rattle.debounce.specs.Events.{changes, written}
use Rattle.debounce.proofs.EventLaws.{told_same, told_more}
use Rattle.debounce.proofs.sizes.Sizes.tell.Goals as goal
use Rattle.debounce.proofs.sizes.Sizes.tell.Goals.{then-before-place, else-before-place}

pub loop-place-init : goal.loop-place-init
unfolding changes written
loop-place-init c = (omega arith, (refl, refl))

pub loop-place-preserved : goal.loop-place-preserved
loop-place-preserved c =
    let a = c.args in
    let l = c.loop-place in
    let long_before : length a.before ≡ 128 = search rules in
    let long_after : length a.after ≡ 128 = search rules in
    let few = c.switches-place-end.ensures.few in
    let in_before : l.place < length a.before = omega arith in
    let in_after : l.place < length a.after = omega arith in
    elim c.if-before-place.branch [
      | then-before-place w ↦ (
        omega arith,
        rw (w.count-is, w.out-is, w.put_event.ensures, w.event_at.ensures) (told_more a.self.columns l.place l.count a.before a.after a.out.now l.out in_before in_after w.if-before-place.true l.invariant.1),
      )
      | else-before-place w ↦ (
        omega arith,
        rw (w.count-is, w.out-is) (told_same a.self.columns l.place l.count a.before a.after a.out.now l.out in_before in_after w.if-before-place.false l.invariant.1),
      )
    ]
