-- `table_changes::pair::Pair::same` meets its contract: what each record is, and what the laws of `Meets.antt` and `Plain.antt` make
-- of it. Assumes nothing.
use Rattle.std.proofs.Common.{◌≡◌, ℕ, true, false, ◌&&◌, sym, ◌∙◌, arith, refl, rules}
use borrow.Author.Tests.{ltb-true, eq-eqb, ne_eqb}
use lib.Dec.{eqb, ltb}
use Rattle.image.specs.Sound.{Meant}
use Rattle.image.specs.Tree.{tree}
use Rattle.image.specs.declared.record.Action.{Action}
use Rattle.image.proofs.Accepted.{hold_lower, tells}
use Rattle.image.proofs.Entries.{words_all, words_head, words_tail}
use Rattle.table_changes.specs.Same as trees
use Rattle.table_changes.proofs.Meets.{codes_same, codes_other, actions_same, actions_other, hold_same, listed_lower}
use Rattle.table_changes.proofs.Plain.{both_name, not_codes, not_actions, not_hold, not_any, plain_same}
use Rattle.table_changes.proofs.Words.{named_on, named_no, named_end}
use Rattle.table_changes.proofs.pair.Pair.+same.Goals as goal
use Rattle.table_changes.proofs.pair.Pair.+same.Goals.{After-action_at-one, After-action_at-other, After-eq, in_default-via-in-MultipleKeyCodes+in_default, in_default-via-in-MultipleActions+in_default, in_default-via-in-HoldTap+in_default, in_default-via-in_default, then-timeout-time, else-timeout-time}

-- what the two records say
one : (t : ℕ) (c : After-action_at-one t) {x : Action} → c.action_at-one.result ≡ x → Meant c.args.self.now.first.now c.args.m x
one t c e = tells _ _ c.args.self.now.sound.0 (rw (c.from.ensures) at c.action_at-one.ensures) e

other : (t : ℕ) (c : After-action_at-other t) {x : Action} → c.action_at-other.result ≡ x → Meant c.args.self.now.second.now c.args.n x
other t c e = tells _ _ c.args.self.now.sound.1 (rw (c.from-2.ensures) at c.action_at-other.ensures) e

-- those that name none and have no list
equal : (t : ℕ) (c : After-eq t) → c.eq.result ≡ true → c.action_at-one.result ≡ c.action_at-other.result
equal t c e = search rules

equal_back : (t : ℕ) (c : After-eq t) → c.action_at-one.result ≡ c.action_at-other.result → c.eq.result ≡ true
equal_back t c e = search rules

neither : (t : ℕ) (c : After-eq t) → both_name c.action_at-one.result c.action_at-other.result ≡ false
neither t c =
    elim c.in_default.branch [
      | in_default-via-in-MultipleKeyCodes+in_default w ↦ not_codes _ _ w.in_default.is-0 w.in_default.not-MultipleKeyCodes-1
      | in_default-via-in-MultipleActions+in_default w ↦ not_actions _ _ w.in_default.is-0 w.in_default.not-MultipleActions-1
      | in_default-via-in-HoldTap+in_default w ↦ not_hold _ _ w.in_default.is-0 w.in_default.not-HoldTap-1
      | in_default-via-in_default w ↦ not_any _ _ w.in_default.not-MultipleKeyCodes-0 w.in_default.not-MultipleActions-0 w.in_default.not-HoldTap-0
    ]

pub returns-in_default : goal.returns-in_default
returns-in_default t c =
    let a = c.args in
    let p = one t (goal.at.returns-in_default t c).After-action_at-one refl in
    let q = other t (goal.at.returns-in_default t c).After-action_at-other refl in
    rw (p.is, q.is)
    (plain_same a.self.now.first.now a.self.now.second.now _ _ a.m a.n _ _ c.eq.result (neither t (goal.at.returns-in_default t c).After-eq) (equal t (goal.at.returns-in_default t c).After-eq) (equal_back t (goal.at.returns-in_default t c).After-eq))

pub returns-else-count-others : goal.returns-else-count-others
returns-else-count-others t c =
    let p = one t (goal.at.returns-else-count-others t c).After-action_at-one c.in-MultipleKeyCodes-MultipleKeyCodes.is-0 in
    let q = other t (goal.at.returns-else-count-others t c).After-action_at-other c.in-MultipleKeyCodes-MultipleKeyCodes.is-1 in
    rw (ne_eqb _ _ c.if-count-others.false) (sym (codes_other _ _ _ _ _ _ _ _ p q c.if-count-others.false))

pub returns-then-count-others : goal.returns-then-count-others
returns-then-count-others t c =
    let p = one t (goal.at.returns-then-count-others t c).After-action_at-one c.in-MultipleKeyCodes-MultipleKeyCodes.is-0 in
    let q = other t (goal.at.returns-then-count-others t c).After-action_at-other c.in-MultipleKeyCodes-MultipleKeyCodes.is-1 in
    let e = codes_same _ _ _ _ _ _ _ _ p q in
    rw (c.same_words.ensures, c.entry_place-at.ensures.0, c.entry_place.ensures.0, e, c.if-count-others.true)

pub returns-then-count-others-2 : goal.returns-then-count-others-2
returns-then-count-others-2 t c =
    let p = one t (goal.at.returns-then-count-others-2 t c).After-action_at-one c.in-MultipleActions-MultipleActions.is-0 in
    let q = other t (goal.at.returns-then-count-others-2 t c).After-action_at-other c.in-MultipleActions-MultipleActions.is-1 in
    sym (actions_other _ _ _ _ _ _ _ _ p q c.if-count-others-2.true)

pub loop-i-init : goal.loop-i-init
loop-i-init t c =
    let a = c.args in
    let m = c.in-MultipleActions-MultipleActions in
    let first = a.self.now.first.now in
    let second = a.self.now.second.now in
    let p = one t (goal.at.loop-i-init t c).After-action_at-one m.is-0 in
    let q = other t (goal.at.loop-i-init t c).After-action_at-other m.is-1 in
    rw (words_all first c.entry_place-at-in-MultipleActions-MultipleActions.result m.count, words_all second c.entry_place-there.result m.count, c.entry_place-at-in-MultipleActions-MultipleActions.ensures.0, c.entry_place-there.ensures.0)
    (listed_lower first a.m m.e m.count p, actions_same first second a.m a.n m.e m.count m.f m.count p (rw (← c.if-count-others-2.false) at q))

pub same-requires : goal.same-requires
same-requires t c =
    let low = ltb-true _ c.args.m (words_head _ _ _ _ (λ k. ltb k c.args.m) c.loop-i-test.true c.loop-i.invariant.0) in
    (omega (arith, low, rw c.from-skip.ensures at c.word_or_zero-k.ensures, c.decreases), tt)

pub returns-then-not-same : goal.returns-then-not-same
returns-then-not-same t c =
    sym (c.loop-i.invariant.1 ∙ named_no _ _ _ _ _ _ c.loop-i-test.true (cc))

pub loop-i-preserved : goal.loop-i-preserved
loop-i-preserved t c =
    (words_tail _ _ _ _ (λ k. ltb k c.args.m) c.loop-i-test.true c.loop-i.invariant.0, c.loop-i.invariant.1 ∙ named_on _ _ _ _ _ _ c.loop-i-test.true (cc))

pub returns-after-loop-i : goal.returns-after-loop-i
returns-after-loop-i t c = sym (c.loop-i.invariant.1 ∙ named_end _ _ _ _ _ _ c.loop-i-test.false)

pub same-requires-then-timeout-time : goal.same-requires-then-timeout-time
same-requires-then-timeout-time t c =
    let p = one t (goal.at.same-requires-then-timeout-time t c).After-action_at-one c.in-HoldTap-HoldTap.is-0 in
    (omega (arith, c.decreases, (hold_lower _ _ _ _ _ p).0), tt)

pub same-requires-then-same : goal.same-requires-then-same
same-requires-then-same t c =
    let p = one t (goal.at.same-requires-then-same t c).After-action_at-one c.in-HoldTap-HoldTap.is-0 in
    (omega (arith, c.decreases, (hold_lower _ _ _ _ _ p).1), tt)

pub returns-then-same : goal.returns-then-same
returns-then-same t c =
    let h = c.in-HoldTap-HoldTap in
    let p = one t (goal.at.returns-then-same t c).After-action_at-one h.is-0 in
    let q = other t (goal.at.returns-then-same t c).After-action_at-other h.is-1 in
    let holds : c.if-timeout-time.value ≡ (eqb h.timeout h.time && trees.same (tree c.args.self.now.first.now h.hold) (tree c.args.self.now.second.now h.held))
    = elim c.if-timeout-time.branch [
      | then-timeout-time w ↦ rw (w.value-is, eq-eqb _ _ w.if-timeout-time.true) w.same-then-timeout-time.ensures
      | else-timeout-time w ↦ rw (w.value-is, ne_eqb _ _ w.if-timeout-time.false)
    ] in
    rw (hold_same _ _ _ _ _ _ _ _ _ _ p q, ← holds, c.if-same.true) c.same-then-same.ensures

pub returns-else-same : goal.returns-else-same
returns-else-same t c =
    let h = c.in-HoldTap-HoldTap in
    let p = one t (goal.at.returns-else-same t c).After-action_at-one h.is-0 in
    let q = other t (goal.at.returns-else-same t c).After-action_at-other h.is-1 in
    let holds : c.if-timeout-time.value ≡ (eqb h.timeout h.time && trees.same (tree c.args.self.now.first.now h.hold) (tree c.args.self.now.second.now h.held))
    = elim c.if-timeout-time.branch [
      | then-timeout-time w ↦ rw (w.value-is, eq-eqb _ _ w.if-timeout-time.true) w.same-then-timeout-time.ensures
      | else-timeout-time w ↦ rw (w.value-is, ne_eqb _ _ w.if-timeout-time.false)
    ] in
    rw (hold_same _ _ _ _ _ _ _ _ _ _ p q, ← holds, c.if-same.false)
