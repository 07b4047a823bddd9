-- `image::body::Body::actions_rules` meets its contract: by what the entries but the last, and the last, come to. Assumes nothing.
use Prim.Native.Nat.{◌+◌, ◌-◌, ◌*◌, ◌<◌, ◌≤◌}
use Rattle.std.proofs.lemmas.Result.{err_from_is_err_and}
use Rattle.lists.specs.Lists.{every}
use Rattle.refusal.specs.Verdict.{Verdict, fine, kept_or}
use Rattle.refusal.specs.declared.Fault.{Fault}
use Rattle.refusal.specs.declared.Refusal.TheVariants.{Child, Nested, Weight}
use Rattle.refusal.proofs.Verdicts.{rule_stop, rule_on, rule_kept, rule_broken, rule_yes}
use Rattle.image.proofs.RecordRules.{all_low, all_of, all_rules, empty_rules, listed_inside, sums_are, sums_shut, sums_small}
use Rattle.image.proofs.Weights.{placed, weighed_err, weighed_ok}
use Rattle.std.specs.Prelude.{Err}
use Rattle.image.specs.Check.{record_fault}
use Rattle.image.specs.Inside.{children_at, weighed_of}
use Rattle.image.specs.Record.{list_end}
use Rattle.image.specs.Tree.{named, shut_but_last, tree}
use Rattle.image.specs.Words.{entries_of, words_from}
use lib.Dec.{leb, ltb}
use mathlib.Core.Bool.{true, ◌&&◌}
use mathlib.Core.Path.{◌∙◌, ◌≡◌, ap, refl, subst, sym}
use native.Mathlib.Omega.{arith}
use Rattle.image.proofs.body.Body.actions_rules.Goals as goal
use Rattle.image.proofs.body.Body.actions_rules.Goals.{After-rule, Else-count-eq0, In_ok-most, In_ok-last, Start}

listed : (s : Start) → s.args.first + s.args.count ≤ entries_of s.args.self.now.image.now
unfolding list_end
listed s =
    subst (λ x. list_end x ≤ entries_of s.args.self.now.image.now) s.requires.1 (listed_inside _ _ s.requires.0.inside s.requires.0.form)

some : (c : Else-count-eq0) → 0 < c.args.count
some c = omega (arith, c.if-count-eq0.false)

-- all but the last, and the last: all are lower, and what they come to
most : (c : In_ok-most) →
    (kept_or (every (λ k. ltb k c.args.n) (words_from c.args.self.now.image.now (c.args.self.now.shape.list_at + 2 * c.args.first) (c.args.count - 1))) Child c.args.n ≡ fine)
    × (c.in_ok-most.most ≡ weighed_of (children_at c.args.self.now.image.now (c.args.self.now.shape.list_at + 2 * c.args.first) (c.args.count - 1)))
most c = weighed_ok _ _ (sym c.in_ok-most.was ∙ c.weigh_lower.ensures)

last : (c : In_ok-last) →
    (kept_or (every (λ k. ltb k c.args.n) (words_from c.args.self.now.image.now (c.args.self.now.shape.list_at + 2 * c.args.first + 2 * (c.args.count - 1)) 1)) Child c.args.n ≡ fine)
    × (c.in_ok-last.last ≡ weighed_of (children_at c.args.self.now.image.now (c.args.self.now.shape.list_at + 2 * c.args.first + 2 * (c.args.count - 1)) 1))
last c = weighed_ok _ _ (sym c.in_ok-last.was ∙ c.weigh_lower-2.ensures)

-- whether all are lower, by those
whole : (c : Else-count-eq0) → every (λ k. ltb k c.args.n) (all_of c.args.self.now.image.now c.args.self.now.shape.list_at c.args.first c.args.count)
    ≡ (every (λ k. ltb k c.args.n) (words_from c.args.self.now.image.now (c.args.self.now.shape.list_at + 2 * c.args.first) (c.args.count - 1))
    && every (λ k. ltb k c.args.n) (words_from c.args.self.now.image.now (c.args.self.now.shape.list_at + 2 * c.args.first + 2 * (c.args.count - 1)) 1))
whole c = all_low _ _ _ _ _ _ (placed c.args.self.now) c.requires.0 c.requires.1 (some c)

low : (c : In_ok-last) → every (λ k. ltb k c.args.n) (all_of c.args.self.now.image.now c.args.self.now.shape.list_at c.args.first c.args.count) ≡ true
low c =
    whole (goal.at.In_ok-last c).Else-count-eq0 ∙ rw (rule_kept _ _ _ (most (goal.at.In_ok-last c).In_ok-most).0, rule_kept _ _ _ (last c).0) refl

small : (c : In_ok-last) → (c.in_ok-most.most.weight ≤ 65536) × (c.in_ok-last.last.weight ≤ 64)
small c =
    sums_small _ _ _ _ _ _ (placed c.args.self.now) c.requires.0 c.requires.1 (some (goal.at.In_ok-last c).Else-count-eq0) (low c) (most (goal.at.In_ok-last c).In_ok-most).1 (last c).1

-- whether all but the last are shut, asked
shut : (c : After-rule) {x : Verdict} → c.rule.result ≡ x → kept_or (shut_but_last (named (tree c.args.self.now.image.now) (all_of c.args.self.now.image.now c.args.self.now.shape.list_at c.args.first c.args.count))) Nested c.args.n ≡ x
shut c e =
    ap (λ t. kept_or t Nested c.args.n) (sym (sums_shut _ _ _ _ _ _ (placed c.args.self.now) c.requires.0 c.requires.1 (some (goal.at.After-rule c).Else-count-eq0) (low (goal.at.After-rule c).In_ok-last) (most (goal.at.After-rule c).In_ok-most).1 (last (goal.at.After-rule c).In_ok-last).1)) ∙ sym c.rule.ensures ∙ e

pub returns-then-count-eq0 : goal.returns-then-count-eq0
returns-then-count-eq0 c = empty_rules _ _ c.requires.0 _ _ c.requires.1 c.if-count-eq0.true

pub overflow_mul-at : goal.overflow_mul-at
overflow_mul-at c = omega (arith, listed (goal.at.overflow_mul-at c).Start, c.args.self.now.framed.entries)

pub overflow_add-at : goal.overflow_add-at
overflow_add-at c = omega (arith, listed (goal.at.overflow_add-at c).Start, (placed c.args.self.now).second, c.args.self.now.framed.whole)

pub weigh_lower-requires : goal.weigh_lower-requires
weigh_lower-requires c =
    let l = listed (goal.at.weigh_lower-requires c).Start in
    (c.requires.0, omega (arith, some (goal.at.weigh_lower-requires c).Else-count-eq0, l, (placed c.args.self.now).second, c.args.self.now.framed.whole), omega (arith, l, c.args.self.now.framed.entries))

pub overflow_mul-count : goal.overflow_mul-count
overflow_mul-count c = omega (arith, listed (goal.at.overflow_mul-count c).Start, c.args.self.now.framed.entries)

pub overflow_add-at-2 : goal.overflow_add-at-2
overflow_add-at-2 c = omega (arith, listed (goal.at.overflow_add-at-2 c).Start, (placed c.args.self.now).second, c.args.self.now.framed.whole)

pub weigh_lower-requires-2 : goal.weigh_lower-requires-2
weigh_lower-requires-2 c =
    (c.requires.0, omega (arith, some (goal.at.weigh_lower-requires-2 c).Else-count-eq0, listed (goal.at.weigh_lower-requires-2 c).Start, (placed c.args.self.now).second, c.args.self.now.framed.whole), omega arith)

-- one that is not lower
refuse : (c : Else-count-eq0) {a : Fault} → kept_or (every (λ k. ltb k c.args.n) (all_of c.args.self.now.image.now c.args.self.now.shape.list_at c.args.first c.args.count)) Child c.args.n ≡ Err a → Err a ≡ record_fault c.args.self.now.image.now c.args.n
refuse c e = rule_stop _ _ _ _ e ∙ all_rules _ _ _ _ _ _ (placed c.args.self.now) c.requires.0 c.requires.1 (some c)

pub returns-in_err-most : goal.returns-in_err-most
returns-in_err-most c =
    let p = err_from_is_err_and c.from_residual.result c.from_residual.ensures.1 in
    let here = weighed_err _ _ (sym c.in_err-most.was ∙ c.weigh_lower.ensures) in
    let k = (goal.at.returns-in_err-most c).Else-count-eq0 in
    let no = (rule_broken _ _ _ here).0 in
    rw (p.1, p.2) (refuse k (ap (λ b. kept_or b Child c.args.n) (whole k ∙ rw no refl ∙ sym no) ∙ here))

pub returns-in_err-last : goal.returns-in_err-last
returns-in_err-last c =
    let p = err_from_is_err_and c.from_residual-in_err-last.result c.from_residual-in_err-last.ensures.1 in
    let here = weighed_err _ _ (sym c.in_err-last.was ∙ c.weigh_lower-2.ensures) in
    let k = (goal.at.returns-in_err-last c).Else-count-eq0 in
    rw (p.1, p.2) (refuse k (ap (λ b. kept_or b Child c.args.n) (whole k ∙ rw (rule_kept _ _ _ (most (goal.at.returns-in_err-last c).In_ok-most).0) refl) ∙ here))

pub returns-in_err-rule : goal.returns-in_err-rule
returns-in_err-rule c =
    let p = err_from_is_err_and c.from_residual-in_err-rule.result c.from_residual-in_err-rule.ensures.1 in
    rw (p.1, p.2) (rule_yes _ _ _ _ (low (goal.at.returns-in_err-rule c).In_ok-last) (rule_stop _ _ _ _ (shut (goal.at.returns-in_err-rule c).After-rule c.in_err-rule.was)) ∙ all_rules _ _ _ _ _ _ (placed c.args.self.now) c.requires.0 c.requires.1 (some (goal.at.returns-in_err-rule c).Else-count-eq0))

pub overflow_add-most : goal.overflow_add-most
overflow_add-most c = omega (arith, small (goal.at.overflow_add-most c).In_ok-last)

pub overflow_add-most-2 : goal.overflow_add-most-2
overflow_add-most-2 c = omega (arith, small (goal.at.overflow_add-most-2 c).In_ok-last)

pub returns : goal.returns
returns c =
    let n = some (goal.at.returns c).Else-count-eq0 in
    let sum = sums_are _ _ _ _ _ _ (placed c.args.self.now) c.requires.0 c.requires.1 n (low (goal.at.returns c).In_ok-last) (most (goal.at.returns c).In_ok-most).1 (last (goal.at.returns c).In_ok-last).1 in
    rule_yes _ _ _ _ (low (goal.at.returns c).In_ok-last) (rule_on _ _ _ _ (shut (goal.at.returns c).After-rule c.in_ok-rule.was) (c.rule-2.ensures ∙ ap (λ w. kept_or (leb (1 + w) 64) Weight c.args.n) sum)) ∙ all_rules _ _ _ _ _ _ (placed c.args.self.now) c.requires.0 c.requires.1 n
