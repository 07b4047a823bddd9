-- `image::areas::check_area` meets its contract: the faults of the area, then the check of its stretch. Assumes nothing.
use Prim.Native.Nat.{◌*◌, ◌+◌, ◌≤◌}
use Rattle.std.proofs.lemmas.Result.{err_from_is_err_and}
use Rattle.refusal.specs.Verdict.{Verdict}
use Rattle.refusal.proofs.Said.{said_one}
use Rattle.refusal.proofs.Verdicts.{rule_kept, rule_stop, rule_on}
use Rattle.image.proofs.Chosen.{area_at, area_fine, head_size}
use Rattle.image.specs.Check.{check_of, head_fault}
use Rattle.image.specs.Use.{area_fault, area_of}
use Rattle.image.specs.Words.{size_of}
use borrow.Author.Tests.{leb-true}
use lib.Dec.{leb}
use lib.ListN.{length, take}
use lib.Seq.{length-take-le}
use mathlib.Core.Path.{◌∙◌, ◌≡◌, ap, sym}
use native.Mathlib.Omega.{arith}
use Rattle.image.specs.declared.words.Shape.{Shape}
use Rattle.image.proofs.areas.check_area.Goals as goal
use Rattle.image.proofs.areas.check_area.Goals.{After-head_rules, After-shape_of-s, In_ok-rule}

long : (c : In_ok-rule) → 16 ≤ length c.args.area.now
long c = leb-true _ _ (rule_kept _ _ _ (sym c.rule.ensures ∙ c.in_ok-rule.was))

-- the size that the header tells
size : (c : After-shape_of-s) → c.shape_of-s.result.list_at + 2 * c.shape_of-s.result.entries ≡ size_of c.args.area.now
size c = ap (λ (s : Shape). s.list_at + 2 * s.entries) c.shape_of-s.ensures.0

-- the faults of the header, and of the area, whose first rule is kept
header : (c : After-head_rules) {f : Verdict} → c.head_rules.result ≡ f → head_fault c.args.area.now (leb (size_of c.args.area.now) (length c.args.area.now)) ≡ f
header c e =
    let area = c.args.area.now in
    sym (c.head_rules.ensures ∙ ap (λ k. head_fault area (leb k (length area))) (size (goal.at.After-head_rules c).After-shape_of-s)) ∙ e

faults : (c : After-head_rules) {f : Verdict} → c.head_rules.result ≡ f → area_fault c.args.area.now ≡ f
unfolding area_fault
faults c e = sym (rule_on _ _ _ _ (sym c.rule.ensures ∙ c.in_ok-rule.was) (sym (header c e)))

pub returns-in_err-rule : goal.returns-in_err-rule
unfolding area_of area_fault
returns-in_err-rule c =
    let p = err_from_is_err_and c.from_residual.result c.from_residual.ensures.1 in
    rw (p.1, p.2) (area_at _ _ _ (sym (rule_stop _ _ _ _ (sym c.rule.ensures ∙ c.in_err-rule.was))))

pub shape_of-s-requires : goal.shape_of-s-requires
shape_of-s-requires c = long (goal.at.shape_of-s-requires c).In_ok-rule

pub head_rules-requires : goal.head_rules-requires
head_rules-requires c = (long (goal.at.head_rules-requires c).In_ok-rule, c.shape_of-s.ensures.0)

pub returns-in_err-head_rules : goal.returns-in_err-head_rules
unfolding area_of
returns-in_err-head_rules c =
    let p = err_from_is_err_and c.from_residual-in_err-head_rules.result c.from_residual-in_err-head_rules.ensures.1 in
    rw (p.1, p.2) (area_at _ _ _ (faults (goal.at.returns-in_err-head_rules c).After-head_rules c.in_err-head_rules.was))

pub slice_bounds-check-end : goal.slice_bounds-check-end
slice_bounds-check-end c =
    sym (length-take-le _ _ (omega (arith, size (goal.at.slice_bounds-check-end c).After-shape_of-s, head_size _ (header (goal.at.slice_bounds-check-end c).After-head_rules c.in_ok-head_rules.was))))

pub returns : goal.returns
unfolding area_of
returns c =
    said_one _ _ _ c.check.ensures ∙ ap (λ k. check_of (take k c.args.area.now)) (size (goal.at.returns c).After-shape_of-s) ∙ area_fine _ _ (faults (goal.at.returns c).After-head_rules c.in_ok-head_rules.was)
