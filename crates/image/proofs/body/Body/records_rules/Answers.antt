-- `image::body::Body::records_rules` meets its contract: each turn asks the rules of its record. Assumes nothing.
use Prim.Native.Nat.{◌<◌, ◌≤◌}
use Rattle.std.proofs.lemmas.Result.{err_from_is_err_and}
use Rattle.refusal.proofs.Verdicts.{fault_here, fault_none, fault_on}
use Rattle.image.proofs.RecordRules.{good}
use borrow.Author.Count.{below_more}
use mathlib.Core.Path.{◌∙◌, subst, sym}
use Rattle.image.specs.Words.{records_of}
use Rattle.image.specs.declared.words.Shape.{Shape}
use Rattle.image.proofs.body.Body.records_rules.Goals as goal
use Rattle.image.proofs.body.Body.records_rules.Goals.{In-loop-n}

below : (c : In-loop-n) → c.loop-n.n < records_of c.args.self.now.image.now
below c = subst (λ (s : Shape). c.loop-n.n < s.records) c.args.self.now.told c.loop-n-test.true

pub returns-in_err-record_rules : goal.returns-in_err-record_rules
returns-in_err-record_rules c =
    let p = err_from_is_err_and c.from_residual.result c.from_residual.ensures.1 in
    rw (p.1, p.2) (sym (c.loop-n.invariant.0 ∙ fault_here _ _ _ _ (below (goal.at.returns-in_err-record_rules c).In-loop-n) (sym c.record_rules.ensures ∙ c.in_err-record_rules.was)))

pub loop-n-preserved : goal.loop-n-preserved
loop-n-preserved c =
    let kept = sym c.record_rules.ensures ∙ c.in_ok-record_rules.was in
    (c.loop-n.invariant.0 ∙ fault_on _ _ _ (below (goal.at.loop-n-preserved c).In-loop-n) kept, below_more _ _ c.loop-n.invariant.1 (good _ _ (below (goal.at.loop-n-preserved c).In-loop-n) kept))

pub returns : goal.returns
returns c = sym (c.loop-n.invariant.0 ∙ fault_none _ _ _ (subst (λ (s : Shape). s.records ≤ c.loop-n.n) c.args.self.now.told c.loop-n-test.false))
