-- `image::body::Body::cells_rules` meets its contract: each turn asks the rule of its cell. Assumes nothing.
use Prim.Native.Nat.{◌*◌, ◌<◌, ◌≤◌}
use Rattle.std.proofs.lemmas.Result.{err_from_is_err_and}
use Rattle.refusal.specs.Verdict.{Verdict}
use Rattle.refusal.proofs.Verdicts.{fault_here, fault_none, fault_on}
use Rattle.image.specs.Check.{cell_fault}
use Rattle.image.specs.Words.{cell_of}
use Rattle.image.specs.declared.words.Shape.{Shape}
use mathlib.Core.Path.{◌∙◌, ◌≡◌, ap, subst, sym}
use Rattle.image.proofs.body.Body.cells_rules.Goals as goal
use Rattle.image.proofs.body.Body.cells_rules.Goals.{After-rule}

asked : (c : After-rule) {x : Verdict} → c.rule.result ≡ x → cell_fault c.args.self.now.image.now c.loop-i.i ≡ x
unfolding cell_fault cell_of
asked c e = rw (← c.word-named.ensures, ← ap (λ (s : Shape). s.records) c.args.self.now.told) (sym c.rule.ensures ∙ e)

pub returns-in_err-rule : goal.returns-in_err-rule
returns-in_err-rule c =
    let p = err_from_is_err_and c.from_residual.result c.from_residual.ensures.1 in
    let here = asked (goal.at.returns-in_err-rule c).After-rule c.in_err-rule.was in
    rw (p.1, p.2) (sym (c.loop-i.invariant ∙ fault_here (cell_fault c.args.self.now.image.now) c.loop-i.i _ _ (subst (λ (s : Shape). c.loop-i.i < s.layers * s.rows * s.columns) c.args.self.now.told c.loop-i-test.true) here))

pub loop-i-preserved : goal.loop-i-preserved
loop-i-preserved c =
    c.loop-i.invariant ∙ fault_on (cell_fault c.args.self.now.image.now) c.loop-i.i _ (subst (λ (s : Shape). c.loop-i.i < s.layers * s.rows * s.columns) c.args.self.now.told c.loop-i-test.true) (asked (goal.at.loop-i-preserved c).After-rule c.in_ok-rule.was)

pub returns : goal.returns
returns c = sym (c.loop-i.invariant ∙ fault_none _ _ _ (subst (λ (s : Shape). s.layers * s.rows * s.columns ≤ c.loop-i.i) c.args.self.now.told c.loop-i-test.false))
