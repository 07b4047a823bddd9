-- `image::rules::image_rules` meets its contract: the header, then the body. Assumes nothing.
use Prim.Native.Nat.{◌*◌, ◌+◌}
use Rattle.std.proofs.lemmas.Result.{err_from_is_err_and}
use Rattle.refusal.proofs.Verdicts.{or_on, or_stop, rule_yes}
use Rattle.image.proofs.HeaderRules.{framed}
use Rattle.image.specs.Check.{fault_of, head_fault}
use Rattle.image.specs.Words.{size_of}
use borrow.Author.Tests.{le-leb}
use lib.Dec.{eqb}
use lib.ListN.{length}
use mathlib.Core.Path.{◌∙◌, ◌≡◌, ap, sym}
use Rattle.image.specs.declared.words.Shape.{Shape}
use Rattle.image.proofs.rules.image_rules.Goals as goal
use Rattle.image.proofs.rules.image_rules.Goals.{After-head_rules}

-- the faults of the header, by the length that it tells
header : (c : After-head_rules) → c.head_rules.result ≡ head_fault c.args.image.now (eqb (length c.args.image.now) (size_of c.args.image.now))
header c =
    let img = c.args.image.now in
    c.head_rules.ensures ∙ ap (λ (s : Shape). head_fault img (eqb (length img) (s.list_at + 2 * s.entries))) c.requires.1

pub returns-in_err-head_rules : goal.returns-in_err-head_rules
unfolding fault_of
returns-in_err-head_rules c =
    let p = err_from_is_err_and c.from_residual.result c.from_residual.ensures.1 in
    let found = sym (header (goal.at.returns-in_err-head_rules c).After-head_rules) ∙ c.in_err-head_rules.was in
    rw (p.1, p.2) (rule_yes _ _ _ _ (le-leb _ _ c.requires.0) (sym found ∙ or_stop _ _ _ found))

pub invariant_of-rules : goal.invariant_of-rules
invariant_of-rules c =
    record { framed = framed _ (sym (header (goal.at.invariant_of-rules c).After-head_rules) ∙ c.in_ok-head_rules.was); told = c.requires.1 }

pub returns : goal.returns
unfolding fault_of
returns c =
    rule_yes _ _ _ _ (le-leb _ _ c.requires.0) (c.rules.ensures ∙ sym (or_on _ _ (sym (header (goal.at.returns c).After-head_rules) ∙ c.in_ok-head_rules.was)))
