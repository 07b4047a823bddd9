-- `image::body::Body::codes_rules` meets its contract: the rules that a MultipleKeyCodes can break. Assumes nothing.
use Prim.Native.Nat.{◌+◌, ◌≤◌}
use Rattle.std.proofs.lemmas.Result.{err_from_is_err_and}
use Rattle.codes.specs.Codes.{legal}
use Rattle.lists.specs.Lists.{every}
use Rattle.refusal.specs.Verdict.{Verdict, kept_or}
use Rattle.refusal.specs.declared.Refusal.TheVariants.{Code}
use Rattle.refusal.proofs.Verdicts.{rule_stop, rule_on}
use Rattle.image.proofs.RecordRules.{codes_rules, listed_inside}
use Rattle.image.specs.Record.{list_end}
use Rattle.image.specs.Words.{entries, entries_of}
use mathlib.Core.Path.{◌∙◌, ◌≡◌, ap, refl, subst, sym}
use native.Mathlib.Omega.{arith}
use Rattle.image.proofs.body.Body.codes_rules.Goals as goal
use Rattle.image.proofs.body.Body.codes_rules.Goals.{After-rule, Start}

listed : (s : Start) → s.args.first + s.args.count ≤ entries_of s.args.self.now.image.now
unfolding list_end
listed s =
    subst (λ x. list_end x ≤ entries_of s.args.self.now.image.now) s.requires.1 (listed_inside _ _ s.requires.0.inside s.requires.0.form)

-- the codes, asked
asked : (c : After-rule) {x : Verdict} → c.rule.result ≡ x → kept_or (every legal (entries c.args.self.now.image.now c.args.first c.args.count)) Code c.args.n ≡ x
asked c e = ap (λ t. kept_or t Code c.args.n) (sym c.codes_legal.ensures) ∙ sym c.rule.ensures ∙ e

pub codes_legal-requires : goal.codes_legal-requires
codes_legal-requires c = listed (goal.at.codes_legal-requires c).Start

pub overflow_add-count : goal.overflow_add-count
overflow_add-count c = omega (arith, listed (goal.at.overflow_add-count c).Start, c.args.self.now.framed.entries)

pub returns-in_err-rule : goal.returns-in_err-rule
returns-in_err-rule c =
    let p = err_from_is_err_and c.from_residual.result c.from_residual.ensures.1 in
    rw (p.1, p.2) (rule_stop _ _ _ _ (asked (goal.at.returns-in_err-rule c).After-rule c.in_err-rule.was) ∙ codes_rules _ _ c.requires.0 _ _ c.requires.1)

pub returns : goal.returns
returns c =
    c.rule-2.ensures ∙ rule_on _ _ _ _ (asked (goal.at.returns c).After-rule c.in_ok-rule.was) refl ∙ codes_rules _ _ c.requires.0 _ _ c.requires.1
