-- `image::body::Body::codes_legal` meets its contract: each turn tests the entry reached. Assumes nothing.
use Rattle.std.proofs.Common.{◌≡◌, ◌+◌, ◌-◌, ◌<◌, ◌≤◌, Bool, true, false}
use Rattle.codes.specs.Codes.{legal}
use Rattle.lists.specs.Lists.{every}
use Rattle.image.proofs.Entries.{all_no, all_none, all_on}
use Rattle.image.specs.Words.{entries, entry_of}
use mathlib.Core.Path.{◌∙◌, ap, sym}
use native.Mathlib.Omega.{arith}
use Rattle.image.proofs.body.Body.codes_legal.Goals as goal
use Rattle.image.proofs.body.Body.codes_legal.Goals.{After-is_legal}

-- the entry reached, tested
tested : (c : After-is_legal) (b : Bool) → c.is_legal.result ≡ b → legal (entry_of c.args.self.now.image.now c.loop-at.at) ≡ b
tested c b e = ap legal (sym c.entry.ensures) ∙ sym c.is_legal.ensures ∙ e

pub returns-then-not-is_legal : goal.returns-then-not-is_legal
returns-then-not-is_legal c =
    let some : 0 < c.args.first + c.args.count - c.loop-at.at = omega (arith, c.loop-at-test.true) in
    sym (c.loop-at.invariant ∙ all_no legal _ _ _ some (tested (goal.at.returns-then-not-is_legal c).After-is_legal false c.if-not-is_legal.true))

pub loop-at-preserved : goal.loop-at-preserved
loop-at-preserved c =
    let some : 0 < c.args.first + c.args.count - c.loop-at.at = omega (arith, c.loop-at-test.true) in
    let rest : c.args.first + c.args.count - c.loop-at.at - 1 ≡ c.args.first + c.args.count - (c.loop-at.at + 1) = omega arith in
    c.loop-at.invariant ∙ all_on legal _ _ _ some (tested (goal.at.loop-at-preserved c).After-is_legal true c.if-not-is_legal.false) ∙ ap (λ n. every legal (entries c.args.self.now.image.now (c.loop-at.at + 1) n)) rest

pub returns : goal.returns
returns c =
    let none : c.args.first + c.args.count - c.loop-at.at ≤ 0 = omega (arith, c.loop-at-test.false) in
    sym (c.loop-at.invariant ∙ all_none legal _ _ _ none)
