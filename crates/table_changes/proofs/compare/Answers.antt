-- `table_changes::compare` meets its contract: the refusals in their order, and then the list. Assumes nothing.
use Prim.Native.Nat.{ℕ}
use mathlib.Core.Path.{◌≡◌, sym, ◌∙◌}
use mathlib.Core.Bool.{Bool, true}
use mathlib.Core.List.{List}
use borrow.Author.Tests.{leb-true}
use Rattle.std.specs.Prelude.{Ok}
use Rattle.std.proofs.lemmas.Result.{err_from_is_err_and}
use Rattle.image.specs.Check.{fault_of, check_of}
use Rattle.image.specs.Sound.{Sound}
use Rattle.image.specs.Words.{shape_of}
use Rattle.image.specs.declared.words.Shape.{Shape}
use Rattle.image.proofs.Accepted.{accepted}
use Rattle.image.proofs.Faults.{fault_fine, fault_refused}
use Rattle.refusal.specs.Verdict.{fine}
use Rattle.refusal.proofs.Said.{said_one}
use Rattle.refusal.proofs.Verdicts.{rule_broken, rule_kept}
use Rattle.table_changes.specs.Changes.{sizes_equal}
use Rattle.table_changes.specs.Inside.{equal_sizes}
use Rattle.table_changes.proofs.Replies.{reply_first, reply_second, reply_shape, reply_room, reply_cells}
use Rattle.table_changes.proofs.compare.Goals as goal
use Rattle.table_changes.proofs.compare.Goals.{After-equal_sizes, In_ok-shape, In_ok-other, In_ok-rule}

-- an image that is accepted: no fault, its header's numbers, and what acceptance gives
record Good (img : List ℕ) (s : Shape) : Type 0 where
  none : fault_of img ≡ fine
  shape : s ≡ shape_of img
  sound : Sound img

good : (img : List ℕ) (s : Shape) → check_of img ≡ Ok s → Good img s
good img s e = record { none = (fault_fine img s e).0; shape = (fault_fine img s e).1; sound = (accepted img s e).1 }

first_good : (c : In_ok-shape) → Good c.args.first.now c.in_ok-shape.shape
first_good c = good _ _ (sym (said_one _ _ _ c.check.ensures) ∙ c.in_ok-shape.was)

second_good : (c : In_ok-other) → Good c.args.second.now c.in_ok-other.other
second_good c = good _ _ (sym (said_one _ _ _ c.check-2.ensures) ∙ c.in_ok-other.was)

-- what the test of the sizes says
sizes : (c : After-equal_sizes) {b : Bool} → c.equal_sizes.result ≡ b → sizes_equal c.args.first.now c.args.second.now ≡ b
unfolding equal_sizes sizes_equal
sizes c e =
    rw ((first_good (goal.at.After-equal_sizes c).In_ok-shape).shape, (second_good (goal.at.After-equal_sizes c).In_ok-other).shape) at (sym c.equal_sizes.ensures ∙ e)

pub returns-in_err-shape : goal.returns-in_err-shape
returns-in_err-shape c =
    let p = err_from_is_err_and c.from_residual.result c.from_residual.ensures.1 in
    rw (p.1, p.2) (reply_first _ _ _ _ (fault_refused _ _ (sym (said_one _ _ _ c.check.ensures) ∙ c.in_err-shape.was)))

pub returns-in_err-other : goal.returns-in_err-other
returns-in_err-other c =
    let p = err_from_is_err_and c.from_residual-in_err-other.result c.from_residual-in_err-other.ensures.1 in
    let one = first_good (goal.at.returns-in_err-other c).In_ok-shape in
    rw (p.1, p.2) (reply_second _ _ _ one.none _ (fault_refused _ _ (sym (said_one _ _ _ c.check-2.ensures) ∙ c.in_err-other.was)))

pub returns-in_err-rule : goal.returns-in_err-rule
returns-in_err-rule c =
    let p = err_from_is_err_and c.from_residual-in_err-rule.result c.from_residual-in_err-rule.ensures.1 in
    let one = first_good (goal.at.returns-in_err-rule c).In_ok-shape in
    let two = second_good (goal.at.returns-in_err-rule c).In_ok-other in
    let b = rule_broken _ _ _ (sym c.rule.ensures ∙ c.in_err-rule.was) in
    rw (p.1, p.2) (reply_shape _ _ _ one.none two.none _ (cc) (sizes (goal.at.returns-in_err-rule c).After-equal_sizes b.0))

pub invariant_of-pair : goal.invariant_of-pair
invariant_of-pair c =
    let g = first_good (goal.at.invariant_of-pair c).In_ok-shape in
    record { sound = (g.sound, (second_good (goal.at.invariant_of-pair c).In_ok-other).sound); read = g.shape }

-- the sizes are equal
equal : (c : In_ok-rule) → sizes_equal c.args.first.now c.args.second.now ≡ true
equal c = sizes (goal.at.In_ok-rule c).After-equal_sizes (rule_kept _ _ _ (sym c.rule.ensures ∙ c.in_ok-rule.was))

pub returns-in_err-rule-2 : goal.returns-in_err-rule-2
returns-in_err-rule-2 c =
    let p = err_from_is_err_and c.from_residual-in_err-rule-2.result c.from_residual-in_err-rule-2.ensures.1 in
    let one = first_good (goal.at.returns-in_err-rule-2 c).In_ok-shape in
    let two = second_good (goal.at.returns-in_err-rule-2 c).In_ok-other in
    let b = rule_broken _ _ _ (sym c.rule-2.ensures ∙ c.in_err-rule-2.was) in
    rw (p.1, p.2) (reply_room _ _ _ one.none two.none (equal (goal.at.returns-in_err-rule-2 c).In_ok-rule) _ (cc) (rw c.cells.ensures at b.0))

pub list_changes-requires : goal.list_changes-requires
list_changes-requires c = leb-true _ _ (rw c.cells.ensures at (rule_kept _ _ _ (sym c.rule-2.ensures ∙ c.in_ok-rule-2.was)))

pub returns : goal.returns
returns c =
    let one = first_good (goal.at.returns c).In_ok-shape in
    let two = second_good (goal.at.returns c).In_ok-other in
    let room = rw c.cells.ensures at (rule_kept _ _ _ (sym c.rule-2.ensures ∙ c.in_ok-rule-2.was)) in
    reply_cells _ _ _ one.none two.none (equal (goal.at.returns c).In_ok-rule) _ _ room c.list_changes.ensures.0 c.list_changes.ensures.1
