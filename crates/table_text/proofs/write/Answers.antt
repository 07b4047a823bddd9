-- `table_text::write` meets its contract. Assumes nothing.
use Prim.Native.Nat.{◌+◌, ◌*◌, ◌≤◌}
use mathlib.Core.Bool.{true}
use mathlib.Core.Path.{◌≡◌, refl, sym, ap, ◌∙◌}
use native.Mathlib.Omega.{arith}
use lib.ListN.{length, take}
use lib.Seq.{length-take-le}
use Rattle.std.proofs.lemmas.Result.{err_from_is_err_and}
use Rattle.image.specs.Check.{counts_good}
use Rattle.image.specs.declared.words.Shape.{Shape}
use Rattle.refusal.proofs.Verdicts.{rule_kept}
use Rattle.refusal.specs.Verdict.{fine, kept_or}
use Rattle.refusal.specs.declared.Refusal.TheVariants.{Header}
use Rattle.table_text.specs.Write.{counts_in, text_fault, image_of}
use Rattle.table_text.specs.Made.{Replies}
use Rattle.table_text.specs.Inside.{Small, checked_reply}
use Rattle.table_text.proofs.Written.{write_text, text_fits, write_header, write_image, few, image_built}
use Rattle.table_text.proofs.write.Goals as goal
use Rattle.table_text.proofs.write.Goals.{In_ok-s, In_ok-rule, After-put_header-size}

-- a text that fits has no fault, and these counts
fits : (c : In_ok-s) → (text_fault c.args.text.now ≡ fine) × (c.in_ok-s.s ≡ counts_in c.args.text.now)
fits c = text_fits c.args.text.now c.args.out.now _ (sym c.read_text.ensures.0 ∙ c.in_ok-s.was)

-- which are legal, so that its image is small
good : (c : In_ok-rule) → counts_good 1 (counts_in c.args.text.now) ≡ true
good c =
    let f = fits (goal.at.In_ok-rule c).In_ok-s in
    ap (counts_good 1) (sym f.1) ∙ sym c.counts_good.ensures ∙ rule_kept _ _ _ (sym c.rule.ensures ∙ c.in_ok-rule.was)

small : (c : In_ok-rule) → Small c.in_ok-s.s
small c =
    let f = fits (goal.at.In_ok-rule c).In_ok-s in
    rw f.1 (few _ f.0 (good c))

long : (c : After-put_header-size) → c.put_header-size.result ≤ length c.put_header-size.new.image
long c = omega (arith, c.put_header-size.ensures.0, (small (goal.at.After-put_header-size c).In_ok-rule).whole, c.put_header-size.array_long)

pub returns-in_err-s : goal.returns-in_err-s
returns-in_err-s c =
    let q = err_from_is_err_and c.from_residual.result c.from_residual.ensures.1 in
    let reply = write_text c.args.text.now c.args.out.now _ (sym c.read_text.ensures.0 ∙ c.in_err-s.was) in
    rw (q.1, q.2, reply) (refl, refl)

pub returns-in_err-rule : goal.returns-in_err-rule
returns-in_err-rule c =
    let q = err_from_is_err_and c.from_residual-in_err-rule.result c.from_residual-in_err-rule.ensures.1 in
    let f = fits (goal.at.returns-in_err-rule c).In_ok-s in
    let bad = ap (λ s. kept_or (counts_good 1 s) Header 0) (sym f.1) ∙ ap (λ t. kept_or t Header 0) (sym c.counts_good.ensures) ∙ sym c.rule.ensures ∙ c.in_err-rule.was in
    let reply = write_header c.args.text.now c.args.out.now f.0 _ bad in
    rw (q.1, q.2, reply) (refl, refl)

pub put_header-size-requires : goal.put_header-size-requires
put_header-size-requires c = small (goal.at.put_header-size-requires c).In_ok-rule

pub slice_bounds-image-end : goal.slice_bounds-image-end
slice_bounds-image-end c = long (goal.at.slice_bounds-image-end c).After-put_header-size

pub slice_bounds-hand_over-end : goal.slice_bounds-hand_over-end
slice_bounds-hand_over-end c = sym (length-take-le _ _ (long (goal.at.slice_bounds-hand_over-end c).After-put_header-size))

-- with its header it is the image of the text
pub returns : goal.returns
returns c =
    let a = c.args in
    let f = fits (goal.at.returns c).In_ok-s in
    let legal = good (goal.at.returns c).In_ok-rule in
    let size = c.put_header-size.ensures.0 ∙ ap (λ (s : Shape). s.list_at + 2 * s.entries) f.1 in
    let lent = take c.put_header-size.result c.put_header-size.new.image in
    let image : lent ≡ image_of a.text.now
    = rw (size, c.put_header-size.ensures.1, f.1, c.read_text.ensures.1 f.0) (image_built _ f.0 legal) in
    let handed : Replies (checked_reply lent a.out.now) c.hand_over.result c.hand_over.new.out
    = c.hand_over.ensures in
    rw (write_image a.text.now a.out.now f.0 legal) (rw image at handed)
