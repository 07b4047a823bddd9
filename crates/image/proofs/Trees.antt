-- Laws of the records' trees: one step of a tree, and what is known of a record and of the lower ones.
-- Assumes nothing.
use mathlib.Core.Path.{◌≡◌, refl, sym, ap, subst, ◌∙◌}
use mathlib.Core.Bool.{Bool, true, false, cond}
use mathlib.Core.List.{List, [], ◌∷◌}
use mathlib.Core.Logic.{⊎_elim}
use Prim.Native.Nat.{ℕ, zero, suc, ◌<◌}
use native.Mathlib.Nat.{eq-or-lt_of_le, le_of_suc-le-suc, not-suc-le-zero}
use native.Mathlib.Omega.{arith}
use borrow.Author.Tests.{eqb-true, eqb-false, ltb-true, lt-ltb}
use lib.ListN.{length, length-append, get_or-append}
use lib.Seq.{get_or_at}
use lib.Dec.{eqb, ltb}
use Rattle.lists.specs.Lists.{every}
use Rattle.lists.proofs.Laws.{every_head}
use Rattle.image.specs.Words.{records_of, entries}
use Rattle.image.specs.Record.{action_of, record_of, action_at, children_in}
use Rattle.image.specs.Tree.{NoOp, MultipleActions, named, meaning, trees, below, tree}
use Rattle.image.specs.Inside.{Formed}
use Rattle.image.specs.Sound.{Good, Meant}
use Rattle.image.specs.declared.record.Action.{Action as Coded}
use Rattle.image.specs.declared.record.Action.TheVariants as code
use Rattle.image.proofs.Entries.{two_of}

-- the trees below n are n, and a lower record's tree is its own
length_trees : (img : List ℕ) (n : ℕ) → length (trees img n) ≡ n
unfolding trees
length_trees img zero = refl
length_trees img (suc n) = length-append (trees img n) (_ ∷ []) ∙ omega (arith, length_trees img n)

below_lower : (img : List ℕ) (n k : ℕ) → k < n → below img n k ≡ tree img k
unfolding trees tree
below_lower img zero k h = absurd (not-suc-le-zero h)
below_lower img (suc n) k h =
    ⊎_elim (λ e. rw e (get_or_at (trees img n) _ [] NoOp n (length_trees img n)))
    (λ l. get_or-append (trees img n) _ NoOp k (omega (arith, length_trees img n)) ∙ below_lower img n k l)
    (eq-or-lt_of_le (le_of_suc-le-suc h))

named_lower : (img : List ℕ) (n : ℕ) (ks : List ℕ) → every (λ k. ltb k n) ks ≡ true → named (below img n) ks ≡ named (tree img) ks
unfolding named
named_lower img n [] e = refl
named_lower img n (k ∷ ks) e =
    let both = every_head (λ k. ltb k n) k ks e in
    rw (below_lower img n k (ltb-true k n both.0), named_lower img n ks both.1)

means_lower : (img : List ℕ) (n : ℕ) (x : Coded) → every (λ k. ltb k n) (children_in img x) ≡ true → meaning img (below img n) n x ≡ meaning img (tree img) n x
unfolding meaning children_in
means_lower img n code.NoOp e = refl
means_lower img n code.Trans e = refl
means_lower img n (code.KeyCode k) e = refl
means_lower img n (code.MultipleKeyCodes a b) e = refl
means_lower img n (code.MultipleActions a b) e = ap MultipleActions (named_lower img n (entries img a b) e)
means_lower img n (code.Layer k) e = refl
means_lower img n (code.DefaultLayer k) e = refl
means_lower img n (code.HoldTap t h p) e =
    let two = two_of (λ k. ltb k n) h p e in
    rw (below_lower img n h (ltb-true h n two.0), below_lower img n p (ltb-true p n two.1))

-- the tree of a record whose children are lower, one step
pub tree_step : (img : List ℕ) (n : ℕ) → every (λ k. ltb k n) (children_in img (action_at img n)) ≡ true → tree img n ≡ meaning img (tree img) n (action_at img n)
unfolding tree
tree_step img n e = means_lower img n (action_at img n) e

-- a record of the image by its words
pub action_inside : (img : List ℕ) (n : ℕ) → n < records_of img → action_at img n ≡ record_of img n
unfolding action_at
action_inside img n h = rw (lt-ltb n (records_of img) h)

-- what is known of record n, where it is good, and its action was read and is x
pub meant : (img : List ℕ) (n : ℕ) {r x : Coded} → Good img n → r ≡ action_at img n → r ≡ x → Meant img n x
meant img n {r} {x} g e f =
    let same : action_at img n ≡ x = sym e ∙ f in
    subst (λ x. Meant img n x) same (record { is = tree_step img n g.lower; listed = g.listed; codes = g.codes; lower = g.lower })

-- of a lower record all is known
pub formed_lower : (img : List ℕ) (n k : ℕ) → Formed img n → k < n → Formed img k
formed_lower img n k f h = record { inside = omega (arith, f.inside); form = (f.before k h).form; before = λ j l. f.before j (omega arith) }

-- what holds of the action of each kind holds of a record's action
pub either : (P : Coded → Type 0) (t : Bool) (x y : Coded) → (t ≡ true → P x) → (t ≡ false → P y) → P (cond t x y)
either P true x y p q = p refl
either P false x y p q = q refl

pub by_kind : (P : Coded → Type 0) (k a b c : ℕ) → ((k ≡ 3 → ⊥) → P code.NoOp) → (k ≡ 1 → P code.Trans) → (k ≡ 2 → P (code.KeyCode a)) → (k ≡ 3 → P (code.MultipleKeyCodes a b)) → (k ≡ 4 → P (code.MultipleActions a b)) → (k ≡ 5 → P (code.Layer a)) → (k ≡ 6 → P (code.DefaultLayer a)) → (k ≡ 7 → P (code.HoldTap a b c)) → P (action_of k a b c)
unfolding action_of
by_kind P k a b c p0 p1 p2 p3 p4 p5 p6 p7 =
    let r7 : Coded = cond (eqb k 7) (code.HoldTap a b c) code.NoOp in
    let r6 : Coded = cond (eqb k 6) (code.DefaultLayer a) r7 in
    let r5 : Coded = cond (eqb k 5) (code.Layer a) r6 in
    let r4 : Coded = cond (eqb k 4) (code.MultipleActions a b) r5 in
    let r3 : Coded = cond (eqb k 3) (code.MultipleKeyCodes a b) r4 in
    let r2 : Coded = cond (eqb k 2) (code.KeyCode a) r3 in
    either P (eqb k 1) code.Trans r2 (λ t. p1 (eqb-true k 1 t)) (λ _.
    either P (eqb k 2) (code.KeyCode a) r3 (λ t. p2 (eqb-true k 2 t)) (λ _.
    either P (eqb k 3) (code.MultipleKeyCodes a b) r4 (λ t. p3 (eqb-true k 3 t)) (λ not-3.
    either P (eqb k 4) (code.MultipleActions a b) r5 (λ t. p4 (eqb-true k 4 t)) (λ _.
    either P (eqb k 5) (code.Layer a) r6 (λ t. p5 (eqb-true k 5 t)) (λ _.
    either P (eqb k 6) (code.DefaultLayer a) r7 (λ t. p6 (eqb-true k 6 t)) (λ _.
    either P (eqb k 7) (code.HoldTap a b c) code.NoOp (λ t. p7 (eqb-true k 7 t)) (λ _. p0 (eqb-false k 3 not-3))))))))
