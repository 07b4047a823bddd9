-- The trees of an accepted image: every code in them is legal, and every HoldTap in them is the tree of its record number.
-- Assumes nothing.
use mathlib.Core.Path.{◌≡◌, refl, sym, subst}
use mathlib.Core.Bool.{true, ◌&&◌}
use mathlib.Core.List.{List, [], ◌∷◌}
use Prim.Native.Nat.{ℕ, zero, suc, ◌<◌}
use native.Mathlib.Omega.{arith}
use native.Mathlib.Nat.{not-suc-le-zero}
use borrow.Author.Tests.{ltb-true}
use lib.Dec.{ltb}
use Rattle.codes.specs.Codes.{legal}
use Rattle.lists.specs.Lists.{every}
use Rattle.lists.proofs.Laws.{both_true}
use Rattle.image.specs.Words.{entries}
use Rattle.image.specs.Record.{action_at, codes_in, children_in, cell_at}
use Rattle.image.specs.Tree.{Action, Actions, NoOp, Trans, KeyCode, MultipleKeyCodes, MultipleActions, Layer, DefaultLayer, HoldTap, end, ◌&◌, named, meaning, tree}
use Rattle.image.specs.Sound.{Sound}
use Rattle.image.specs.Table.{table_of, tree_in}
use Rattle.image.specs.declared.record.Action.{Action as Coded}
use Rattle.image.specs.declared.record.Action.TheVariants as code
use Rattle.std.specs.Prelude.{Option, Some, None}
use Rattle.image.proofs.Accepted.{tells}
use Rattle.layout.specs.Packed.{hold_of, tap_of}

unfoldable mutual
  pub Rooted : List ℕ → Action → Type 0
  Rooted img NoOp = Unit
  Rooted img Trans = Unit
  Rooted img (KeyCode k) = legal k ≡ true
  Rooted img (MultipleKeyCodes ks) = every legal ks ≡ true
  Rooted img (MultipleActions actions) = AllRooted img actions
  Rooted img (Layer v) = Unit
  Rooted img (DefaultLayer v) = Unit
  Rooted img (HoldTap i timeout hold tap) = (tree img i ≡ HoldTap i timeout hold tap) × Rooted img hold × Rooted img tap

  pub AllRooted : List ℕ → Actions → Type 0
  AllRooted img end = Unit
  AllRooted img (action & actions) = Rooted img action × AllRooted img actions

module _ (img : List ℕ) where
  rooted_named : (n : ℕ) → ((k : ℕ) → k < n → Rooted img (tree img k)) → (ks : List ℕ) → every (λ k. ltb k n) ks ≡ true → AllRooted img (named (tree img) ks)
  unfolding Rooted named
  rooted_named n below [] e = tt
  rooted_named n below (k ∷ ks) e =
      let h = both_true (ltb k n) (every (λ k. ltb k n) ks) e in
      (below k (ltb-true k n h.0), rooted_named n below ks h.1)

  rooted_means : (n : ℕ) → ((k : ℕ) → k < n → Rooted img (tree img k)) → (a : Coded) → tree img n ≡ meaning img (tree img) n a → every legal (codes_in img a) ≡ true → every (λ k. ltb k n) (children_in img a) ≡ true
      → Rooted img (meaning img (tree img) n a)
  unfolding Rooted meaning codes_in children_in
  rooted_means n below code.NoOp e codes lower = tt
  rooted_means n below code.Trans e codes lower = tt
  rooted_means n below (code.KeyCode k) e codes lower = (both_true (legal k) true codes).0
  rooted_means n below (code.MultipleKeyCodes f c) e codes lower = codes
  rooted_means n below (code.MultipleActions f c) e codes lower = rooted_named n below (entries img f c) lower
  rooted_means n below (code.Layer v) e codes lower = tt
  rooted_means n below (code.DefaultLayer v) e codes lower = tt
  rooted_means n below (code.HoldTap t h p) e codes lower =
      let a = both_true (ltb h n) (ltb p n && true) lower in
      let b = both_true (ltb p n) true a.1 in
      (e, below h (ltb-true h n a.0), below p (ltb-true p n b.0))

  pub rooted : Sound img → (n : ℕ) → Rooted img (tree img n)
  rooted s n = under (suc n) n (omega arith)
    where
      under : (m k : ℕ) → k < m → Rooted img (tree img k)
      under zero k h = absurd (not-suc-le-zero h)
      under (suc m) k h =
          let e = tells img k s refl refl in
          subst (Rooted img) (sym e.is) (rooted_means k (λ j l. under m j (omega arith)) (action_at img k) e.is e.codes e.lower)

  pub rooted_cell : Sound img → (layer row column : ℕ) → Rooted img ((table_of img).cell layer row column)
  unfolding Rooted tree_in
  rooted_cell s layer row column = go (cell_at img layer row column)
    where
      go : (c : Option ℕ) → Rooted img (tree_in img c)
      go (Some n) = rooted s n
      go None = tt

  pub rooted_hold : (a : Action) → Rooted img a → Rooted img (hold_of a)
  unfolding Rooted
  rooted_hold NoOp r = tt
  rooted_hold Trans r = tt
  rooted_hold (KeyCode k) r = tt
  rooted_hold (MultipleKeyCodes ks) r = tt
  rooted_hold (MultipleActions actions) r = tt
  rooted_hold (Layer v) r = tt
  rooted_hold (DefaultLayer v) r = tt
  rooted_hold (HoldTap i t h p) r = r.1

  pub rooted_tap : (a : Action) → Rooted img a → Rooted img (tap_of a)
  unfolding Rooted
  rooted_tap NoOp r = tt
  rooted_tap Trans r = tt
  rooted_tap (KeyCode k) r = tt
  rooted_tap (MultipleKeyCodes ks) r = tt
  rooted_tap (MultipleActions actions) r = tt
  rooted_tap (Layer v) r = tt
  rooted_tap (DefaultLayer v) r = tt
  rooted_tap (HoldTap i t h p) r = r.2
