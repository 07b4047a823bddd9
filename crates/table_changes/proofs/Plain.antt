-- Actions that name none and have no list mean the same just where they are equal. Assumes nothing.
use Prim.Native.Nat.{ℕ}
use mathlib.Core.Path.{◌≡◌, refl, sym, ap}
use mathlib.Core.Bool.{Bool, true, false}
use mathlib.Core.List.{List}
use borrow.Author.Tests.{ne_eqb, eq-eqb}
use Rattle.image.specs.Tree.{Action, meaning}
use Rattle.image.specs.declared.record.Action.{Action as Coded}
use Rattle.image.specs.declared.record.Action.TheVariants as code
use Rattle.table_changes.specs.Same.{same}

-- the two are lists of codes, lists of records, or HoldTaps
abbrev pub both_name : Coded → Coded → Bool
both_name (code.MultipleKeyCodes e c) (code.MultipleKeyCodes f d) = true
both_name (code.MultipleActions e c) (code.MultipleActions f d) = true
both_name (code.HoldTap t h p) (code.HoldTap u k q) = true
both_name _ _ = false

-- an action that is one of these, before one that is not the same; and one that is none of them
pub not_codes : (x y : Coded) {e c : ℕ} → x ≡ code.MultipleKeyCodes e c → ((a b : ℕ) → y ≡ code.MultipleKeyCodes a b → ⊥) → both_name x y ≡ false
not_codes x y {e} {c} is h = rw is (go y h)
  where
    go : (y : Coded) → ((a b : ℕ) → y ≡ code.MultipleKeyCodes a b → ⊥) → both_name (code.MultipleKeyCodes e c) y ≡ false
    go (code.MultipleKeyCodes a b) h = absurd (h a b refl)
    go _ h = refl

pub not_actions : (x y : Coded) {e c : ℕ} → x ≡ code.MultipleActions e c → ((a b : ℕ) → y ≡ code.MultipleActions a b → ⊥) → both_name x y ≡ false
not_actions x y {e} {c} is h = rw is (go y h)
  where
    go : (y : Coded) → ((a b : ℕ) → y ≡ code.MultipleActions a b → ⊥) → both_name (code.MultipleActions e c) y ≡ false
    go (code.MultipleActions a b) h = absurd (h a b refl)
    go _ h = refl

pub not_hold : (x y : Coded) {t h p : ℕ} → x ≡ code.HoldTap t h p → ((a b c : ℕ) → y ≡ code.HoldTap a b c → ⊥) → both_name x y ≡ false
not_hold x y {t} {h} {p} is f = rw is (go y f)
  where
    go : (y : Coded) → ((a b c : ℕ) → y ≡ code.HoldTap a b c → ⊥) → both_name (code.HoldTap t h p) y ≡ false
    go (code.HoldTap a b c) f = absurd (f a b c refl)
    go _ f = refl

pub not_any : (x y : Coded) → ((a b : ℕ) → x ≡ code.MultipleKeyCodes a b → ⊥) → ((a b : ℕ) → x ≡ code.MultipleActions a b → ⊥) → ((a b c : ℕ) → x ≡ code.HoldTap a b c → ⊥)
    → both_name x y ≡ false
not_any (code.MultipleKeyCodes a b) y f g h = absurd (f a b refl)
not_any (code.MultipleActions a b) y f g h = absurd (g a b refl)
not_any (code.HoldTap a b c) y f g h = absurd (h a b c refl)
not_any _ y f g h = refl

module _ (first second : List ℕ) (f g : ℕ → Action) (m n : ℕ) where
  unlike : (x y : Coded) → both_name x y ≡ false → (x ≡ y → ⊥) → same (meaning first f m x) (meaning second g n y) ≡ false
  unfolding meaning same
  unlike code.NoOp code.NoOp e h = absurd (h refl)
  unlike code.NoOp _ e h = refl
  unlike code.Trans code.Trans e h = absurd (h refl)
  unlike code.Trans _ e h = refl
  unlike (code.KeyCode k) (code.KeyCode j) e h = rw (ne_eqb k j (λ p. h (ap code.KeyCode p)))
  unlike (code.KeyCode k) _ e h = refl
  unlike (code.MultipleKeyCodes a c) (code.MultipleKeyCodes b d) e h = cc
  unlike (code.MultipleKeyCodes a c) _ e h = refl
  unlike (code.MultipleActions a c) (code.MultipleActions b d) e h = cc
  unlike (code.MultipleActions a c) _ e h = refl
  unlike (code.Layer k) (code.Layer j) e h = rw (ne_eqb k j (λ p. h (ap code.Layer p)))
  unlike (code.Layer k) _ e h = refl
  unlike (code.DefaultLayer k) (code.DefaultLayer j) e h = rw (ne_eqb k j (λ p. h (ap code.DefaultLayer p)))
  unlike (code.DefaultLayer k) _ e h = refl
  unlike (code.HoldTap t a b) (code.HoldTap u c d) e h = cc
  unlike (code.HoldTap t a b) _ e h = refl

  itself : (x : Coded) → both_name x x ≡ false → same (meaning first f m x) (meaning second g n x) ≡ true
  unfolding meaning same
  itself code.NoOp e = refl
  itself code.Trans e = refl
  itself (code.KeyCode k) e = rw (eq-eqb k k refl)
  itself (code.MultipleKeyCodes a c) e = cc
  itself (code.MultipleActions a c) e = cc
  itself (code.Layer k) e = rw (eq-eqb k k refl)
  itself (code.DefaultLayer k) e = rw (eq-eqb k k refl)
  itself (code.HoldTap t a b) e = cc

  -- a test of two such actions, which says whether they are equal
  pub plain_same : (x y : Coded) (b : Bool) → both_name x y ≡ false → (b ≡ true → x ≡ y) → (x ≡ y → b ≡ true) → b ≡ same (meaning first f m x) (meaning second g n y)
  plain_same x y true e to from = rw (← to refl) (sym (itself x (rw (← to refl) at e)))
  plain_same x y false e to from = sym (unlike x y e (λ p. cc (from p)))
