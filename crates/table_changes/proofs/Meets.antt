-- What the test of two trees says, by the records that they are read from. Assumes nothing.
use Prim.Native.Nat.{ℕ, suc, ◌+◌, ◌*◌}
use mathlib.Core.Path.{◌≡◌, refl, sym, ap, ◌∙◌}
use mathlib.Core.Bool.{true, false, ◌&&◌, and-false, and-true}
use mathlib.Core.List.{List, [], ◌∷◌}
use lib.Dec.{eqb, ltb}
use lib.ListN.{length}
use Rattle.lists.specs.Lists.{alike, every}
use Rattle.lists.proofs.Laws.{alike_not}
use Rattle.image.specs.Tree.{Action, named, meaning, tree}
use Rattle.image.specs.Words.{list_start, words_from}
use Rattle.image.specs.Record.{children_in}
use Rattle.image.specs.Sound.{Meant}
use Rattle.image.specs.declared.record.Action.TheVariants as code
use Rattle.image.proofs.Entries.{entries_words, length_words}
use Rattle.image.proofs.Tests.{and_assoc}
use Rattle.table_changes.specs.Same.{same, same_all}

-- lists of other lengths name other actions
named_other : (f g : ℕ → Action) (ks js : List ℕ) → (length ks ≡ length js → ⊥) → same_all (named f ks) (named g js) ≡ false
unfolding same named
named_other f g [] [] n = absurd (n refl)
named_other f g [] (j ∷ js) n = refl
named_other f g (k ∷ ks) [] n = refl
named_other f g (k ∷ ks) (j ∷ js) n = rw (named_other f g ks js (λ e. n (ap suc e))) (and-false (same (f k) (g j)))

-- the words of an entry on
abbrev pub listed : List ℕ → ℕ → ℕ → List ℕ
listed img e count = words_from img (list_start img + 2 * e) count

module _ (first second : List ℕ) (m n : ℕ) where
  module _ (e c f d : ℕ) where
    pub codes_same : Meant first m (code.MultipleKeyCodes e c) → Meant second n (code.MultipleKeyCodes f d) → same (tree first m) (tree second n) ≡ alike (listed first e c) (listed second f d)
    unfolding meaning same
    codes_same p q = rw (p.is, q.is, entries_words first e c, entries_words second f d)

    pub codes_other : Meant first m (code.MultipleKeyCodes e c) → Meant second n (code.MultipleKeyCodes f d) → (c ≡ d → ⊥) → same (tree first m) (tree second n) ≡ false
    codes_other p q h = rw (codes_same p q) (alike_not (listed first e c) (listed second f d) (λ k. h (sym (length_words first (list_start first + 2 * e) c) ∙ ap length k ∙ length_words second (list_start second + 2 * f) d)))

    pub actions_same : Meant first m (code.MultipleActions e c) → Meant second n (code.MultipleActions f d)
        → same (tree first m) (tree second n) ≡ same_all (named (tree first) (listed first e c)) (named (tree second) (listed second f d))
    unfolding meaning same
    actions_same p q = rw (p.is, q.is, entries_words first e c, entries_words second f d)

    pub actions_other : Meant first m (code.MultipleActions e c) → Meant second n (code.MultipleActions f d) → (c ≡ d → ⊥) → same (tree first m) (tree second n) ≡ false
    actions_other p q h = rw (actions_same p q) (named_other _ _ (listed first e c) (listed second f d) (λ k. h (sym (length_words first (list_start first + 2 * e) c) ∙ k ∙ length_words second (list_start second + 2 * f) d)))

  pub hold_same : (t h p u h' p' : ℕ) → Meant first m (code.HoldTap t h p) → Meant second n (code.HoldTap u h' p')
      → same (tree first m) (tree second n) ≡ ((eqb t u && same (tree first h) (tree second h')) && same (tree first p) (tree second p'))
  unfolding meaning same
  hold_same t h p u h' p' a b = rw (a.is, b.is, and-true (eqb t u), and_assoc)

-- the records that a list names are lower
pub listed_lower : (img : List ℕ) (n e c : ℕ) → Meant img n (code.MultipleActions e c) → every (λ k. ltb k n) (listed img e c) ≡ true
unfolding children_in
listed_lower img n e c m = rw (entries_words img e c) at m.lower
