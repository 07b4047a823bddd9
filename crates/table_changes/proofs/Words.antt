-- Laws of words one after the other, of two images at once: compared as codes, and as the records that they number.
-- Assumes nothing.
use Prim.Native.Nat.{ℕ, ◌+◌, ◌-◌, ◌*◌, ◌<◌, ◌≤◌}
use mathlib.Core.Path.{◌≡◌}
use mathlib.Core.Bool.{true, false}
use mathlib.Core.List.{List}
use native.Mathlib.Omega.{arith}
use borrow.Author.Tests.{eq-eqb, ne_eqb}
use Rattle.lists.specs.Lists.{alike}
use Rattle.image.specs.Tree.{named, tree}
use Rattle.image.specs.Words.{word_at, words_from}
use Rattle.image.proofs.Entries.{words_after, words_step, words_on, words_none}
use Rattle.table_changes.specs.Same.{same, same_all}

-- of so many words of each, those after the first i
module _ (first second : List ℕ) (at other n : ℕ) where
  pub alike_on : (i : ℕ) → i < n → word_at first (at + 2 * i) ≡ word_at second (other + 2 * i)
      → alike (words_after first at n i) (words_after second other n i) ≡ alike (words_after first at n (i + 1)) (words_after second other n (i + 1))
  alike_on i h e = rw (words_step first at n i h, words_step second other n i h, eq-eqb _ _ e)

  pub alike_no : (i : ℕ) → i < n → (word_at first (at + 2 * i) ≡ word_at second (other + 2 * i) → ⊥) → alike (words_after first at n i) (words_after second other n i) ≡ false
  alike_no i h e = rw (words_step first at n i h, words_step second other n i h, ne_eqb _ _ e)

  pub alike_end : (i : ℕ) → n ≤ i → alike (words_after first at n i) (words_after second other n i) ≡ true
  unfolding words_from
  alike_end i h =
      let k : n - i ≡ 0 = omega arith in
      rw k

  -- the records that they number
  pub named_on : (i : ℕ) → i < n → same (tree first (word_at first (at + 2 * i))) (tree second (word_at second (other + 2 * i))) ≡ true
      → same_all (named (tree first) (words_after first at n i)) (named (tree second) (words_after second other n i))
      ≡ same_all (named (tree first) (words_after first at n (i + 1))) (named (tree second) (words_after second other n (i + 1)))
  unfolding same
  named_on i h e = rw (words_on first at n i (tree first) h, words_on second other n i (tree second) h, e)

  pub named_no : (i : ℕ) → i < n → same (tree first (word_at first (at + 2 * i))) (tree second (word_at second (other + 2 * i))) ≡ false
      → same_all (named (tree first) (words_after first at n i)) (named (tree second) (words_after second other n i)) ≡ false
  unfolding same
  named_no i h e = rw (words_on first at n i (tree first) h, words_on second other n i (tree second) h, e)

  pub named_end : (i : ℕ) → n ≤ i → same_all (named (tree first) (words_after first at n i)) (named (tree second) (words_after second other n i)) ≡ true
  unfolding same
  named_end i h = rw (words_none first (at + 2 * i) (n - i) (tree first) (omega arith), words_none second (other + 2 * i) (n - i) (tree second) (omega arith))
