-- Laws of cells and their three bytes, of which a loop lays one behind those that stand in a buffer. Assumes nothing.
use Prim.Native.Nat.{ℕ, zero, suc, ◌+◌, ◌*◌, ◌≤◌}
use mathlib.Core.Path.{◌≡◌, refl, sym, ap, ◌∙◌}
use mathlib.Core.Bool.{Bool, true, false}
use mathlib.Core.List.{List, [], ◌∷◌, ◌++◌}
use native.Mathlib.Omega.{arith}
use lib.ListN.{length, take, drop}
use borrow.Rule.Slice.PartMut.{put_mid}
use Rattle.std.proofs.Common.{length-append, append-nil}
use Rattle.std.proofs.lemmas.List.{drop-drop}
use Rattle.std.proofs.lemmas.List.Elements.{filter-append}
use Rattle.std.proofs.lemmas.Slice.{take-put_mid, drop-put_mid}
use Rattle.lists.specs.Lists.{keep, laid}
use Rattle.lists.proofs.Laws.{laid_is}
use Rattle.table_changes.specs.Changes.{from, placed}

-- three bytes a cell
pub length_placed : (rows columns : ℕ) (cells : List ℕ) → length (placed rows columns cells) ≡ 3 * length cells
unfolding placed
length_placed rows columns [] = refl
length_placed rows columns (i ∷ cells) = omega (arith, length_placed rows columns cells)

placed_append : (rows columns : ℕ) (cells more : List ℕ) → placed rows columns (cells ++ more) ≡ placed rows columns cells ++ placed rows columns more
unfolding placed
placed_append rows columns [] more = refl
placed_append rows columns (i ∷ cells) more = rw (placed_append rows columns cells more)

-- one number more
from_end : (i n : ℕ) → from i (suc n) ≡ from i n ++ (i + n) ∷ []
unfolding from
from_end i zero =
    let s : i + 0 ≡ i = omega arith in
    rw s
from_end i (suc n) =
    let s : i + suc n ≡ i + 1 + n = omega arith in
    rw s (ap (λ l. i ∷ l) (from_end (i + 1) n))

-- of the numbers below i, those that pass a test: how many, and their places at the start of a buffer
pub record Laid (p : ℕ → Bool) (rows columns i count : ℕ) (out was : List ℕ) : Type 0 where
  pub counted : count ≡ length (keep p (from 0 i))
  pub few : count ≤ i
  pub front : take (3 * count) out ≡ placed rows columns (keep p (from 0 i))
  pub rest : drop (3 * count) out ≡ drop (3 * count) was

module _ (p : ℕ → Bool) (rows columns : ℕ) where
  pub laid_none : (was : List ℕ) → Laid p rows columns 0 0 was was
  unfolding from placed
  laid_none was = record { counted = refl; few = omega arith; front = refl; rest = refl }

  module _ (i count : ℕ) (out was : List ℕ) (l : Laid p rows columns i count out was) where
    kept_end : keep p (from 0 (i + 1)) ≡ keep p (from 0 i) ++ keep p (i ∷ [])
    kept_end =
        let s : i + 1 ≡ suc i = omega arith in
        let z : 0 + i ≡ i = omega arith in
        rw (s, from_end 0 i, z) (filter-append p (from 0 i) (i ∷ []))

    kept_no : p i ≡ false → keep p (from 0 (i + 1)) ≡ keep p (from 0 i)
    kept_no e = kept_end ∙ rw (e, append-nil)

    kept_yes : p i ≡ true → keep p (from 0 (i + 1)) ≡ keep p (from 0 i) ++ i ∷ []
    kept_yes e = kept_end ∙ rw e

    pub laid_no : p i ≡ false → Laid p rows columns (i + 1) count out was
    laid_no e = record { counted = rw (kept_no e) l.counted; few = omega (arith, l.few); front = rw (kept_no e) l.front; rest = l.rest }

    pub laid_on : (bytes : List ℕ) (k : ℕ) → p i ≡ true → bytes ≡ placed rows columns (i ∷ []) → k ≡ 3 → 3 * count + 3 ≤ length out
        → Laid p rows columns (i + 1) (count + 1) (put_mid (3 * count) k out bytes) was
    laid_on bytes k e b is room =
        let long : length bytes ≡ 3 = ap length b ∙ length_placed rows columns (i ∷ []) in
        let next : 3 * (count + 1) ≡ 3 * count + 3 = omega arith in
        record {
          counted = rw (kept_yes e, length-append) (omega (arith, l.counted));
          few = omega (arith, l.few);
          front =
              take-put_mid (3 * count) k out bytes (3 * (count + 1)) (omega (arith, long)) (omega arith)
              ∙ rw (kept_yes e, l.front, b) (sym (placed_append rows columns (keep p (from 0 i)) (i ∷ [])));
          rest =
              drop-put_mid (3 * count) k out bytes (3 * (count + 1)) (omega arith) (omega arith) (omega (arith, long))
              ∙ rw (next, ← drop-drop 3 (3 * count) out, ← drop-drop 3 (3 * count) was, l.rest);
        }

    pub laid_all : (n : ℕ) → n ≡ i → (count ≡ length (keep p (from 0 n))) × (out ≡ laid (placed rows columns (keep p (from 0 n))) was)
    laid_all n e =
        let long : 3 * count ≡ length (placed rows columns (keep p (from 0 i))) = rw l.counted (sym (length_placed rows columns (keep p (from 0 i)))) in
        rw e (l.counted, laid_is out was _ (3 * count) long l.front l.rest)
