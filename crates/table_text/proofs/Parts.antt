-- Laws of bytes parted at a byte, of single spaces, and of the first byte of a kind. Assumes nothing.
use Prim.Native.Nat.{ℕ, suc, ◌<◌, ◌≤◌}
use mathlib.Core.Bool.{Bool, true, false, cond, not, ◌&&◌}
use mathlib.Core.List.{List, [], ◌∷◌, ◌++◌}
use mathlib.Core.Path.{◌≡◌, refl, ap}
use native.Mathlib.Omega.{arith}
use borrow.Author.Tests.{eq-eqb, ne_eqb, eqb-true, not-true}
use lib.Dec.{eqb}
use lib.ListN.{length, take, drop, get_or}
use lib.Seq.{take-length}
use Rattle.lists.proofs.Laws.{every_head, every_append}
use Rattle.lists.specs.Lists.{every}
use Rattle.table_text.specs.Inside.{index_of, unspaced}
use Rattle.table_text.specs.Lines.{ahead, parts, starts_with, single}

-- none of the bytes is d
unfoldable pub free : ℕ → List ℕ → Bool
free d l = every (λ c. not (eqb c d)) l

module _ (d : ℕ) where
  -- the first byte and the others, either way; bytes and others behind them
  pub free_head : (c : ℕ) (cs : List ℕ) → free d (c ∷ cs) ≡ true → (eqb c d ≡ false) × (free d cs ≡ true)
  unfolding free
  free_head c cs f =
      let h = every_head (λ x. not (eqb x d)) c cs f in
      (not-true (eqb c d) h.0, h.1)

  pub free_cons : (c : ℕ) (cs : List ℕ) → eqb c d ≡ false → free d cs ≡ true → free d (c ∷ cs) ≡ true
  unfolding free
  free_cons c cs e f = rw e f

  pub free_append : (v w : List ℕ) → free d v ≡ true → free d w ≡ true → free d (v ++ w) ≡ true
  unfolding free
  free_append v w e f = every_append _ v w e f

  -- the first d parts what is before it from what is behind it; where there is none, all is one part
  pub parts_cut : (w y : List ℕ) → free d w ≡ true → parts d (w ++ d ∷ y) ≡ w ∷ parts d y
  unfolding parts ahead
  parts_cut [] y f = rw (eq-eqb d d refl)
  parts_cut (c ∷ w) y f =
      let h = free_head c w f in
      rw (h.0, parts_cut w y h.1)

  pub parts_none : (w : List ℕ) → free d w ≡ true → parts d w ≡ w ∷ []
  unfolding parts ahead
  parts_none [] f = refl
  parts_none (c ∷ w) f =
      let h = free_head c w f in
      rw (h.0, parts_none w h.1)

  -- there is always a first part
  pub parts_some : (l : List ℕ) → parts d l ≡ get_or (parts d l) 0 [] ∷ drop 1 (parts d l)
  unfolding parts ahead
  parts_some [] = refl
  parts_some (c ∷ cs) = go (eqb c d) (parts d cs)
    where
      go : (t : Bool) (ps : List (List ℕ))
          → cond t ([] ∷ ps) (ahead c ps) ≡ get_or (cond t ([] ∷ ps) (ahead c ps)) 0 [] ∷ drop 1 (cond t ([] ∷ ps) (ahead c ps))
      go true ps = refl
      go false [] = refl
      go false (p ∷ ps) = refl

  -- the index of the first d: none is before it, it is within the bytes or is their number, there the bytes are cut
  pub index_free : (l : List ℕ) → free d (take (index_of d l) l) ≡ true
  unfolding free index_of
  index_free [] = refl
  index_free (c ∷ cs) = go (eqb c d) refl (index_free cs)
    where
      go : (t : Bool) → eqb c d ≡ t → free d (take (index_of d cs) cs) ≡ true → free d (take (cond t 0 (suc (index_of d cs))) (c ∷ cs)) ≡ true
      go true e f = refl
      go false e f = rw e f

  pub index_within : (l : List ℕ) → index_of d l ≤ length l
  unfolding index_of
  index_within [] = omega arith
  index_within (c ∷ cs) = go (eqb c d) (index_within cs)
    where
      go : (t : Bool) → index_of d cs ≤ length cs → cond t 0 (suc (index_of d cs)) ≤ suc (length cs)
      go true h = omega arith
      go false h = omega arith

  pub index_cut : (l : List ℕ) → index_of d l < length l → l ≡ take (index_of d l) l ++ d ∷ drop (suc (index_of d l)) l
  unfolding index_of
  index_cut [] h = absurd (omega arith)
  index_cut (c ∷ cs) h = go (eqb c d) refl (index_cut cs) h
    where
      go : (t : Bool) → eqb c d ≡ t → (index_of d cs < length cs → cs ≡ take (index_of d cs) cs ++ d ∷ drop (suc (index_of d cs)) cs)
          → cond t 0 (suc (index_of d cs)) < suc (length cs)
          → c ∷ cs ≡ take (cond t 0 (suc (index_of d cs))) (c ∷ cs) ++ d ∷ drop (suc (cond t 0 (suc (index_of d cs)))) (c ∷ cs)
      go true e f k = rw (eqb-true c d e)
      go false e f k = ap (λ (x : List ℕ). c ∷ x) (f (omega arith))

  pub index_none : (l : List ℕ) → index_of d l ≡ length l → free d l ≡ true
  index_none l e = rw (e, take-length) at (index_free l)

-- bytes without a space stay as they are, and what is behind them is looked at by itself
pub single_free : (w y : List ℕ) → free 32 w ≡ true → single (w ++ y) ≡ w ++ single y
unfolding single
single_free [] y f = refl
single_free (c ∷ w) y f =
    let h = free_head 32 c w f in
    rw (h.0, single_free w y h.1)

pub single_none : (w : List ℕ) → free 32 w ≡ true → single w ≡ w
unfolding single
single_none [] f = refl
single_none (c ∷ w) f =
    let h = free_head 32 c w f in
    rw (h.0, single_none w h.1)

-- a run of spaces leaves one
pub single_run : (t : List ℕ) → single (32 ∷ t) ≡ 32 ∷ single (unspaced t)
unfolding single starts_with unspaced
single_run [] = refl
single_run (c ∷ cs) = go (eqb c 32) refl (single_run cs)
  where
    go : (t : Bool) → eqb c 32 ≡ t → single (32 ∷ cs) ≡ 32 ∷ single (unspaced cs)
        → cond t (single (c ∷ cs)) (32 ∷ single (c ∷ cs)) ≡ 32 ∷ single (cond t (unspaced cs) (c ∷ cs))
    go true e rest = rw (eqb-true c 32 e) rest
    go false e rest = refl

-- a byte that is no space parts a text: each side is looked at by itself
pub starts_past : (l : List ℕ) (c : ℕ) (rest : List ℕ) → eqb c 32 ≡ false → starts_with 32 (l ++ c ∷ rest) ≡ starts_with 32 l
unfolding starts_with
starts_past [] c rest e = e
starts_past (x ∷ l) c rest e = refl

pub single_past : (l : List ℕ) (c : ℕ) (rest : List ℕ) → (c ≡ 32 → ⊥) → single (l ++ c ∷ rest) ≡ single l ++ c ∷ single rest
unfolding single
single_past [] c rest n = rw (ne_eqb c 32 n)
single_past (x ∷ l) c rest n = rw (starts_past l c rest (ne_eqb c 32 n), single_past l c rest n) (go (eqb x 32 && starts_with 32 l))
  where
    go : (t : Bool)
        → cond t (single l ++ c ∷ single rest) (x ∷ single l ++ c ∷ single rest) ≡ cond t (single l) (x ∷ single l) ++ c ∷ single rest
    go true = refl
    go false = refl
