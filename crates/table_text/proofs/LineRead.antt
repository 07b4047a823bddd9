-- Laws of a line that is read word by word. Assumes nothing.
use Prim.Native.Nat.{ℕ, suc, ◌+◌, ◌*◌, ◌<◌, ◌≤◌}
use mathlib.Core.List.{List, [], ◌∷◌, ◌++◌, append_assoc, append-nil}
use mathlib.Core.Path.{◌≡◌, refl, sym, ap, ◌∙◌}
use mathlib.Core.Logic.{⊎_elim}
use native.Mathlib.Nat.{eq-or-lt_of_le}
use native.Mathlib.Omega.{arith}
use lib.ListN.{length, length-append, take, drop}
use lib.Seq.{sets, take-length}
use Rattle.number.specs.Number.{read_decimal}
use Rattle.std.specs.Prelude.{Some, None}
use Rattle.table_text.specs.Lines.{parts, single, Row, Numbers, Unfit, before, read_words, row_of}
use Rattle.table_text.specs.Write.{bytes_of}
use Rattle.table_text.specs.Inside.{index_of, unspaced, ReadsLine}
use Rattle.table_text.proofs.Laid.{sets_append}
use Rattle.table_text.proofs.Parts.{parts_cut, parts_none, index_free, index_within, index_cut, index_none, single_free, single_none, single_run}
use Rattle.table_text.proofs.PlainText.{row_some}
use Rattle.table_text.proofs.WordBytes.{bytes_append, bytes_length}

-- the words of some bytes
abbrev pub words_in : List ℕ → Row
words_in l = read_words (parts 32 (single l))

-- the first word is all there is, or spaces and others are behind it
all_one : (l : List ℕ) → index_of 32 l ≡ length l → parts 32 (single l) ≡ take (index_of 32 l) l ∷ []
all_one l e =
    let f = index_none 32 l e in
    rw (single_none l f, parts_none 32 l f, e, take-length l)

one_more : (l : List ℕ) → index_of 32 l < length l
    → parts 32 (single l) ≡ take (index_of 32 l) l ∷ parts 32 (single (unspaced (drop (suc (index_of 32 l)) l)))
one_more l h =
    let w = take (index_of 32 l) l in
    let rest = drop (suc (index_of 32 l)) l in
    let f = index_free 32 l in
    ap (λ x. parts 32 (single x)) (index_cut 32 l h)
    ∙ ap (parts 32) (single_free w (32 ∷ rest) f ∙ ap (λ x. w ++ x) (single_run rest))
    ∙ parts_cut 32 w (single (unspaced rest)) f

-- a first word that is no number; that is the last; that others follow
module _ (l : List ℕ) where
  pub word_last : (v : ℕ) → index_of 32 l ≡ length l → read_decimal (take (index_of 32 l) l) ≡ Some v → words_in l ≡ before (Some v) (Numbers [])
  unfolding read_words
  word_last v e r = ap read_words (all_one l e) ∙ ap (λ x. before x (Numbers [])) r

  pub word_more : (v : ℕ) → index_of 32 l < length l → read_decimal (take (index_of 32 l) l) ≡ Some v
      → words_in l ≡ before (Some v) (words_in (unspaced (drop (suc (index_of 32 l)) l)))
  unfolding read_words
  word_more v h r = ap read_words (one_more l h) ∙ ap (λ x. before x (words_in (unspaced (drop (suc (index_of 32 l)) l)))) r

  pub word_odd : read_decimal (take (index_of 32 l) l) ≡ None → words_in l ≡ Unfit
  unfolding read_words
  word_odd r =
      ⊎_elim (λ e. ap read_words (all_one l e) ∙ ap (λ x. before x (Numbers [])) r)
      (λ h. ap read_words (one_more l h) ∙ ap (λ x. before x (words_in (unspaced (drop (suc (index_of 32 l)) l)))) r)
      (eq-or-lt_of_le (index_within 32 l))

-- behind the last space there is no word, and that is an empty one
pub words_none : words_in [] ≡ Unfit
unfolding read_words parts single read_decimal
words_none = refl

-- numbers in front of others
abbrev behind : List ℕ → Row → Row
behind ns (Numbers ms) = Numbers (ns ++ ms)
behind ns Unfit = Unfit

behind_none : (row : Row) → row ≡ behind [] row
behind_none (Numbers ms) = refl
behind_none Unfit = refl

behind_more : (ns : List ℕ) (v : ℕ) (row : Row) → behind ns (before (Some v) row) ≡ behind (ns ++ (v ∷ [])) row
behind_more ns v (Numbers ms) = ap Numbers (sym (append_assoc ns (v ∷ []) ms))
behind_more ns v Unfit = refl

-- a line of which n numbers are read and laid as words from word k on, and this is left
pub record SoFar (line was image : List ℕ) (k n : ℕ) (rest : Row) : Type 0 where
  pub ns : List ℕ
  pub many : length ns ≡ n
  pub reads : row_of line ≡ behind ns rest
  pub holds : image ≡ sets was (2 * k) (bytes_of ns)

pub so_start : (line was : List ℕ) (k : ℕ) → 0 < length line → SoFar line was was k 0 (words_in line)
unfolding bytes_of
so_start line was k h = record { ns = []; many = refl; reads = row_some line h ∙ behind_none (words_in line); holds = refl }

pub so_more : {line was image after : List ℕ} {k n : ℕ} {row : Row} (v : ℕ) (rest : Row) → SoFar line was image k n row → row ≡ before (Some v) rest
    → after ≡ sets image (2 * (k + n)) (bytes_of (v ∷ [])) → SoFar line was after k (n + 1) rest
so_more {line} {was} {image} {after} {k} {n} v rest s e h =
    let at : 2 * k + length (bytes_of s.ns) ≡ 2 * (k + n) = omega (arith, bytes_length s.ns, s.many) in
    record {
      ns = s.ns ++ (v ∷ []);
      many = simp length-append (omega (arith, s.many));
      reads = s.reads ∙ ap (behind s.ns) e ∙ behind_more s.ns v rest;
      holds = h ∙ rw (bytes_append s.ns (v ∷ []), sets_append was (2 * k) (bytes_of s.ns) (bytes_of (v ∷ [])), at, ← s.holds);
    }

-- it ends as a line that does not fit, whatever is laid; or with its numbers
pub so_odd : {line was image : List ℕ} {k n : ℕ} {row : Row} (after : List ℕ) → SoFar line was image k n row → row ≡ Unfit → ReadsLine line k was None after
so_odd {line} after s e =
    let odd : row_of line ≡ Unfit = s.reads ∙ ap (behind s.ns) e in
    (rw odd, λ ms is. (let no : ◌≡◌ {A = ℕ} 0 1 = cc in absurd (omega arith)))

pub so_end : {line was image : List ℕ} {k n : ℕ} → SoFar line was image k n (Numbers []) → n ≤ length line
    → ReadsLine line k was (Some n) image
so_end {line} {was} {image} {k} {n} s few =
    let is : row_of line ≡ Numbers s.ns = s.reads ∙ ap Numbers (append-nil s.ns) in
    (rw is (ap Some (sym s.many)), λ ms e. (let same : s.ns ≡ ms = cc in (rw (← same) (omega (arith, s.many)), s.holds ∙ ap (λ l. sets was (2 * k) (bytes_of l)) same)))

-- a line of no byte
pub so_empty : (line was : List ℕ) (k : ℕ) → length line ≡ 0 → ReadsLine line k was (Some 0) was
unfolding row_of bytes_of
so_empty [] was k e = (refl, λ ms is. (let same : ◌≡◌ {A = List ℕ} [] ms = cc in (rw (← same) (omega arith), ap (λ l. sets was (2 * k) (bytes_of l)) same)))
so_empty (c ∷ cs) was k e = absurd (omega arith)
