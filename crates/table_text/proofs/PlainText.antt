-- The plain form of a line is its numbers written, and numbers written are read back. Assumes nothing.
use Prim.Native.Nat.{ℕ, ◌<◌}
use mathlib.Core.Bool.{Bool, true, false, cond, not, ◌&&◌, and-false}
use mathlib.Core.List.{List, [], ◌∷◌, ◌++◌, append_assoc, append-nil}
use mathlib.Core.Path.{◌≡◌, refl, sym, ap, ◌∙◌}
use native.Mathlib.Omega.{arith}
use borrow.Author.Tests.{ne_eqb, eqb-true, leb-true}
use lib.Dec.{eqb, leb}
use lib.ListN.{length, drop, get_or, length-append}
use Rattle.lists.proofs.Laws.{every_head}
use Rattle.lists.specs.Lists.{every}
use Rattle.number.specs.Number.{is_digit, read_decimal}
use Rattle.std.specs.Prelude.{Option, Some, None}
use Rattle.text.specs.Text.{decimal_of}
use Rattle.table_text.proofs.Decimal.{decimal_some, decimal_no_space, decimal_no_newline, read_written, unzeroed_word}
use Rattle.table_text.proofs.Parts.{free, free_head, free_append, parts_cut, parts_none, parts_some, single_free, single_none, single_past}
use Rattle.table_text.specs.Lines.{ahead, parts, starts_with, single, Row, Numbers, Unfit, before, read_words, row_of}
use Rattle.table_text.specs.Plain.{starts_digit, unzeroed, plain}
use Rattle.table_text.specs.Print.{line_of}

-- a byte that is no digit parts a text: each side loses its own zeros
pub not_zero : (c : ℕ) → is_digit c ≡ false → eqb c 48 ≡ false
unfolding is_digit
not_zero c n = ne_eqb c 48 other
  where
    other : c ≡ 48 → ⊥
    other e = let z : ◌≡◌ {A = ℕ} 0 1 = cc (ap is_digit e) in omega arith

pub starts_past : (l : List ℕ) (c : ℕ) (rest : List ℕ) → is_digit c ≡ false → starts_digit (l ++ c ∷ rest) ≡ starts_digit l
unfolding starts_digit
starts_past [] c rest n = n
starts_past (x ∷ l) c rest n = refl

pub unzeroed_past : (b : Bool) (l : List ℕ) (c : ℕ) (rest : List ℕ) → is_digit c ≡ false
    → unzeroed b (l ++ c ∷ rest) ≡ unzeroed b l ++ c ∷ unzeroed false rest
unfolding unzeroed
unzeroed_past b [] c rest n = rw (not_zero c n, and-false, n)
unzeroed_past b (x ∷ l) c rest n =
    rw (starts_past l c rest n, unzeroed_past false l c rest n, unzeroed_past (is_digit x) l c rest n)
    (go (not b && (eqb x 48 && starts_digit l)))
  where
    go : (t : Bool)
        → cond t (unzeroed false l ++ c ∷ unzeroed false rest) (x ∷ unzeroed (is_digit x) l ++ c ∷ unzeroed false rest)
        ≡ cond t (unzeroed false l) (x ∷ unzeroed (is_digit x) l) ++ c ∷ unzeroed false rest
    go true = refl
    go false = refl

-- so the lines of a text have their plain forms by themselves
pub plain_past : (l rest : List ℕ) → plain (l ++ 10 ∷ rest) ≡ plain l ++ 10 ∷ plain rest
unfolding plain is_digit
plain_past l rest = rw (single_past l 10 rest (omega arith)) (unzeroed_past false (single l) 10 (single rest) refl)

-- parts with a byte d between two
unfoldable pub joined : ℕ → List (List ℕ) → List ℕ
joined d [] = []
joined d (p ∷ []) = p
joined d (p ∷ (q ∷ ps)) = p ++ d ∷ joined d (q ∷ ps)

pub joined_more : (d : ℕ) (p : List ℕ) (ps : List (List ℕ)) → ps ≡ get_or ps 0 [] ∷ drop 1 ps → joined d (p ∷ ps) ≡ p ++ d ∷ joined d ps
unfolding joined
joined_more d p [] e = let z : ◌≡◌ {A = ℕ} 0 1 = ap length e in absurd (omega arith)
joined_more d p (q ∷ ps) e = refl

pub joined_ahead : (d c : ℕ) (ps : List (List ℕ)) → joined d (ahead c ps) ≡ c ∷ joined d ps
unfolding joined ahead
joined_ahead d c [] = refl
joined_ahead d c (p ∷ []) = refl
joined_ahead d c (p ∷ (q ∷ ps)) = refl

-- give the bytes again that were parted
pub joined_parts : (d : ℕ) (l : List ℕ) → joined d (parts d l) ≡ l
unfolding parts joined
joined_parts d [] = refl
joined_parts d (c ∷ cs) = go (eqb c d) refl (joined_parts d cs)
  where
    go : (t : Bool) → eqb c d ≡ t → joined d (parts d cs) ≡ cs → joined d (cond t ([] ∷ parts d cs) (ahead c (parts d cs))) ≡ c ∷ cs
    go true e r = joined_more d [] (parts d cs) (parts_some d cs) ∙ rw (r, eqb-true c d e)
    go false e r = joined_ahead d c (parts d cs) ∙ ap (λ (x : List ℕ). c ∷ x) r

-- words that were read: the first is the first number, and the others were read
pub words_first : (w : List ℕ) (ws : List (List ℕ)) (ns : List ℕ) → read_words (w ∷ ws) ≡ Numbers ns
    → (n : ℕ) × (ms : List ℕ) × (ns ≡ n ∷ ms) × (read_decimal w ≡ Some n) × (read_words ws ≡ Numbers ms)
unfolding read_words
words_first w ws ns e = go (read_decimal w) (read_words ws) refl refl e
  where
    go : (x : Option ℕ) (row : Row) → read_decimal w ≡ x → read_words ws ≡ row → before x row ≡ Numbers ns
        → (n : ℕ) × (ms : List ℕ) × (ns ≡ n ∷ ms) × (read_decimal w ≡ Some n) × (read_words ws ≡ Numbers ms)
    go (Some n) (Numbers ms) p q r = (n, ms, cc, p, q)
    go (Some n) Unfit p q r = let z : ◌≡◌ {A = ℕ} 0 1 = cc in absurd (omega arith)
    go None row p q r = let z : ◌≡◌ {A = ℕ} 0 1 = cc in absurd (omega arith)

-- joined by spaces, and without leading zeros, they are the numbers' line
pub words_plain : (w : List ℕ) (ws : List (List ℕ)) (ns : List ℕ) → read_words (w ∷ ws) ≡ Numbers ns
    → unzeroed false (joined 32 (w ∷ ws)) ++ 10 ∷ [] ≡ line_of ns
unfolding joined line_of read_words is_digit
words_plain w [] ns e =
    let (n, ms, q, r, more) = words_first w [] ns e in
    let z : ms ≡ [] = cc in
    rw (q, z, unzeroed_word w n r)
words_plain w (v ∷ ws) ns e =
    let (n, ms, q, r, more) = words_first w (v ∷ ws) ns e in
    let (m, ks, p, _, _) = words_first v ws ms more in
    rw (q, p, unzeroed_past false w 32 (joined 32 (v ∷ ws)) refl, unzeroed_word w n r, append_assoc)
    (ap (λ (x : List ℕ). decimal_of n ++ 32 ∷ x) (words_plain v ws ms more ∙ ap line_of p))

pub words_line : (l ns : List ℕ) → read_words (parts 32 l) ≡ Numbers ns → unzeroed false l ++ 10 ∷ [] ≡ line_of ns
words_line l ns e =
    let q = parts_some 32 l in
    ap (λ (x : List ℕ). unzeroed false x ++ 10 ∷ []) (sym (sym (ap (joined 32) q) ∙ joined_parts 32 l))
    ∙ words_plain _ _ ns (sym (ap read_words q) ∙ e)

-- the plain form of a line with its newline is the numbers' line, and each of its numbers is a word
pub line_plain : (line ns : List ℕ) → row_of line ≡ Numbers ns → plain line ++ 10 ∷ [] ≡ line_of ns
unfolding row_of plain single unzeroed line_of
line_plain [] ns e =
    let q : ns ≡ [] = cc in
    rw q
line_plain (c ∷ cs) ns e = words_line (single (c ∷ cs)) ns e

-- numbers written, without the newline
unfoldable pub written : List ℕ → List ℕ
written [] = []
written (n ∷ []) = decimal_of n
written (n ∷ (m ∷ ns)) = decimal_of n ++ 32 ∷ written (m ∷ ns)

pub line_written : (ns : List ℕ) → line_of ns ≡ written ns ++ 10 ∷ []
unfolding line_of written
line_written [] = refl
line_written (n ∷ []) = refl
line_written (n ∷ (m ∷ ns)) = rw (append_assoc, line_written (m ∷ ns))

-- no newline is within
pub written_free : (ns : List ℕ) → free 10 (written ns) ≡ true
unfolding written free
written_free [] = refl
written_free (n ∷ []) = decimal_no_newline n
written_free (n ∷ (m ∷ ns)) =
    free_append 10 (decimal_of n) (32 ∷ written (m ∷ ns)) (decimal_no_newline n) (written_free (m ∷ ns))

-- no space is in front, so none goes
pub starts_free : (w y : List ℕ) → 0 < length w → free 32 w ≡ true → starts_with 32 (w ++ y) ≡ false
unfolding starts_with
starts_free [] y l f = absurd (omega arith)
starts_free (c ∷ w) y l f = (free_head 32 c w f).0

pub written_starts : (n : ℕ) (ns : List ℕ) → starts_with 32 (written (n ∷ ns)) ≡ false
unfolding written
written_starts n [] =
    rw append-nil at (starts_free (decimal_of n) [] (decimal_some n) (decimal_no_space n))
written_starts n (m ∷ ns) = starts_free (decimal_of n) (32 ∷ written (m ∷ ns)) (decimal_some n) (decimal_no_space n)

pub written_single : (ns : List ℕ) → single (written ns) ≡ written ns
unfolding written single
written_single [] = refl
written_single (n ∷ []) = single_none (decimal_of n) (decimal_no_space n)
written_single (n ∷ (m ∷ ns)) =
    single_free (decimal_of n) (32 ∷ written (m ∷ ns)) (decimal_no_space n)
    ∙ rw (written_starts m ns, written_single (m ∷ ns))

-- its words are the numbers, so it is read back
pub written_words : (n : ℕ) (ns : List ℕ) → every (λ k. leb k 65535) (n ∷ ns) ≡ true
    → read_words (parts 32 (written (n ∷ ns))) ≡ Numbers (n ∷ ns)
unfolding written read_words
written_words n [] f =
    let h = every_head (λ k. leb k 65535) n [] f in
    rw (parts_none 32 (decimal_of n) (decimal_no_space n), read_written n (leb-true n 65535 h.0))
written_words n (m ∷ ns) f =
    let h = every_head (λ k. leb k 65535) n (m ∷ ns) f in
    rw (
      parts_cut 32 (decimal_of n) (written (m ∷ ns)) (decimal_no_space n),
      read_written n (leb-true n 65535 h.0),
      written_words m ns h.1,
    )

pub row_some : (line : List ℕ) → 0 < length line → row_of line ≡ read_words (parts 32 (single line))
unfolding row_of
row_some [] l = absurd (omega arith)
row_some (c ∷ cs) l = refl

pub written_some : (n : ℕ) (ns : List ℕ) → 0 < length (written (n ∷ ns))
unfolding written
written_some n [] = decimal_some n
written_some n (m ∷ ns) = simp length-append (omega (arith, decimal_some n))

pub row_back : (ns : List ℕ) → every (λ n. leb n 65535) ns ≡ true → row_of (written ns) ≡ Numbers ns
unfolding row_of written
row_back [] f = refl
row_back (n ∷ ns) f = row_some (written (n ∷ ns)) (written_some n ns) ∙ rw (written_single (n ∷ ns)) (written_words n ns f)
