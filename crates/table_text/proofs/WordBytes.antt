-- Words as bytes, and back. Assumes nothing.
use Prim.Native.Nat.{ℕ, zero, suc, ◌+◌, ◌*◌, ◌/◌, ◌%◌, ◌<◌, ◌≤◌}
use mathlib.Core.Bool.{true}
use mathlib.Core.List.{List, [], ◌∷◌, ◌++◌}
use mathlib.Core.Path.{◌≡◌, refl, sym, ap, ◌∙◌}
use native.Mathlib.Nat.{add_assoc, add-zero, zero-add}
use native.Mathlib.Omega.{arith}
use borrow.Author.Tests.{le-leb}
use lib.Dec.{leb}
use lib.ListN.{length, get_or, drop}
use lib.Seq.{sets, set_out, drop_at, get_or-drop}
use Rattle.lists.specs.Lists.{every}
use Rattle.image.specs.Words.{word_at, words_from}
use Rattle.table_text.specs.Write.{bytes_of}

-- two bytes a word, word after word
pub bytes_length : (ws : List ℕ) → length (bytes_of ws) ≡ 2 * length ws
unfolding bytes_of
bytes_length [] = refl
bytes_length (w ∷ ws) = omega (arith, bytes_length ws)

pub bytes_append : (a b : List ℕ) → bytes_of (a ++ b) ≡ bytes_of a ++ bytes_of b
unfolding bytes_of
bytes_append [] b = refl
bytes_append (w ∷ a) b = ap (λ l. (w % 256) ∷ (w / 256) ∷ l) (bytes_append a b)

-- a word is its two bytes
pub word_halves : (w : ℕ) → w % 256 + 256 * (w / 256) ≡ w
word_halves w = omega arith

-- words from behind the first k bytes
pub words_drop : (img : List ℕ) (k at n : ℕ) → words_from (drop k img) at n ≡ words_from img (k + at) n
unfolding words_from word_at
words_drop img k at zero = refl
words_drop img k at (suc n) =
    let rest = words_drop img k (at + 2) n in
    rw (get_or-drop k img at 0, get_or-drop k img (at + 1) 0, rest, ← add_assoc k at 1, ← add_assoc k at 2)

-- two bytes more in front, and words from two bytes later
pub words_shift : (x y : ℕ) (l : List ℕ) (at n : ℕ) → words_from (x ∷ y ∷ l) (at + 2) n ≡ words_from l at n
words_shift x y l at n =
    let s : at + 2 ≡ 2 + at = omega arith in
    rw s (sym (words_drop (x ∷ y ∷ l) 2 at n))

-- words in two parts
pub words_split : (img : List ℕ) (at n m : ℕ) → words_from img at (n + m) ≡ words_from img at n ++ words_from img (at + 2 * n) m
unfolding words_from
words_split img at zero m = rw (zero-add, add-zero)
words_split img at (suc n) m =
    let k : suc n + m ≡ suc (n + m) = omega arith in
    let s : at + 2 * suc n ≡ at + 2 + 2 * n = omega arith in
    rw (k, s) (ap (λ l. word_at img at ∷ l) (words_split img (at + 2) n m))

-- the words that bytes were made of
words_front : (ws post : List ℕ) → words_from (bytes_of ws ++ post) 0 (length ws) ≡ ws
unfolding bytes_of words_from word_at
words_front [] post = refl
words_front (w ∷ ws) post =
    let rest = words_shift (w % 256) (w / 256) (bytes_of ws ++ post) 0 (length ws) ∙ words_front ws post in
    rw (word_halves, rest)

pub words_back : (pre ws post : List ℕ) (at : ℕ) → length pre ≡ at → words_from (pre ++ (bytes_of ws ++ post)) at (length ws) ≡ ws
words_back pre ws post at e =
    let s : at ≡ at + 0 = omega arith in
    ap (λ k. words_from (pre ++ (bytes_of ws ++ post)) k (length ws)) s
    ∙ sym (words_drop (pre ++ (bytes_of ws ++ post)) at 0 (length ws))
    ∙ rw (drop_at pre (bytes_of ws ++ post) at e) (words_front ws post)

-- bytes that are words are the bytes of their words
pub bytes_back : (img : List ℕ) (n : ℕ) → ((i : ℕ) → get_or img i 0 < 256) → length img ≡ 2 * n → bytes_of (words_from img 0 n) ≡ img
unfolding bytes_of words_from word_at
bytes_back [] zero b e = refl
bytes_back [] (suc n) b e = absurd (omega arith)
bytes_back (x ∷ l) zero b e = absurd (omega arith)
bytes_back (x ∷ []) (suc n) b e = absurd (omega arith)
bytes_back (x ∷ (y ∷ l)) (suc n) b e =
    let low : (x + 256 * y) % 256 ≡ x = omega (arith, b 0) in
    let high : (x + 256 * y) / 256 ≡ y = omega (arith, b 0) in
    rw (low, high, words_shift x y l 0 n, bytes_back l n (λ i. b (suc (suc i))) (omega arith))

-- words of bytes are words
pub words_small : (img : List ℕ) (at n : ℕ) → ((i : ℕ) → get_or img i 0 < 256) → every (λ n. leb n 65535) (words_from img at n) ≡ true
unfolding words_from word_at
words_small img at zero b = refl
words_small img at (suc n) b = rw (le-leb (word_at img at) 65535 (omega (arith, b at, b (at + 1)))) (words_small img (at + 2) n b)

-- a word past the end changes nothing
pub word_out : (image : List ℕ) (at n : ℕ) → length image ≤ at → image ≡ sets image at (bytes_of (n ∷ []))
unfolding bytes_of
word_out image at n h =
    let first = set_out image at (n % 256) h in
    sym (rw first (set_out image (suc at) _ (omega arith)))
