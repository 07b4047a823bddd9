-- Laws of pictures and their tests, and of lists that are equal. Assumes nothing.
use Prim.Native.Nat.{ℕ, zero, suc, ◌+◌, ◌-◌, ◌<◌, ◌≤◌}
use mathlib.Core.Bool.{Bool, true, false, ◌&&◌, and-true, and-false, and_assoc}
use mathlib.Core.List.{List, [], ◌∷◌, ◌++◌}
use mathlib.Core.Path.{◌≡◌, refl, sym, ap, ◌∙◌}
use native.Mathlib.Numerals.{add-one}
use native.Mathlib.Omega.{arith}
use borrow.Author.Tests.{le-leb, lt-leb, eq-eqb, eqb-true, eqb-false}
use lib.Dec.{eqb, leb}
use lib.ListN.{length, take, drop, get_or, replicate, take-append-drop, length-drop}
use lib.Seq.{take_all}
use Rattle.std.proofs.lemmas.List.{length-take-le, append-nil, drop-replicate}
use Rattle.lists.specs.Lists.{every, alike}
use Rattle.lists.proofs.Laws.{both_true, every_split, every_replicate}
use Rattle.debounce.specs.Picture.{padded, binary, unused, is_picture, is_scan}
use Rattle.debounce.specs.Inside.{at_most}

-- an unused place is 0: at most 0, and so at most 1
unused_low : (u : ℕ) → unused u ≡ at_most 0 u
unused_low u = go (eqb u 0) refl
  where
    go : (t : Bool) → eqb u 0 ≡ t → t ≡ leb u 0
    go true e = sym (le-leb u 0 (omega (arith, eqb-true u 0 e)))
    go false e = sym (lt-leb u 0 (omega (arith, eqb-false u 0 e)))

pub unused_all : (l : List ℕ) → every unused l ≡ every (at_most 0) l
unused_all [] = refl
unused_all (u ∷ l) = rw (unused_low u, unused_all l)

unused_binary : (l : List ℕ) → every unused l ≡ true → every binary l ≡ true
unused_binary [] e = refl
unused_binary (u ∷ l) e =
    let h = both_true (unused u) (every unused l) e in
    rw (eqb-true u 0 h.0) (unused_binary l h.1)

-- where all places from n on are unused, a picture is places that are all 0 or 1
pub picture_then : (n : ℕ) (l : List ℕ) → every unused (drop n l) ≡ true → is_picture n l ≡ every binary l
unfolding is_picture
picture_then n l e =
    ap (λ b. every binary (take n l) && b) (e ∙ sym (unused_binary (drop n l) e))
    ∙ sym (every_split binary (take n l) (drop n l)) ∙ ap (every binary) (take-append-drop n l)

-- where one is not, none is
pub picture_else : (n : ℕ) (l : List ℕ) → every unused (drop n l) ≡ false → is_picture n l ≡ false
unfolding is_picture
picture_else n l e = rw e (and-false (every binary (take n l)))

-- a slice to the end of the 128 places has those from n on
pub unused_past : (n : ℕ) (l : List ℕ) → length l ≡ 128 → every (at_most 0) (take (128 - n) (drop n l)) ≡ every unused (drop n l)
unused_past n l long = rw (take_all (128 - n) (drop n l) (omega (arith, length-drop n l))) (sym (unused_all (drop n l)))

-- the bytes of a scan that has as many as there are places, or more; and of one that fits, with zeros to the 128th place
pub pad_long : (scan : List ℕ) → 128 ≤ length scan → take 128 scan ≡ padded (take 128 scan)
pad_long scan long = rw (length-take-le 128 scan long) (sym (append-nil (take 128 scan)))

pub pad_short : (scan : List ℕ) → length scan ≤ 128 → scan ++ drop (length scan) (replicate 128 0) ≡ padded (take 128 scan)
pad_short scan short = rw (take_all 128 scan short, drop-replicate {X = ℕ} (length scan) 128 0) refl

-- a scan that fits has all its bytes in its places, and the rest of them are 0
pub pad_fits : (scan : List ℕ) → length scan ≤ 128 → padded (take 128 scan) ≡ padded scan
pad_fits scan h = ap padded (take_all 128 scan h)

pad_binary : (scan : List ℕ) → every binary (padded scan) ≡ every binary scan
pad_binary scan =
    every_split binary scan (replicate (128 - length scan) 0)
    ∙ rw (every_replicate binary (128 - length scan) 0 refl) (and-true (every binary scan))

-- so its places tell of it
pub scan_then : (n : ℕ) (scan : List ℕ) → n ≤ 128 → length scan ≡ n → every binary (padded (take 128 scan)) ≡ is_scan n scan
unfolding is_scan
scan_then n scan few long = rw (eq-eqb (length scan) n long, pad_fits scan (omega arith)) (pad_binary scan)

pub scan_long : (n : ℕ) (scan : List ℕ) → is_scan n scan ≡ true → length scan ≡ n
unfolding is_scan
scan_long n scan e = eqb-true (length scan) n (both_true (eqb (length scan) n) (every binary scan) e).0

-- the first places are equal where those before are, and one more
pub alike_more : (a b : List ℕ) (i : ℕ) → i < length a → i < length b
    → alike (take (i + 1) a) (take (i + 1) b) ≡ alike (take i a) (take i b) && eqb (get_or a i 0) (get_or b i 0)
alike_more a b i h g = rw add-one (go i a b h g)
  where
    go : (i : ℕ) (a b : List ℕ) → i < length a → i < length b
        → alike (take (suc i) a) (take (suc i) b) ≡ alike (take i a) (take i b) && eqb (get_or a i 0) (get_or b i 0)
    go i [] b h g = absurd (omega arith)
    go i (x ∷ a) [] h g = absurd (omega arith)
    go zero (x ∷ a) (y ∷ b) h g = and-true (eqb x y)
    go (suc i) (x ∷ a) (y ∷ b) h g = ap (λ r. eqb x y && r) (go i a b (omega arith) (omega arith)) ∙ sym (and_assoc (eqb x y) _ _)
