-- Numbers in decimal: what is written is read back, and a word that is read is written without its leading zeros. Assumes nothing.
use Prim.Native.Nat.{ℕ, zero, suc, ◌+◌, ◌*◌, ◌-◌, ◌/◌, ◌%◌, ◌<◌, ◌≤◌}
use mathlib.Core.Bool.{Bool, true, false, cond, ◌&&◌, and-false}
use mathlib.Core.List.{List, [], ◌∷◌, ◌++◌, append-nil}
use mathlib.Core.Path.{◌≡◌, refl, sym, ap, ◌∙◌}
use native.Mathlib.Omega.{arith}
use borrow.Author.Tests.{leb-true, leb-false, eqb-true, eqb-false, le-leb, ne_eqb}
use lib.Dec.{eqb, leb, ltb}
use lib.ListN.{length, length-append}
use lib.Seq.{append_snoc}
use Rattle.lists.proofs.Laws.{both_true, every_head, every_split}
use Rattle.lists.specs.Lists.{every}
use Rattle.number.proofs.Read.{number_some}
use Rattle.number.specs.Number.{is_digit, comes_to, read_behind, read_decimal}
use Rattle.std.specs.Prelude.{Some, None}
use Rattle.text.proofs.Laws.{place_past, place_digit}
use Rattle.text.specs.Text.{place_of, decimal_of}
use Rattle.table_text.proofs.Parts.{free, free_cons}
use Rattle.table_text.specs.Plain.{starts_digit, unzeroed}

-- a digit lies between 48 and 57; a byte that lies there is one
pub digit_range : (c : ℕ) → is_digit c ≡ true → (48 ≤ c) × (c ≤ 57)
unfolding is_digit
digit_range c e =
    let h = both_true (leb 48 c) (leb c 57) e in
    (leb-true 48 c h.0, leb-true c 57 h.1)

pub digit_made : (x : ℕ) → x < 10 → is_digit (48 + x) ≡ true
unfolding is_digit
digit_made x h = rw (le-leb 48 (48 + x) (omega arith), le-leb (48 + x) 57 (omega arith))

-- digits hold no byte that is none
pub digits_free : (d : ℕ) (l : List ℕ) → is_digit d ≡ false → every is_digit l ≡ true → free d l ≡ true
unfolding free
digits_free d [] n f = refl
digits_free d (c ∷ cs) n f =
    let h = every_head is_digit c cs f in
    free_cons d c cs (ne_eqb c d (other h.0)) (digits_free d cs n h.1)
  where
    other : is_digit c ≡ true → c ≡ d → ⊥
    other y e = let z : ◌≡◌ {A = ℕ} 0 1 = cc (ap is_digit e) in omega arith

-- a place has a digit or nothing
pub place_digits : (n u : ℕ) → every is_digit (place_of n u) ≡ true
unfolding place_of
place_digits n u = go (ltb 0 u && leb u n)
  where
    go : (t : Bool) → every is_digit (cond t ((48 + n / u % 10) ∷ []) []) ≡ true
    go true = rw (digit_made (n / u % 10) (omega arith))
    go false = refl

pub place_short : (n u : ℕ) → length (place_of n u) ≤ 1
unfolding place_of
place_short n u = go (ltb 0 u && leb u n)
  where
    go : (t : Bool) → length (cond t ((48 + n / u % 10) ∷ []) []) ≤ 1
    go true = omega arith
    go false = omega arith

-- what is written is digits, one to five of them
pub decimal_digits : (n : ℕ) → every is_digit (decimal_of n) ≡ true
unfolding decimal_of
decimal_digits n = simp (every_split, place_digits) (rw (digit_made (n % 10) (omega arith)))

pub decimal_short : (n : ℕ) → length (decimal_of n) ≤ 5
unfolding decimal_of
decimal_short n =
    simp length-append
    (omega (arith, place_short n 10000, place_short n 1000, place_short n 100, place_short n 10))

pub decimal_some : (n : ℕ) → 0 < length (decimal_of n)
unfolding decimal_of
decimal_some n = simp length-append (omega arith)

pub decimal_free : (d n : ℕ) → is_digit d ≡ false → free d (decimal_of n) ≡ true
decimal_free d n e = digits_free d (decimal_of n) e (decimal_digits n)

pub decimal_no_space : (n : ℕ) → free 32 (decimal_of n) ≡ true
unfolding is_digit
decimal_no_space n = decimal_free 32 n refl

pub decimal_no_newline : (n : ℕ) → free 10 (decimal_of n) ≡ true
unfolding is_digit
decimal_no_newline n = decimal_free 10 n refl

-- a digit more behind a number: each place moves up by one
pub place_up : (n d u v : ℕ) → d < 10 → 0 < u → v ≡ 10 * u → (10 * n + d) / v ≡ n / u → place_of (10 * n + d) v ≡ place_of n u
place_up n d u v h z e same = go (leb u n) refl
  where
    go : (t : Bool) → leb u n ≡ t → place_of (10 * n + d) v ≡ place_of n u
    go true f =
        let k = leb-true u n f in
        rw (place_digit (10 * n + d) v (omega arith) (omega arith), place_digit n u z k, same)
    go false f =
        let k = leb-false u n f in
        place_past (10 * n + d) v (omega arith) (omega arith) ∙ sym (place_past n u z k)

pub decimal_up : (n d : ℕ) → 1 ≤ n → n ≤ 9999 → d < 10 → decimal_of (10 * n + d) ≡ decimal_of n ++ (48 + d) ∷ []
unfolding decimal_of
decimal_up n d l m h =
    let tens : (10 * n + d) / 10 ≡ n = omega arith in
    let ones : (10 * n + d) % 10 ≡ d = omega arith in
    rw (
      place_up n d 1000 10000 h (omega arith) refl (omega arith),
      place_up n d 100 1000 h (omega arith) refl (omega arith),
      place_up n d 10 100 h (omega arith) refl (omega arith),
      place_digit (10 * n + d) 10 (omega arith) (omega arith),
      tens,
      ones,
      place_past n 10000 (omega arith) (omega arith),
    )

pub decimal_one : (n : ℕ) → n < 10 → decimal_of n ≡ (48 + n) ∷ []
unfolding decimal_of
decimal_one n h =
    let ones : n % 10 ≡ n = omega arith in
    rw (
      place_past n 10000 (omega arith) (omega arith),
      place_past n 1000 (omega arith) (omega arith),
      place_past n 100 (omega arith) (omega arith),
      place_past n 10 (omega arith) (omega arith),
      ones,
    )

-- so what holds of one digit, and of a number with a digit more, holds of all
pub by_digits : (P : ℕ → Type 0) → ((n : ℕ) → n < 10 → P n) → ((n d : ℕ) → 1 ≤ n → n ≤ 9999 → d < 10 → P n → P (10 * n + d))
    → (fuel n : ℕ) → n ≤ fuel → n ≤ 99999 → P n
by_digits P one more zero n f h = one n (omega arith)
by_digits P one more (suc fuel) n f h = go (leb n 9) refl (by_digits P one more fuel (n / 10))
  where
    go : (t : Bool) → leb n 9 ≡ t → (n / 10 ≤ fuel → n / 10 ≤ 99999 → P (n / 10)) → P n
    go true e r = one n (omega (arith, leb-true n 9 e))
    go false e r =
        let k = leb-false n 9 e in
        let q : 10 * (n / 10) + n % 10 ≡ n = omega arith in
        rw q at (more (n / 10) (n % 10) (omega arith) (omega arith) (omega arith) (r (omega arith) (omega arith)))

-- digits behind others
pub comes_append : (n : ℕ) (v w : List ℕ) → comes_to n (v ++ w) ≡ comes_to (comes_to n v) w
unfolding comes_to
comes_append n [] w = refl
comes_append n (c ∷ v) w = comes_append (10 * n + (c - 48)) v w

pub comes_more : (n : ℕ) (cs : List ℕ) → n ≤ comes_to n cs
unfolding comes_to
comes_more n [] = omega arith
comes_more n (c ∷ cs) = omega (arith, comes_more (10 * n + (c - 48)) cs)

-- what is written comes to the number, so it is read back
pub decimal_comes : (n : ℕ) → n ≤ 99999 → comes_to 0 (decimal_of n) ≡ n
unfolding comes_to
decimal_comes n h = by_digits (λ k. comes_to 0 (decimal_of k) ≡ k) one more n n (omega arith) h
  where
    one : (k : ℕ) → k < 10 → comes_to 0 (decimal_of k) ≡ k
    one k l = rw (decimal_one k l) (omega arith)

    more : (k d : ℕ) → 1 ≤ k → k ≤ 9999 → d < 10 → comes_to 0 (decimal_of k) ≡ k → comes_to 0 (decimal_of (10 * k + d)) ≡ 10 * k + d
    more k d l m b e = rw (decimal_up k d l m b, comes_append 0 (decimal_of k) ((48 + d) ∷ []), e) (omega arith)

pub read_written : (n : ℕ) → n ≤ 65535 → read_decimal (decimal_of n) ≡ Some n
unfolding read_behind
read_written n h =
    let some = decimal_some n in
    number_some (decimal_of n) (omega arith)
    ∙ rw (decimal_digits n, decimal_comes n (omega arith), le-leb n 65535 h)

-- a word that was read: digits, at least one, that come to the number
pub record ReadAs (w : List ℕ) (n : ℕ) : Type 0 where
  pub digits : every is_digit w ≡ true
  pub comes : comes_to 0 w ≡ n
  pub small : n ≤ 65535
  pub some : 0 < length w

pub read_as : (w : List ℕ) (n : ℕ) → read_decimal w ≡ Some n → ReadAs w n
unfolding read_decimal read_behind
read_as [] n e = let z : ◌≡◌ {A = ℕ} 0 1 = cc in absurd (omega arith)
read_as (c ∷ cs) n e = go (every is_digit (c ∷ cs) && leb (comes_to 0 (c ∷ cs)) 65535) refl e
  where
    go : (t : Bool) → every is_digit (c ∷ cs) && leb (comes_to 0 (c ∷ cs)) 65535 ≡ t
        → cond t (Some (comes_to 0 (c ∷ cs))) None ≡ Some n → ReadAs (c ∷ cs) n
    go true t v =
        let h = both_true (every is_digit (c ∷ cs)) (leb (comes_to 0 (c ∷ cs)) 65535) t in
        let q : comes_to 0 (c ∷ cs) ≡ n = cc in
        record { digits = h.0; comes = q; small = omega (arith, leb-true (comes_to 0 (c ∷ cs)) 65535 h.1); some = omega arith }
    go false t v = let z : ◌≡◌ {A = ℕ} 0 1 = cc in absurd (omega arith)

-- digits behind a number that is not 0 stay
pub unzeroed_behind : (cs : List ℕ) → every is_digit cs ≡ true → unzeroed true cs ≡ cs
unfolding unzeroed
unzeroed_behind [] f = refl
unzeroed_behind (c ∷ cs) f =
    let h = every_head is_digit c cs f in
    rw (h.0, unzeroed_behind cs h.1)

pub decimal_behind : (n : ℕ) (cs : List ℕ) → 1 ≤ n → every is_digit cs ≡ true → comes_to n cs ≤ 65535
    → decimal_of (comes_to n cs) ≡ decimal_of n ++ cs
unfolding comes_to
decimal_behind n [] l f m = rw append-nil
decimal_behind n (c ∷ cs) l f m =
    let h = every_head is_digit c cs f in
    let b = digit_range c h.0 in
    let k = comes_more (10 * n + (c - 48)) cs in
    let q : 48 + (c - 48) ≡ c = omega arith in
    decimal_behind (10 * n + (c - 48)) cs (omega arith) h.1 m
    ∙ rw (decimal_up n (c - 48) l (omega arith) (omega arith), append_snoc, q)

-- a zero that a digit follows goes; any other byte in front stays
pub unzeroed_zero : (c : ℕ) (w : List ℕ) → eqb c 48 ≡ true → starts_digit w ≡ true → unzeroed false (c ∷ w) ≡ unzeroed false w
unfolding unzeroed
unzeroed_zero c w e d = rw (e, d)

pub unzeroed_keeps : (c : ℕ) (w : List ℕ) → eqb c 48 ≡ false → unzeroed false (c ∷ w) ≡ c ∷ unzeroed (is_digit c) w
unfolding unzeroed
unzeroed_keeps c w e = rw e

pub unzeroed_digits : (w : List ℕ) → 0 < length w → every is_digit w ≡ true → comes_to 0 w ≤ 65535
    → unzeroed false w ≡ decimal_of (comes_to 0 w)
unfolding unzeroed starts_digit comes_to
unzeroed_digits [] l f m = absurd (omega arith)
unzeroed_digits (c ∷ []) l f m =
    let b = digit_range c (every_head is_digit c [] f).0 in
    let q : 48 + (0 + (c - 48)) ≡ c = omega arith in
    rw (and-false, decimal_one (0 + (c - 48)) (omega arith), q)
unzeroed_digits (c ∷ (d ∷ cs)) l f m =
    let h = every_head is_digit c (d ∷ cs) f in
    go (eqb c 48) refl h.0 h.1 (unzeroed_digits (d ∷ cs) (omega arith) h.1)
  where
    go : (t : Bool) → eqb c 48 ≡ t → is_digit c ≡ true → every is_digit (d ∷ cs) ≡ true
        → (comes_to 0 (d ∷ cs) ≤ 65535 → unzeroed false (d ∷ cs) ≡ decimal_of (comes_to 0 (d ∷ cs)))
        → unzeroed false (c ∷ d ∷ cs) ≡ decimal_of (comes_to 0 (c ∷ d ∷ cs))
    go true e i g r =
        let z : comes_to 0 (c ∷ d ∷ cs) ≡ comes_to 0 (d ∷ cs) = rw (eqb-true c 48 e) in
        unzeroed_zero c (d ∷ cs) e (every_head is_digit d cs g).0 ∙ r (omega arith) ∙ ap decimal_of (sym z)
    go false e i g r =
        let n : c ≡ 48 → ⊥ = eqb-false c 48 e in
        let b = digit_range c i in
        let q : 48 + (0 + (c - 48)) ≡ c = omega arith in
        unzeroed_keeps c (d ∷ cs) e
        ∙ rw (i, unzeroed_behind (d ∷ cs) g)
        (sym (decimal_behind (0 + (c - 48)) (d ∷ cs) (omega arith) g m ∙ rw (decimal_one (0 + (c - 48)) (omega arith), q)))

pub unzeroed_word : (w : List ℕ) (n : ℕ) → read_decimal w ≡ Some n → unzeroed false w ≡ decimal_of n
unzeroed_word w n e =
    let h = read_as w n e in
    let q = h.comes in
    unzeroed_digits w h.some h.digits (omega arith) ∙ rw q
