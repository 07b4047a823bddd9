-- What bytes 2 to 7 of the report hold, for every list of codes whatever: four laws, one for each way that a list can be.
--     listed         no condition, at most six codes that take a place: those, in their order, then zeros
--     over           no condition, more than six: each byte is 1
--     said           a condition that no code follows which takes a place, and no other condition: each byte is the condition
--     said-then      a condition, no other after it, and then a code that takes a place: each byte is 1
-- Assumes nothing.
use Prim.Native.Nat.{ℕ, zero, suc, ◌+◌, ◌-◌, ◌<◌, ◌≤◌}
use mathlib.Core.Bool.{Bool, true, false, cond, not, ◌&&◌, and-true, true≢false}
use mathlib.Core.List.{List, [], ◌∷◌, ◌++◌, append-nil}
use mathlib.Core.Path.{◌≡◌, refl, sym, ◌∙◌}
use native.Mathlib.Nat.{add-zero, sub-zero, suc-sub-suc}
use native.Mathlib.Omega.{arith}
use borrow.Author.Tests.{ltb-true, ltb-false, ne_eqb, leb-true, leb-false, le-leb, lt-leb, not-true}
use lib.Bits.{or_zero_r}
use lib.Dec.{eqb, leb, ltb}
use lib.ListN.{length, replicate, length-append, length-replicate, length-set}
use lib.Seq.{set-append_seam, append_snoc}
use Rattle.codes.specs.Codes.{modifier, modifier_bit}
use Rattle.codes.specs.Hid111.{condition}
use Rattle.lists.specs.Lists.{count, every, keep}
use Rattle.codes.specs.Report.{free_place, filled, placed, keyed, pressed_of, with_codes, report_of}
use Rattle.lists.proofs.Laws.{both_true}
use Rattle.codes.proofs.Laws.{filled_is, keyed_none, keyed_filled, keyed_placed, placed_free, placed_full}
use Rattle.codes.proofs.Modifiers.{modified}

-- a code that takes a place: no modifier, not 0, and no condition
unfoldable pub taking : ℕ → Bool
taking u = leb 4 u && not (modifier u)

-- what a code does to the six
unfoldable pub step : ℕ → List ℕ → List ℕ
step c six = cond (modifier c) six (keyed c six)

-- the six after each of the codes
unfoldable pub keyed_all : List ℕ → List ℕ → List ℕ
keyed_all six [] = six
keyed_all six (c ∷ cs) = keyed_all (step c six) cs

-- the report by its three parts
pub parts : (m r : ℕ) (six cs : List ℕ) → with_codes (m ∷ r ∷ six) cs ≡ modified m cs ∷ r ∷ keyed_all six cs
unfolding with_codes modified keyed_all step pressed_of modifier_bit
parts m r six [] = refl
parts m r six (c ∷ cs) = go (modifier c) refl (λ n t. parts n r t cs)
  where
    go : (b : Bool) → modifier c ≡ b → ((n : ℕ) (t : List ℕ) → with_codes (n ∷ r ∷ t) cs ≡ modified n cs ∷ r ∷ keyed_all t cs)
        → with_codes (m ∷ r ∷ six) (c ∷ cs) ≡ modified m (c ∷ cs) ∷ r ∷ keyed_all six (c ∷ cs)
    go true e rest = rw e (rest _ _)
    go false e rest = rw (e, or_zero_r) (rest _ _)

pub report_parts : (cs : List ℕ) → report_of cs ≡ modified 0 cs ∷ 0 ∷ keyed_all (replicate 6 0) cs
unfolding report_of
report_parts cs = parts 0 0 (replicate 6 0) cs

-- a code below 0xE0 is no modifier
no_modifier : (c : ℕ) → c < 0xE0 → modifier c ≡ false
unfolding modifier
no_modifier c h = rw (lt-leb 0xE0 c h)

-- what is neither a condition nor above them is 0
nought : (c : ℕ) → leb 1 c && leb c 3 ≡ false → leb 4 c && true ≡ false → c ≡ 0
nought zero e f = refl
nought (suc c) e f =
    let low : suc c ≤ 3 = omega (arith, leb-false 4 (suc c) (sym (and-true (leb 4 (suc c))) ∙ f)) in
    absurd (true≢false (sym (rw (le-leb 1 (suc c) (omega arith), le-leb (suc c) 3 low)) ∙ e))

-- a condition, a code that takes a place, and every other code: what each does to the six
module _ (c : ℕ) (six : List ℕ) where
  step_condition : condition c ≡ true → step c six ≡ filled c six
  unfolding step condition
  step_condition e =
      let h = both_true (leb 1 c) (leb c 3) e in
      let low = leb-true 1 c h.0 in
      let high = leb-true c 3 h.1 in
      rw (no_modifier c (omega arith)) (keyed_filled c six (λ z. omega arith) high)

  step_taking : taking c ≡ true → step c six ≡ placed c six
  unfolding step taking
  step_taking e =
      let h = both_true (leb 4 c) (not (modifier c)) e in
      rw (not-true (modifier c) h.1) (keyed_placed c six (leb-true 4 c h.0))

  step_other : condition c ≡ false → taking c ≡ false → step c six ≡ six
  unfolding step condition taking
  step_other e f = go (modifier c) refl
    where
      go : (m : Bool) → modifier c ≡ m → step c six ≡ six
      go true is = rw is
      go false is = rw is (keyed_none c six (nought c e (rw is at f)))

-- the six stay six
length_step : (c : ℕ) (six : List ℕ) → length (step c six) ≡ length six
length_step c six = go (condition c) (taking c) refl refl
  where
    length_filled : (code : ℕ) → length (filled code six) ≡ length six
    length_filled code = rw (filled_is code six, length-replicate)

    at : (free : Bool) → ltb (free_place six) (length six) ≡ free → length (placed c six) ≡ length six
    at true e = rw (placed_free c six (ltb-true (free_place six) (length six) e), length-set)
    at false e = rw (placed_full c six (ltb-false (free_place six) (length six) e)) (length_filled 1)

    go : (a b : Bool) → condition c ≡ a → taking c ≡ b → length (step c six) ≡ length six
    go true b e f = rw (step_condition c six e) (length_filled c)
    go false true e f = rw (step_taking c six f) (at (ltb (free_place six) (length six)) refl)
    go false false e f = rw (step_other c six e f)

pub length_keyed_all : (six cs : List ℕ) → length (keyed_all six cs) ≡ length six
unfolding keyed_all
length_keyed_all six [] = refl
length_keyed_all six (c ∷ cs) = length_keyed_all (step c six) cs ∙ length_step c six

-- no byte is zero
abbrev Full : List ℕ → Type 0
Full l = length l ≤ free_place l

-- the first byte is not zero, and none behind it is
full_head : (x : ℕ) (l : List ℕ) → Full (x ∷ l) → (eqb x 0 ≡ false) × Full l
unfolding free_place
full_head x l h = go (eqb x 0) refl
  where
    go : (z : Bool) → eqb x 0 ≡ z → (eqb x 0 ≡ false) × Full l
    go true e = absurd (omega (arith, rw e at h))
    go false e = (e, omega (arith, rw e at h))

free_append : (xs ys : List ℕ) → Full xs → free_place (xs ++ ys) ≡ length xs + free_place ys
unfolding free_place
free_append [] ys h = omega arith
free_append (x ∷ xs) ys h = let f = full_head x xs h in rw f.0 (omega (arith, free_append xs ys f.1))

full_one : (c : ℕ) → (c ≡ 0 → ⊥) → Full (c ∷ [])
unfolding free_place
full_one c n = rw (ne_eqb c 0 n) (omega arith)

full_more : (xs : List ℕ) (c : ℕ) → Full xs → (c ≡ 0 → ⊥) → Full (xs ++ (c ∷ []))
full_more xs c h n = rw (length-append, free_append xs (c ∷ []) h) (omega (arith, full_one c n))

full_all : (n e : ℕ) → (e ≡ 0 → ⊥) → Full (replicate n e)
unfolding free_place
full_all zero e h = omega arith
full_all (suc n) e h = rw (ne_eqb e 0 h) (omega (arith, full_all n e h))

-- a code takes the first zero byte
fill_next : (xs ys : List ℕ) (c : ℕ) → Full xs → placed c (xs ++ 0 ∷ ys) ≡ xs ++ c ∷ ys
unfolding free_place
fill_next xs ys c h =
    let at : free_place (xs ++ 0 ∷ ys) ≡ length xs = free_append xs (0 ∷ ys) h ∙ omega arith in
    let room : free_place (xs ++ 0 ∷ ys) < length (xs ++ 0 ∷ ys) = omega (arith, length-append xs (0 ∷ ys)) in
    placed_free c (xs ++ 0 ∷ ys) room ∙ rw (at, set-append_seam)

-- where none is zero, each becomes 1
overfull : (six : List ℕ) (c : ℕ) → Full six → placed c six ≡ replicate (length six) 1
overfull six c h = placed_full c six h ∙ filled_is 1 six

abbrev pub NoCondition : List ℕ → Type 0
NoCondition cs = every (λ u. not (condition u)) cs ≡ true

-- what a list with no condition says of its first code and of the others
no_condition : (c : ℕ) (cs : List ℕ) → NoCondition (c ∷ cs) → (condition c ≡ false) × NoCondition cs
no_condition c cs e =
    let h = both_true (not (condition c)) (every (λ u. not (condition u)) cs) e in
    (not-true (condition c) h.0, h.1)

ones_stay : (n : ℕ) (cs : List ℕ) → NoCondition cs → keyed_all (replicate n 1) cs ≡ replicate n 1
unfolding keyed_all
ones_stay n [] e = refl
ones_stay n (c ∷ cs) e = go (taking c) refl ∙ ones_stay n cs (no_condition c cs e).1
  where
    full : Full (replicate n 1)
    full = full_all n 1 (λ z. omega arith)

    go : (t : Bool) → taking c ≡ t → keyed_all (step c (replicate n 1)) cs ≡ keyed_all (replicate n 1) cs
    go true t = rw (step_taking c (replicate n 1) t, overfull (replicate n 1) c full, length-replicate)
    go false t = rw (step_other c (replicate n 1) (no_condition c cs e).0 t)

-- no byte is zero, and a code takes a place
full_over : (six cs : List ℕ) → Full six → NoCondition cs → 0 < count taking cs → keyed_all six cs ≡ replicate (length six) 1
unfolding keyed_all count
full_over six [] f e h = absurd (omega arith)
full_over six (c ∷ cs) f e h = go (taking c) refl (full_over six cs f (no_condition c cs e).1)
  where
    go : (t : Bool) → taking c ≡ t → (0 < count taking cs → keyed_all six cs ≡ replicate (length six) 1)
        → keyed_all six (c ∷ cs) ≡ replicate (length six) 1
    go true t rest = rw (step_taking c six t, overfull six c f) (ones_stay (length six) cs (no_condition c cs e).1)
    go false t rest = rw (step_other c six (no_condition c cs e).0 t) (rest (omega (arith, rw t at h)))

-- a code that takes a place is not 0
taking_some : (c : ℕ) → taking c ≡ true → c ≡ 0 → ⊥
unfolding taking
taking_some c t z = omega (arith, leb-true 4 c (both_true (leb 4 c) (not (modifier c)) t).0)

condition_some : (c : ℕ) → condition c ≡ true → c ≡ 0 → ⊥
unfolding condition
condition_some c t z = omega (arith, leb-true 1 c (both_true (leb 1 c) (leb c 3) t).0)

-- the bytes so far, and m zeros: as many codes as there are zeros take their places in order
listed_from : (xs : List ℕ) (m : ℕ) (cs : List ℕ) → Full xs → NoCondition cs → count taking cs ≤ m
    → keyed_all (xs ++ replicate m 0) cs ≡ (xs ++ keep taking cs) ++ replicate (m - count taking cs) 0
unfolding keyed_all count
listed_from xs m [] f e h = rw (append-nil, sub-zero)
listed_from xs m (c ∷ cs) f e h = go (taking c) refl m h (λ ys n g. listed_from ys n cs g (no_condition c cs e).1)
  where
    go : (t : Bool) → taking c ≡ t → (m : ℕ) → count taking (c ∷ cs) ≤ m
        → ((ys : List ℕ) (n : ℕ) → Full ys → count taking cs ≤ n → keyed_all (ys ++ replicate n 0) cs ≡ (ys ++ keep taking cs) ++ replicate (n - count taking cs) 0)
        → keyed_all (xs ++ replicate m 0) (c ∷ cs) ≡ (xs ++ keep taking (c ∷ cs)) ++ replicate (m - count taking (c ∷ cs)) 0
    go true t zero h rest = absurd (omega (arith, rw t at h))
    go true t (suc m) h rest =
        rw (step_taking c (xs ++ replicate (suc m) 0) t, fill_next xs (replicate m 0) c f, t)
        (rw (← append_snoc xs c (replicate m 0), suc-sub-suc) (rest (xs ++ (c ∷ [])) m (full_more xs c f (taking_some c t)) (omega (arith, rw t at h)) ∙ rw (append_snoc xs c (keep taking cs))))
    go false t m h rest =
        rw (step_other c (xs ++ replicate m 0) (no_condition c cs e).0 t, t) (rest xs m f (omega (arith, rw t at h)))

-- more codes than zeros
over_from : (xs : List ℕ) (m : ℕ) (cs : List ℕ) → Full xs → NoCondition cs → m < count taking cs
    → keyed_all (xs ++ replicate m 0) cs ≡ replicate (length xs + m) 1
unfolding keyed_all count
over_from xs m [] f e h = absurd (omega arith)
over_from xs m (c ∷ cs) f e h = go (taking c) refl m h (λ ys n g. over_from ys n cs g (no_condition c cs e).1)
  where
    go : (t : Bool) → taking c ≡ t → (m : ℕ) → m < count taking (c ∷ cs)
        → ((ys : List ℕ) (n : ℕ) → Full ys → n < count taking cs → keyed_all (ys ++ replicate n 0) cs ≡ replicate (length ys + n) 1)
        → keyed_all (xs ++ replicate m 0) (c ∷ cs) ≡ replicate (length xs + m) 1
    go true t zero h rest =
        rw (append-nil, step_taking c xs t, overfull xs c f, add-zero) (ones_stay (length xs) cs (no_condition c cs e).1)
    go true t (suc m) h rest =
        let as_long : length (xs ++ (c ∷ [])) + m ≡ length xs + suc m = omega (arith, length-append xs (c ∷ [])) in
        rw (step_taking c (xs ++ replicate (suc m) 0) t, fill_next xs (replicate m 0) c f, ← append_snoc xs c (replicate m 0), ← as_long)
        (rest (xs ++ (c ∷ [])) m (full_more xs c f (taking_some c t)) (omega (arith, rw t at h)))
    go false t m h rest =
        rw (step_other c (xs ++ replicate m 0) (no_condition c cs e).0 t) (rest xs m f (omega (arith, rw t at h)))

keyed_append : (six before after : List ℕ) → keyed_all six (before ++ after) ≡ keyed_all (keyed_all six before) after
unfolding keyed_all
keyed_append six [] after = refl
keyed_append six (c ∷ before) after = keyed_append (step c six) before after

-- no code takes a place, and none is a condition: nothing changes
idle : (six cs : List ℕ) → NoCondition cs → count taking cs ≡ 0 → keyed_all six cs ≡ six
unfolding keyed_all count
idle six [] e h = refl
idle six (c ∷ cs) e h = go (taking c) refl (idle six cs (no_condition c cs e).1)
  where
    go : (t : Bool) → taking c ≡ t → (count taking cs ≡ 0 → keyed_all six cs ≡ six) → keyed_all six (c ∷ cs) ≡ six
    go true t rest = absurd (omega (arith, rw t at h))
    go false t rest = rw (step_other c six (no_condition c cs e).0 t) (rest (rw t at h))

-- after a condition, whatever came before it
after_condition : (six before after : List ℕ) (e : ℕ) → condition e ≡ true
    → keyed_all six (before ++ e ∷ after) ≡ keyed_all (replicate (length six) e) after
unfolding keyed_all
after_condition six before after e is =
    keyed_append six before (e ∷ after)
    ∙ rw (step_condition e (keyed_all six before) is, filled_is e (keyed_all six before), length_keyed_all six before)

abbrev pub six_of : List ℕ → List ℕ
six_of cs = keyed_all (replicate 6 0) cs

pub listed : (cs : List ℕ) → NoCondition cs → count taking cs ≤ 6 → six_of cs ≡ keep taking cs ++ replicate (6 - count taking cs) 0
unfolding free_place
listed cs e h = listed_from [] 6 cs (omega arith) e h

pub over : (cs : List ℕ) → NoCondition cs → 6 < count taking cs → six_of cs ≡ replicate 6 1
unfolding free_place
over cs e h = over_from [] 6 cs (omega arith) e h

pub said : (before after : List ℕ) (e : ℕ) → condition e ≡ true → NoCondition after → count taking after ≡ 0
    → six_of (before ++ e ∷ after) ≡ replicate 6 e
said before after e is quiet none = after_condition (replicate 6 0) before after e is ∙ idle (replicate 6 e) after quiet none

pub said_then : (before after : List ℕ) (e : ℕ) → condition e ≡ true → NoCondition after → 0 < count taking after
    → six_of (before ++ e ∷ after) ≡ replicate 6 1
said_then before after e is quiet some =
    after_condition (replicate 6 0) before after e is ∙ full_over (replicate 6 e) after (full_all 6 e (condition_some e is)) quiet some
