-- The report of a list of codes is the boot keyboard's report of HID 1.11, for every list that the standard speaks of:
--     frame              every list whatever: eight bytes, the modifiers' bits, the constant byte
--     keys-report        keys that are down, with modifiers and 0 among them, in any number
--     condition-report   a condition, after whatever else, that only modifiers and 0 follow
-- Of other lists the standard says nothing, and proofs/Six.antt says what holds: a reserved usage (0xA5 to 0xDF, 0xE8 up) takes a
-- place as a key does (`listed`, `over`); a condition that a key follows gives 1 in all six (`said_then`); of several
-- conditions the last counts (`said`). `frame` holds for those lists too.
-- Assumes nothing.
use Prim.Native.Nat.{ℕ, zero, suc, ◌-◌}
use mathlib.Core.Bool.{Bool, true, false, ◌&&◌, ◌||◌, or-true, true≢false}
use mathlib.Core.List.{List, [], ◌∷◌, ◌++◌}
use mathlib.Core.Path.{◌≡◌, refl, sym, ap, ◌∙◌}
use native.Mathlib.Omega.{arith}
use borrow.Author.Tests.{leb-true, le-leb, lt-leb, eqb-true, ne_eqb}
use lib.Dec.{eqb, leb}
use lib.ListN.{replicate}
use Rattle.codes.specs.Codes.{modifier}
use Rattle.codes.specs.Hid111.{key, modifier_key, condition, Frame, Keys, OnlyModifiers, KeysReport, ConditionReport}
use Rattle.lists.specs.Lists.{count, every, keep}
use Rattle.codes.specs.Report.{report_of}
use Rattle.lists.proofs.Laws.{both_true, count_append, every_append, every_replicate}
use Rattle.codes.proofs.Modifiers.{modified_bit, no_bit}
use Rattle.codes.proofs.Six.{taking, report_parts, length_keyed_all, NoCondition, listed, over, said}

pub frame : (cs : List ℕ) → Frame cs (report_of cs)
frame cs =
    rw (report_parts cs)
    (record {
      eight = omega (arith, length_keyed_all (replicate 6 0) cs);
      modifiers = λ k h. modified_bit 0 cs k h ∙ rw (no_bit k);
      reserved = refl;
    })

-- a usage that is no key, a named key or a modifier: no condition; and just a named key takes a place
spoken : (u : ℕ) → eqb u 0 || (key u || modifier_key u) ≡ true → (condition u ≡ false) × (taking u ≡ key u)
unfolding key modifier_key condition taking modifier
spoken u e = go (eqb u 0) (leb 0x04 u && leb u 0xA4) refl refl e
  where
    go : (none named : Bool) → eqb u 0 ≡ none → leb 0x04 u && leb u 0xA4 ≡ named → none || (named || modifier_key u) ≡ true
        → (condition u ≡ false) × (taking u ≡ key u)
    go true named z n h = rw (eqb-true u 0 z) (refl, refl)
    go false true z n h =
        let range = both_true (leb 0x04 u) (leb u 0xA4) n in
        let low = leb-true 0x04 u range.0 in
        let high = leb-true u 0xA4 range.1 in
        (rw (le-leb 1 u (omega arith), lt-leb u 3 (omega arith)), rw (range.0, range.1, lt-leb 0xE0 u (omega arith)))
    go false false z n h =
        let range = both_true (leb 0xE0 u) (leb u 0xE7) h in
        let low = leb-true 0xE0 u range.0 in (
          rw (le-leb 1 u (omega arith), lt-leb u 3 (omega arith)),
          rw (le-leb 0x04 u (omega arith), range.0, range.1, lt-leb u 0xA4 (omega arith)),
        )

keys_quiet : (cs : List ℕ) → Keys cs → NoCondition cs
keys_quiet [] e = refl
keys_quiet (c ∷ cs) e = let h = both_true _ (every _ cs) e in rw (spoken c h.0).0 (keys_quiet cs h.1)

keys_count : (cs : List ℕ) → Keys cs → count taking cs ≡ count key cs
unfolding count
keys_count [] e = refl
keys_count (c ∷ cs) e = let h = both_true _ (every _ cs) e in rw ((spoken c h.0).1, keys_count cs h.1)

count_zeros : (u m : ℕ) → (u ≡ 0 → ⊥) → count (eqb u) (replicate m 0) ≡ 0
unfolding count
count_zeros u zero n = refl
count_zeros u (suc m) n = rw (ne_eqb u 0 n) (count_zeros u m n)

-- what passes a test is kept as often as it was there
count_keep : (p : ℕ → Bool) (u : ℕ) (cs : List ℕ) → p u ≡ true → count (eqb u) (keep p cs) ≡ count (eqb u) cs
unfolding count
count_keep p u [] e = refl
count_keep p u (c ∷ cs) e = go (p c) (eqb u c) refl refl (count_keep p u cs e)
  where
    go : (t s : Bool) → p c ≡ t → eqb u c ≡ s → count (eqb u) (keep p cs) ≡ count (eqb u) cs → count (eqb u) (keep p (c ∷ cs)) ≡ count (eqb u) (c ∷ cs)
    go true true t s rest = rw (t, s) (ap suc rest)
    go true false t s rest = rw (t, s) rest
    go false true t s rest = absurd (true≢false (sym e ∙ ap p (eqb-true u c s) ∙ t))
    go false false t s rest = rw (t, s) rest

-- of a list of keys, what takes a place is a named key
kept_keys : (cs : List ℕ) → Keys cs → every (λ u. eqb u 0 || key u) (keep taking cs) ≡ true
kept_keys [] e = refl
kept_keys (c ∷ cs) e = let h = both_true _ (every _ cs) e in go (taking c) refl (spoken c h.0).1 (kept_keys cs h.1)
  where
    go : (t : Bool) → taking c ≡ t → taking c ≡ key c → every (λ u. eqb u 0 || key u) (keep taking cs) ≡ true
        → every (λ u. eqb u 0 || key u) (keep taking (c ∷ cs)) ≡ true
    go true t is rest = rw (t, sym is ∙ t, or-true (eqb c 0)) rest
    go false t is rest = rw t rest

-- a named key is not 0, and takes a place
named : (u : ℕ) → key u ≡ true → (u ≡ 0 → ⊥) × (taking u ≡ true)
unfolding key
named u e =
    let low = leb-true 0x04 u (both_true (leb 0x04 u) (leb u 0xA4) e).0 in
    (λ z. omega arith, (spoken u (rw (ne_eqb u 0 (λ z. omega arith), e))).1 ∙ e)

pub keys_report : (down : List ℕ) → Keys down → KeysReport down (report_of down)
keys_report down e =
    let quiet = keys_quiet down e in
    let many = keys_count down e in
    record {
      frame = frame down;
      listed = λ few u is.
          rw (report_parts down, listed down quiet (omega arith), count_append (eqb u) (keep taking down), count_zeros u (6 - count taking down) (named u is).0)
          (omega (arith, count_keep taking u down (named u is).1));
      nothing_else = λ few.
          rw (report_parts down, listed down quiet (omega arith))
          (every_append _ (keep taking down) (replicate (6 - count taking down) 0) (kept_keys down e) (every_replicate _ (6 - count taking down) 0 refl));
      rolled_over = λ more. rw (report_parts down) (over down quiet (omega arith));
    }

-- no key and a modifier: spoken of, and no named key
unkeyed : (u : ℕ) → eqb u 0 || modifier_key u ≡ true → (eqb u 0 || (key u || modifier_key u) ≡ true) × (key u ≡ false)
unfolding key modifier_key
unkeyed u e = go (eqb u 0) refl e
  where
    go : (none : Bool) → eqb u 0 ≡ none → none || modifier_key u ≡ true → (eqb u 0 || (key u || modifier_key u) ≡ true) × (key u ≡ false)
    go true z h = rw (eqb-true u 0 z) (refl, refl)
    go false z h =
        let low = leb-true 0xE0 u (both_true (leb 0xE0 u) (leb u 0xE7) h).0 in
        (rw (z, le-leb 0x04 u (omega arith), lt-leb u 0xA4 (omega arith)) h, rw (le-leb 0x04 u (omega arith), lt-leb u 0xA4 (omega arith)))

only_modifiers : (cs : List ℕ) → OnlyModifiers cs → Keys cs × (count key cs ≡ 0)
unfolding count
only_modifiers [] e = (refl, refl)
only_modifiers (c ∷ cs) e =
    let h = both_true _ (every _ cs) e in
    let u = unkeyed c h.0 in
    let rest = only_modifiers cs h.1 in
    (rw u.0 rest.0, rw u.1 rest.1)

pub condition_report : (before after : List ℕ) (e : ℕ) → condition e ≡ true → OnlyModifiers after
    → ConditionReport e (before ++ e ∷ after) (report_of (before ++ e ∷ after))
condition_report before after e is idle =
    let h = only_modifiers after idle in
    record {
      frame = frame (before ++ e ∷ after);
      everywhere =
          rw (report_parts (before ++ e ∷ after)) (said before after e is (keys_quiet after h.0) (keys_count after h.0 ∙ h.1));
    }
