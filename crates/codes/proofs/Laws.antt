-- What the functions' proofs and the report's theorem share: the modifier test, the cases of a code, and the codes one after the
-- other. Assumes nothing.
use Prim.Native.Nat.{ℕ, ◌<◌, ◌≤◌}
use mathlib.Core.Bool.{true}
use mathlib.Core.List.{List, [], ◌∷◌}
use mathlib.Core.Path.{◌≡◌, refl, sym, ap, ◌∙◌}
use native.Mathlib.Omega.{arith}
use borrow.Author.Tests.{leb-true, ne_eqb, le-leb, lt-leb, lt-ltb, le-ltb}
use lib.Dec.{leb}
use lib.ListN.{length, set, replicate}
use Rattle.lists.proofs.Laws.{both_true}
use Rattle.codes.specs.Codes.{modifier}
use Rattle.std.specs.Array.{AllOfLen}
use Rattle.std.specs.List.{fold}
use Rattle.std.proofs.lemmas.List.{same_lists, get_or-replicate}
use Rattle.codes.specs.declared.report.KbHidReport.{KbHidReport}
use Rattle.codes.specs.Report.{free_place, filled, placed, keyed, pressed_of, with_codes}

-- a modifier lies between 0xE0 and 0xE7
pub modifier_range : (code : ℕ) → modifier code ≡ true → (0xE0 ≤ code) × (code ≤ 0xE7)
unfolding modifier
modifier_range code e =
    let h = both_true (leb 0xE0 code) (leb code 0xE7) e in
    (leb-true 0xE0 code h.0, leb-true code 0xE7 h.1)

-- and a code between them is one
pub modifier_in : (code : ℕ) → 0xE0 ≤ code → code ≤ 0xE7 → modifier code ≡ true
unfolding modifier
modifier_in code l h = rw (le-leb 0xE0 code l, le-leb code 0xE7 h)

-- as many times the code as there were bytes
pub filled_is : (code : ℕ) (l : List ℕ) → filled code l ≡ replicate (length l) code
unfolding filled
filled_is code [] = refl
filled_is code (k ∷ l) = ap (λ (t : List ℕ). code ∷ t) (filled_is code l)

-- the cases of `keyed` and `placed`
module _ (code : ℕ) (l : List ℕ) where
  pub keyed_none : code ≡ 0 → keyed code l ≡ l
  unfolding keyed
  keyed_none e = rw e

  pub keyed_filled : (code ≡ 0 → ⊥) → code ≤ 3 → keyed code l ≡ filled code l
  unfolding keyed
  keyed_filled n h = rw (ne_eqb code 0 n, le-leb code 3 h)

  pub keyed_placed : 3 < code → keyed code l ≡ placed code l
  unfolding keyed
  keyed_placed h = rw (ne_eqb code 0 (λ e. omega arith), lt-leb code 3 h)

  pub placed_free : free_place l < length l → placed code l ≡ set l (free_place l) code
  unfolding placed
  placed_free h = rw (lt-ltb (free_place l) (length l) h)

  pub placed_full : length l ≤ free_place l → placed code l ≡ filled 1 l
  unfolding placed
  placed_full h = rw (le-ltb (free_place l) (length l) h)

-- the codes, pressed one after the other
pub pressed_each : (codes bytes : List ℕ) → fold (λ (r : KbHidReport) code. record { bytes = pressed_of r.bytes code }) (record { bytes = bytes }) codes ≡ record { bytes = with_codes bytes codes }
unfolding with_codes
pressed_each [] bytes = refl
pressed_each (code ∷ codes) bytes = pressed_each codes (pressed_of bytes code)

-- eight bytes, each the default, are eight zeros
pub zeros : (bytes : List ℕ) → AllOfLen (λ byte. byte ≡ 0) bytes 8 → bytes ≡ replicate 8 0
zeros bytes all = same_lists bytes (replicate 8 0) all.long (λ k d h. all.at k d (omega (arith, all.long)) ∙ sym (get_or-replicate 8 k 0 d (omega (arith, all.long))))
