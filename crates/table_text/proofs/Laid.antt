-- Laws of bytes laid one behind the other, and of a loop that lays them. Assumes nothing.
use Prim.Native.Nat.{ℕ, suc, ◌+◌}
use mathlib.Core.List.{List, [], ◌∷◌, ◌++◌}
use mathlib.Core.Path.{◌≡◌, refl, sym, ap, ◌∙◌}
use native.Mathlib.Omega.{arith}
use lib.ListN.{length, length-append, set}
use lib.Seq.{sets}
use Rattle.table_text.specs.Inside.{Lays}

-- some bytes and then others
pub sets_append : (l : List ℕ) (i : ℕ) (a b : List ℕ) → sets l i (a ++ b) ≡ sets (sets l i a) (i + length a) b
sets_append l i [] b =
    let e : i ≡ i + 0 = omega arith in
    ap (λ k. sets l k b) e
sets_append l i (x ∷ a) b =
    let e : suc i + length a ≡ i + suc (length a) = omega arith in
    sets_append (set l i x) (suc i) a b ∙ ap (λ k. sets (sets (set l i x) (suc i) a) k b) e

-- one byte, and those of a call behind those of another
pub lays_one : {at : ℕ} {out after : List ℕ} (byte : ℕ) → after ≡ set out at byte → Lays (byte ∷ []) at out (at + 1) after
lays_one byte e = record { ends = refl; holds = e }

pub lays_then : {a b out mid after : List ℕ} {at k end : ℕ} → Lays a at out k mid → Lays b k mid end after → Lays (a ++ b) at out end after
lays_then {a} {b} {out} {mid} {after} {at} {k} {end} p q =
    record {
      ends = simp length-append (omega (arith, p.ends, q.ends));
      holds = q.holds ∙ rw (p.ends, p.holds) (sym (sets_append out at a b));
    }

-- two bytes behind others
pub lays_two : {a out mid mid' after : List ℕ} {at k : ℕ} (d m : ℕ) → Lays a at out k mid → mid' ≡ set mid k d → after ≡ set mid' (k + 1) m
    → Lays (a ++ (d ∷ []) ++ (m ∷ [])) at out (k + 2) after
lays_two {a} {out} {mid} {mid'} {after} {at} {k} d m p q r =
    let e : k + 1 + 1 ≡ k + 2 = omega arith in
    rw e at (lays_then (lays_then p (lays_one d q)) (lays_one m r))

-- a loop that lays: what is left, laid from here on, makes the whole
pub record Rest (left : List ℕ) (to : ℕ) (out whole : List ℕ) (at : ℕ) (was : List ℕ) : Type 0 where
  pub ends : to + length left ≡ at + length whole
  pub holds : sets out to left ≡ sets was at whole

pub rest_start : (whole : List ℕ) (at : ℕ) (out : List ℕ) → Rest whole at out whole at out
rest_start whole at out = record { ends = refl; holds = refl }

pub rest_on : {bytes left out after whole was : List ℕ} {to end at : ℕ} → Rest (bytes ++ left) to out whole at was → Lays bytes to out end after
    → Rest left end after whole at was
rest_on {bytes} {left} {out} {after} {whole} {was} {to} {end} {at} r p =
    record {
      ends = omega (arith, p.ends, simp length-append at r.ends);
      holds = rw (p.ends, p.holds, ← sets_append out to bytes left) r.holds;
    }

pub rest_end : {to at : ℕ} {out whole was : List ℕ} → Rest [] to out whole at was → Lays whole at was to out
rest_end {to} {at} r = record { ends = omega (arith, r.ends); holds = r.holds }
