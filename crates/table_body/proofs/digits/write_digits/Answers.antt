-- `table_body::digits::write_digits` meets its contract. Assumes nothing.
use native.Mathlib.Omega.{arith}
use native.Mathlib.Nat.{not-suc-le-zero}
use native.Mathlib.Numerals.{add-one, sub-one}
use Rattle.std.proofs.lemmas.List.{drop-set}
use mathlib.Core.Path.{◌≡◌, sym, ap, subst, ◌∙◌}
use mathlib.Core.List.{List, ◌∷◌, ◌++◌, append-nil}
use Prim.Native.Nat.{ℕ, zero, suc, ◌-◌, ◌/◌, ◌%◌, ◌≤◌, ◌<◌}
use lib.ListN.{length, take, drop, set}
use lib.Seq.{slice, slice_empty, length-take-le, take-set-lt, append_snoc}
use Rattle.table_body.specs.Digits.{digit_ascii, last_digits}
use Rattle.table_body.proofs.Powers.{last_digit}
use Rattle.table_body.proofs.digits.write_digits.Goals as goal

-- a turn moves the last of the digits that are still to write to the front of those that are written
digits_step : (b i k rest g : ℕ) (out : List ℕ) → 0 < i → i ≤ k → k ≤ length out → g ≡ digit_ascii (rest % b)
    → last_digits b (i - 1) (rest / b) ++ slice (i - 1) k (set out (i - 1) g) ≡ last_digits b i rest ++ slice i k out
digits_step b zero k rest g out some h room e = absurd (not-suc-le-zero some)
digits_step b (suc j) k rest g out some h room e =
    let todo = last_digits b j (rest / b) in
    let done = slice (suc j) k out in
    let within : j < length (take k out) = subst (λ (n : ℕ). j < n) (sym (length-take-le k out room)) h in
    ap (λ (m : ℕ). last_digits b m (rest / b) ++ slice m k (set out m g)) (sub-one (suc j))
    ∙ ap (λ (l : List ℕ). todo ++ drop j l) (take-set-lt k out j g h)
    ∙ ap (λ (l : List ℕ). todo ++ l) (drop-set (take k out) j g within ∙ rw add-one)
    ∙ ap (λ (x : ℕ). todo ++ x ∷ done) e
    ∙ sym (append_snoc todo (digit_ascii (rest % b)) done)

pub loop-i-init : goal.loop-i-init
loop-i-init c =
    let a = c.args in
    ap (λ (l : List ℕ). last_digits 10 a.k a.n ++ l) (slice_empty a.k a.out.now) ∙ append-nil (last_digits 10 a.k a.n)

pub loop-i-preserved : goal.loop-i-preserved
loop-i-preserved c =
    let l = c.loop-i in
    digits_step 10 l.i c.args.k l.rest _ l.out c.loop-i-test.true (omega arith) (omega arith) (last_digit l.rest) ∙ l.invariant
