-- A number's digits, and the powers of their base. Assumes nothing.
use Prim.Native.Nat.{ℕ, ◌+◌, ◌-◌, ◌%◌, ◌^◌, ◌≤◌, ◌<◌}
use native.Mathlib.Nat.{le_of_suc-le-suc, pow-le-pow_right, lt_of_not-le, mod-lt}
use native.Mathlib.Omega.{arith}
use mathlib.Core.Path.{◌≡◌}
use Rattle.std.proofs.lemmas.Bool.{lt-ltb}
use Rattle.table_body.specs.Digits.{digit_ascii, IsDigitCount}

-- the last decimal digit
pub last_digit : (n : ℕ) → 48 + n % 10 ≡ digit_ascii (n % 10)
last_digit n = rw (lt-ltb (n % 10) 10 (mod-lt n (omega arith)))

no_more : (b n k most : ℕ) → 0 < b → 0 < most → IsDigitCount b 1 n k → n < b ^ most → most < k → ⊥
no_more b n k most h some fewest holds over =
    let p : b ^ (k - 1) ≤ n = fewest.2 (omega arith) in
    let q : b ^ most ≤ b ^ (k - 1) = pow-le-pow_right h (omega arith) in
    omega arith

-- where `most` digits hold n, the fewest are no more
pub count_within : (b n k most : ℕ) → 0 < b → 0 < most → IsDigitCount b 1 n k → n < b ^ most → k ≤ most
count_within b n k most h some fewest holds = le_of_suc-le-suc (lt_of_not-le (no_more b n k most h some fewest holds))
