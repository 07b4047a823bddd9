-- The keyboard's output report and the report types of a request, from USB HID 1.11 alone (Appendix B.1, section 7.2).
-- Assumes nothing.
use Rattle.std.specs.Prelude.{ℕ, Bool, ◌≡◌}
use Rattle.codes.specs.Hid111.{bit}

-- report types
abbrev pub input : ℕ
input = 1

abbrev pub output : ℕ
output = 2

-- five lights, as a byte tells them: a bit that is 1 turns its light on; bits 5 to 7 are padding
pub record Lit (byte : ℕ) (num_lock caps_lock scroll_lock compose kana : Bool) : Type 0 where
  pub bit_0 : num_lock ≡ bit byte 0
  pub bit_1 : caps_lock ≡ bit byte 1
  pub bit_2 : scroll_lock ≡ bit byte 2
  pub bit_3 : compose ≡ bit byte 3
  pub bit_4 : kana ≡ bit byte 4
