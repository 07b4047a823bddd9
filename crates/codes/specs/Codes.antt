-- Which words are codes, and which codes are modifiers: document 01, "The table image" and "Report and keyboard".
-- Assumes nothing.
use Rattle.std.specs.Prelude.{ℕ, ◌-◌, ◌^◌, Bool, cond, ◌&&◌, ◌||◌, leb}

-- 0x00..0xA4 and 0xE0..0xFB
unfoldable pub legal : ℕ → Bool
legal code = leb code 0xA4 || (leb 0xE0 code && leb code 0xFB)

-- 0xE0..0xE7
unfoldable pub modifier : ℕ → Bool
modifier code = leb 0xE0 code && leb code 0xE7

-- bit code - 0xE0 for a modifier, no bit for another code
unfoldable pub modifier_bit : ℕ → ℕ
modifier_bit code = cond (modifier code) (2 ^ (code - 0xE0)) 0
