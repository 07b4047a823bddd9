-- The boot keyboard's input report, from USB HID 1.11 alone (section 8, Appendix B.1, Appendix C): what a report of the keys that
-- are down must be, as properties. Nothing here says how a report is made. `down` lists usages of the keyboard page.
-- Assumes nothing.
use Rattle.std.specs.Prelude.{ℕ, ◌+◌, ◌/◌, ◌%◌, ◌^◌, ◌<◌, ◌≤◌, Bool, true, ◌&&◌, ◌||◌, List, ◌≡◌, eqb, leb, length, get_or, drop, replicate}
use Rattle.lists.specs.Lists.{has, count, every}

-- a key that the Usage Tables name, other than a modifier
unfoldable pub key : ℕ → Bool
key u = leb 0x04 u && leb u 0xA4

-- Left Control to Right GUI
unfoldable pub modifier_key : ℕ → Bool
modifier_key u = leb 0xE0 u && leb u 0xE7

-- ErrorRollOver, POSTFail, ErrorUndefined: conditions of the whole array
unfoldable pub condition : ℕ → Bool
condition u = leb 1 u && leb u 3

-- bit k of a byte is 1
unfoldable pub bit : ℕ → ℕ → Bool
bit byte k = eqb (byte / 2 ^ k % 2) 1

-- bytes 2 to 7
abbrev pub array : List ℕ → List ℕ
array bytes = drop 2 bytes

-- what holds whichever keys are down: eight bytes; bit k of the first for modifier k; the second is constant
pub record Frame (down bytes : List ℕ) : Type 0 where
  pub eight : length bytes ≡ 8
  pub modifiers : (k : ℕ) → k < 8 → bit (get_or bytes 0 0) k ≡ has (0xE0 + k) down
  pub reserved : get_or bytes 1 0 ≡ 0

-- each that is listed is no key (0), a named key or a modifier
abbrev pub Keys : List ℕ → Type 0
Keys down = every (λ u. eqb u 0 || (key u || modifier_key u)) down ≡ true

-- each that is listed is no key (0) or a modifier
abbrev pub OnlyModifiers : List ℕ → Type 0
OnlyModifiers down = every (λ u. eqb u 0 || modifier_key u) down ≡ true

-- the report of keys that are down. Up to six: each stands in the array as often as it is down, and what else stands there is no
-- key. More: each of the six places says roll-over
pub record KeysReport (down bytes : List ℕ) : Type 0 where
  pub frame : Frame down bytes
  pub listed : count key down ≤ 6 → (u : ℕ) → key u ≡ true → count (eqb u) (array bytes) ≡ count (eqb u) down
  pub nothing_else : count key down ≤ 6 → every (λ u. eqb u 0 || key u) (array bytes) ≡ true
  pub rolled_over : 6 < count key down → array bytes ≡ replicate 6 1

-- the report of a condition: it stands in each of the six places
pub record ConditionReport (reported : ℕ) (down bytes : List ℕ) : Type 0 where
  pub frame : Frame down bytes
  pub everywhere : array bytes ≡ replicate 6 reported
