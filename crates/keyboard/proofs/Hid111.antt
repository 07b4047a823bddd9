-- Set_Report sets the five lights as HID 1.11 has them, for every byte. Assumes nothing.
use Prim.Native.Nat.{ℕ}
use mathlib.Core.List.{[], ◌∷◌}
use mathlib.Core.Path.{refl}
use Rattle.keyboard.specs.Hid111.{output, Lit}
use Rattle.keyboard.specs.Keyboard.{lit}
use Rattle.keyboard.specs.declared.Keyboard.{Keyboard}

abbrev lights : Keyboard → ℕ → Type 0
lights k byte = Lit byte k.num k.caps k.scroll k.compose k.kana

pub set_lights : (k : Keyboard) (byte : ℕ) → lights (lit k output 0 (byte ∷ [])).keyboard byte
unfolding lit
set_lights k byte = record { bit_0 = refl; bit_1 = refl; bit_2 = refl; bit_3 = refl; bit_4 = refl }
