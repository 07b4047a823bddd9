-- How long the descriptor is. Assumes nothing.
use mathlib.Core.Path.{◌≡◌, refl}
use lib.ListN.{length}
use Rattle.keyboard.specs.Descriptor.{descriptor}

-- the descriptor has 71 bytes
pub long : length descriptor ≡ 71
unfolding descriptor
long = refl
