-- That demand 3 says something: a case that reaches its bound, and one that meets all that it asks for. Both are document
-- 01's image Z, "Bench cases".
-- Assumes nothing.
use Rattle.std.specs.Prelude.{ℕ, ◌≤◌, ◌<◌, ◌≡◌, List, [], ◌∷◌, length, replicate, get_or, Ok}
use Rattle.event.specs.declared.Coord.{Coord}
use Rattle.event.specs.declared.Event.TheVariants.{Release, Press}
use Rattle.image.specs.Check.{check_of}
use Rattle.image.specs.Words.{shape_of}
use Rattle.layout.specs.Model.{Acted, Begun, Decided, fresh}
use Rattle.layout.specs.declared.notes.Way.TheVariants.{Tap}
use Rattle.demands.specs.Runs.{Call, Enter, arrived}
use Rattle.demands.specs.Words.{AllReleased}
use Rattle.demands.specs.Z.{z_of, lent}
use Rattle.demands.specs.Public.{lent_all}
use Rattle.demands.specs.Demand3.{layout_left, did, bound_of, AtRest}

-- seventeen presses of (0,0)
unfoldable pub seventeen : List Call
seventeen = replicate 17 (Enter (Press 0 0))

-- what demand 3 asks of an image and a buffer
pub record Asked (image buffer : List ℕ) : Type 0 where
  pub bytes : (i : ℕ) → get_or image i 0 < 256
  pub accepted : check_of image ≡ Ok (shape_of image)
  pub room : 64 ≤ length buffer

-- Z with timeout 1: not at rest one tick before the bound, at rest at it
pub record BoundReached : Type 0 where
  pub asked : Asked (z_of 1) lent
  pub most : bound_of (z_of 1) fresh (lent_all lent seventeen) ≡ 33
  pub before : AtRest (layout_left (z_of 1) fresh (lent_all lent seventeen) (replicate 32 lent)) → ⊥
  pub at : AtRest (layout_left (z_of 1) fresh (lent_all lent seventeen) (replicate 33 lent))

-- a key pressed and released before any tick
unfoldable pub tapped : List Call
tapped = Enter (Press 0 0) ∷ Enter (Release 0 0) ∷ []

-- Z itself: every hypothesis of demand 3 holds, and what is done is an event, a hold-tap begun and decided, and its release
pub record Met : Type 0 where
  pub asked : Asked (z_of 3) lent
  pub released : AllReleased (arrived tapped)
  pub most : bound_of (z_of 3) fresh (lent_all lent tapped) ≡ 7
  pub done :
      let c : Coord = record { i = 0; j = 0 } in
      did (z_of 3) fresh (lent_all lent tapped) (replicate 7 lent) ≡ Acted (Press 0 0) ∷ Begun c ∷ Decided c Tap ∷ Acted (Release 0 0) ∷ []
