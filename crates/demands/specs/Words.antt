-- The words of demand 3 that are not the layout's: its bound, the order of begun and decided, and the keys that are down.
-- Assumes nothing.
use Rattle.std.specs.Prelude.{ℕ, ◌+◌, ◌*◌, max, ◌≡◌, Bool, true, false, cond, List, [], ◌∷◌}
use Rattle.event.specs.Bytes.{coord_of}
use Rattle.event.specs.declared.Coord.{Coord}
use Rattle.event.specs.declared.Event.{Event}
use Rattle.event.specs.declared.Event.TheVariants.{Release, Press}
use Rattle.image.specs.Proper.{Times}
use Rattle.layout.specs.Model.{Mark, Acted, Begun, Decided, same}

-- 2q + max(1, M)
abbrev pub bound : ℕ → Times → ℕ
bound queued times = 2 * queued + max 1 times.first

-- the hold-tap begun and not yet decided, if any
pub data Pending : Type 0 where
  Nothing : Pending
  Key : Coord → Pending

-- from what is pending the marks lead to what is pending: an event is acted on, and a hold-tap begun, only while none is
-- pending, and only the pending one is decided, and then it is pending no more
unfoldable pub Leads : Pending → List Mark → Pending → Type 0
Leads p [] r = p ≡ r
Leads Nothing (Acted e ∷ ms) r = Leads Nothing ms r
Leads Nothing (Begun c ∷ ms) r = Leads (Key c) ms r
Leads Nothing (Decided c way ∷ ms) r = ⊥
Leads (Key d) (Acted e ∷ ms) r = ⊥
Leads (Key d) (Begun c ∷ ms) r = ⊥
Leads (Key d) (Decided c way ∷ ms) r = (c ≡ d) × Leads Nothing ms r

-- whether the event is a press
abbrev pub is_press : Event → Bool
is_press (Release i j) = false
is_press (Press i j) = true

-- whether the key at the coordinates is down after an event, and after the events: its last one says. `before` is for a
-- key that had none
abbrev pub down_by : Event → Coord → Bool → Bool
down_by e c before = cond (same (coord_of e) c) (is_press e) before

unfoldable pub down_after : List Event → Coord → Bool → Bool
down_after [] c before = before
down_after (e ∷ es) c before = down_after es c (down_by e c before)

-- every key's last event, if it had any, was a release
unfoldable pub AllReleased : List Event → Type 0
AllReleased es = (c : Coord) → down_after es c false ≡ false
