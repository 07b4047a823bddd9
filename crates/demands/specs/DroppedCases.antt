-- Cases of document 02, W-202, computed as those of specs/Bench.antt are: calls on a fresh layout over tables whose keys fill it,
-- with 62, 63 and 64 states held. Of each answer the case has how many codes it tells, and how many states were dropped.
-- Assumes nothing.
use Rattle.std.specs.Prelude.{ℕ, ◌≡◌, List, [], ◌∷◌, ◌++◌, map, drop, replicate}
use Rattle.event.specs.declared.Event.TheVariants.{Release, Press}
use Rattle.layout.specs.Model.{fresh}
use Rattle.layout.specs.Packed.{pack}
use Rattle.layout.specs.Calls.{Reply}
use Rattle.demands.specs.Runs.{Call, Tick, Enter}
use Rattle.demands.specs.Public.{lent_all, replies}
use Rattle.demands.specs.Z.{crowded, heaviest, lent}
use Rattle.demands.specs.Dropped.{count_in}

-- the keys of the first table, pressed: sixty-two codes; one; five states; and five when held, one when tapped
abbrev pub many : Call
many = Enter (Press 0 0)

abbrev pub one : Call
one = Enter (Press 0 1)

abbrev pub five : Call
five = Enter (Press 0 2)

abbrev pub five_or_one : Call
five_or_one = Enter (Press 0 3)

-- how many codes each answer tells, and how many states were dropped in its call
unfoldable pub counts_of : List ℕ → List Call → List (ℕ × ℕ)
counts_of image calls = map (λ (r : Reply). (r.told.values.codes, count_in r)) (replies image (lent_all lent calls) (pack fresh))

unfoldable pub counts : List Call → List (ℕ × ℕ)
counts calls = counts_of crowded calls

-- the same of calls on a layout of 64 states, which six calls fill
unfoldable pub counts_full : List Call → List (ℕ × ℕ)
counts_full calls = drop 6 (counts (many ∷ Tick ∷ one ∷ Tick ∷ one ∷ Tick ∷ calls))

-- the keys of the second table, each as heavy as may be
abbrev pub heavy : Call
heavy = Enter (Press 0 0)

abbrev pub held_heavy : Call
held_heavy = Enter (Press 0 1)

pub record Cases : Type 0 where
  -- a 63rd and a 64th state are kept; a 65th is dropped
  pub last :
      counts (many ∷ Tick ∷ one ∷ Tick ∷ one ∷ Tick ∷ one ∷ Tick ∷ [])
      ≡ (0, 0) ∷ (62, 0) ∷ (62, 0) ∷ (63, 0) ∷ (63, 0) ∷ (64, 0) ∷ (64, 0) ∷ (64, 1) ∷ []
  -- of five through both kinds of multiple action two fit behind 62, one behind 63, and none behind 64
  pub two_fit : counts (many ∷ Tick ∷ five ∷ Tick ∷ []) ≡ (0, 0) ∷ (62, 0) ∷ (62, 0) ∷ (64, 3) ∷ []
  pub one_fits : counts (many ∷ Tick ∷ one ∷ Tick ∷ five ∷ Tick ∷ []) ≡ (0, 0) ∷ (62, 0) ∷ (62, 0) ∷ (63, 0) ∷ (63, 0) ∷ (64, 4) ∷ []
  pub none_fits : counts_full (five ∷ Tick ∷ []) ≡ (64, 0) ∷ (64, 5) ∷ []
  -- a decision by time, by the release, by a queued release, and by a seventeenth event, which is followed by a press
  pub by_time : counts_full (five_or_one ∷ Tick ∷ Tick ∷ []) ≡ (64, 0) ∷ (64, 0) ∷ (64, 5) ∷ []
  pub by_release : counts_full (five_or_one ∷ Tick ∷ Enter (Release 0 3) ∷ []) ≡ (64, 0) ∷ (64, 0) ∷ (64, 1) ∷ []
  pub by_queued : counts_full (five_or_one ∷ Enter (Release 0 3) ∷ Tick ∷ []) ≡ (64, 0) ∷ (64, 0) ∷ (64, 1) ∷ []
  pub by_seventeenth : counts_full (five_or_one ∷ Tick ∷ replicate 17 one) ≡ replicate 18 (64, 0) ++ ((64, 6) ∷ [])
  -- what a release makes room for is kept again
  pub room_again : counts_full (Enter (Release 0 1) ∷ Tick ∷ one ∷ Tick ∷ []) ≡ (64, 0) ∷ (62, 0) ∷ (62, 0) ∷ (63, 0) ∷ []
  -- the most that a tick drops; and an event, which decides what waits and acts on a press
  pub most_in_a_tick :
      counts_of heaviest (heavy ∷ Tick ∷ heavy ∷ Tick ∷ heavy ∷ Tick ∷ [])
      ≡ (0, 0) ∷ (63, 0) ∷ (63, 0) ∷ (64, 62) ∷ (64, 0) ∷ (64, 63) ∷ []
  pub most_in_an_event :
      drop 4 (counts_of heaviest (heavy ∷ Tick ∷ heavy ∷ Tick ∷ held_heavy ∷ Tick ∷ replicate 17 heavy))
      ≡ replicate 18 (64, 0) ++ ((64, 124) ∷ [])
