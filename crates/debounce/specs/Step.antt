-- One scan: document 01, Debounce. It is said over any sort of picture P on which a test `same` tells whether two are equal, so that
-- another way to hold a picture (packed rows) has the same step. Assumes nothing.
use Rattle.std.specs.Prelude.{ℕ, ◌+◌, Bool, true, false, cond, ltb}

-- the accepted picture, the candidate, and for how many scans the candidate has stood
pub record Pictures (P : Type 0) : Type 0 where
  pub accepted : P
  pub candidate : P
  pub since : ℕ

-- what a scan leaves, and whether the accepted picture changed
pub record Outcome (P : Type 0) : Type 0 where
  pub pictures : Pictures P
  pub changed : Bool

module _ {P : Type 0} (same : P → P → Bool) (nb_bounce : ℕ) where
  -- a scan that differs: unlike the candidate it becomes the candidate, like it it has stood for one scan more
  unfoldable pub grown : Pictures P → P → Pictures P
  grown p scan =
      cond (same p.candidate scan)
      (record { accepted = p.accepted; candidate = p.candidate; since = p.since + 1 })
      (record { accepted = p.accepted; candidate = scan; since = 1 })

  -- since passes nb_bounce: the pictures change places
  unfoldable pub passed : Pictures P → Outcome P
  passed p =
      cond (ltb nb_bounce p.since)
      (record { pictures = record { accepted = p.candidate; candidate = p.accepted; since = 0 }; changed = true })
      (record { pictures = p; changed = false })

  unfoldable pub step : Pictures P → P → Outcome P
  step p scan =
      cond (same p.accepted scan)
      (record { pictures = record { accepted = p.accepted; candidate = p.candidate; since = 0 }; changed = false })
      (passed (grown p scan))
