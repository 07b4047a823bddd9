-- Room for the states that an action adds. Document 01, Layout, first paragraph.
-- Assumes nothing.
use Rattle.std.specs.Prelude.{◌≡◌, List, ℕ, ◌+◌, ◌≤◌, length}
use Rattle.layout.specs.declared.effect.Holds.{Holds}

-- the states held and those added are within the capacity
pub record HasRoom (held added : ℕ) (holds : List Holds) : Type 0 where
  pub few : held + added ≤ 64
  pub long : length holds ≡ 64
