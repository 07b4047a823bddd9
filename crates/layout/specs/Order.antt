-- The parts of a layout in order. Document 01, Layout, first paragraph.
-- Assumes nothing.
use Rattle.std.specs.Prelude.{◌≡◌, ◌≤◌, take}
use Rattle.layout.specs.Packed.{pad, no_state, no_stacked}
use Rattle.layout.specs.declared.active.Active.{Active}
use Rattle.layout.specs.declared.queue.Queue.{Queue}

-- the count is within the array, and the unused places are zero
pub record Tidy (active : Active) : Type 0 where
  pub few : active.len ≤ 64
  pub clean : pad 64 no_state (take active.len active.states) ≡ active.states

pub record Lined (queue : Queue) : Type 0 where
  pub few : queue.queued ≤ 16
  pub clean : pad 16 no_stacked (take queue.queued queue.stacked) ≡ queue.stacked

-- both parts of a layout
pub record Ready (active : Active) (queue : Queue) : Type 0 where
  pub tidy : Tidy active
  pub lined : Lined queue
