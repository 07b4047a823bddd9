-- The ticks that a wait takes at most, and an event: the count by which a layout comes to rest. Demand 3.
-- Assumes nothing.
use Prim.Native.Nat.{ℕ, suc, ◌-◌, ◌+◌, ◌*◌, ◌≤◌, min, max}
use mathlib.Core.Path.{◌≡◌, refl}
use native.Mathlib.Omega.{arith}
use Rattle.event.specs.declared.Coord.{Coord}
use Rattle.image.specs.Tree.{Action}
use Rattle.image.specs.Proper.{Times}
use Rattle.layout.specs.Model.{Waiting, Idle, Waits}
use Rattle.demands.specs.Words.{bound}

-- what waits
unfoldable pub cost : Times → Waiting → ℕ
cost m Idle = 0
cost m (Waits c left i hold tap) = max 1 left

-- what a press acted on with delay d begins
unfoldable pub share : Times → ℕ → ℕ
share m d = max 1 (m.first - d)

-- what a queued event adds
unfoldable pub each : Times → ℕ
each m = 2

pub cost_idle : (m : Times) (w : Waiting) → w ≡ Idle → cost m w ≡ 0
unfolding cost
cost_idle m w e = rw e refl

module _ (m : Times) (c : Coord) (i : ℕ) (a b : Action) where
  pub cost_pos : (k : ℕ) → 1 ≤ cost m (Waits c k i a b)
  unfolding cost
  cost_pos k = omega arith

  pub cost_less : (j k : ℕ) → j ≤ k → cost m (Waits c j i a b) ≤ cost m (Waits c k i a b)
  unfolding cost
  cost_less j k h = omega arith

  pub cost_tick : (j k : ℕ) → k - 1 ≡ suc j → suc (cost m (Waits c (k - 1) i a b)) ≤ cost m (Waits c k i a b)
  unfolding cost
  cost_tick j k h = omega arith

  pub cost_begun : (t d : ℕ) → t ≤ m.first → cost m (Waits c (t - d) i a b) ≤ share m d
  unfolding cost share
  cost_begun t d h = omega arith

pub share_whole : (m : Times) (d : ℕ) → share m d ≤ share m 0
unfolding share
share_whole m d = omega arith

-- n ticks into the draining, with a wait that costs x and k events queued, r ticks more are enough
pub record Due (m : Times) (n r x k : ℕ) : Type 0 where
  pub soon : x + k * each m ≤ r
  pub late : m.first + k * each m ≤ n + r + 2

pub due_acted : (m : Times) (n r age x k : ℕ) → m.first ≤ 65535 → x ≤ share m age → min (suc n) 65535 ≤ age → Due m n (suc r) 0 (suc k) → Due m (suc n) r x k
unfolding share each
due_acted m n r age x k s h o d = omega arith

pub due_start : (m : Times) (r x k : ℕ) → x ≤ share m 0 → bound k m ≤ r → Due m 0 r x k
unfolding share each
due_start m r x k h b = omega arith
