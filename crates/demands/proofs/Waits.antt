-- What waits in a layout that a run reaches, and what a press that is acted on leaves waiting. Demand 3.
-- Assumes nothing.
use Prim.Native.Nat.{ℕ, ◌≤◌}
use mathlib.Core.Path.{◌≡◌, refl}
use mathlib.Core.Bool.{Bool, true}
use mathlib.Core.List.{List, []}
use native.Mathlib.Omega.{arith}
use Rattle.event.specs.declared.Coord.{Coord}
use Rattle.image.specs.Tree.{Action}
use Rattle.image.specs.Proper.{closed, Times, holdable}
use Rattle.layout.specs.Model.{Waiting, Idle, Waits, Mark}
use Rattle.layout.specs.Notes.{acted_on}
use Rattle.layout.proofs.Running.{Comes, nothing, begun, settled}
use Rattle.demands.specs.Words.{Leads, Pending, Nothing, Key}
use Rattle.demands.proofs.Cost.{cost, share, cost_idle, cost_begun}

abbrev pub pending : Waiting → Pending
pending Idle = Nothing
pending (Waits c k i a b) = Key c

-- what waits costs at most k, its key is down, and its actions are as they may be
pub record Sure (m : Times) (k : ℕ) (h : Coord → Bool) (c : Coord) (left i : ℕ) (a b : Action) : Type 0 where
  pub cheap : cost m (Waits c left i a b) ≤ k
  pub down : h c ≡ true
  pub hold : holdable a m ≡ true
  pub tap : closed b ≡ true

unfoldable pub Good : Times → ℕ → (Coord → Bool) → Waiting → Type 0
Good m k h Idle = Unit {0}
Good m k h (Waits c left i a b) = Sure m k h c left i a b

pub good_idle : (m : Times) (k : ℕ) (h : Coord → Bool) (w : Waiting) → w ≡ Idle → Good m k h w
unfolding Good
good_idle m k h w e = rw e tt

pub good_more : (m : Times) (j k : ℕ) (f g : Coord → Bool) → j ≤ k → ((c : Coord) → f c ≡ true → g c ≡ true) → (w : Waiting) → Good m j f w → Good m k g w
unfolding Good
good_more m j k f g le up Idle t = tt
good_more m j k f g le up (Waits c left i a b) t = record { cheap = omega (arith, t.cheap); down = up c t.down; hold = t.hold; tap = t.tap }

pub good_cost : (m : Times) (k : ℕ) (h : Coord → Bool) (w : Waiting) → Good m k h w → cost m w ≤ k
unfolding Good
good_cost m k h Idle t = omega (arith, cost_idle m Idle refl)
good_cost m k h (Waits c left i a b) t = t.cheap

-- an action that is run while nothing waits
pub comes_acted : {m : Times} {c : Coord} {d : ℕ} {ms : List Mark} {w : Waiting} → Comes m c d ms w → acted_on ms ≡ []
unfolding acted_on
comes_acted nothing = refl
comes_acted (begun t i a b le th tp) = refl
comes_acted (settled way) = refl

pub comes_leads : {m : Times} {c : Coord} {d : ℕ} {ms : List Mark} {w : Waiting} → Comes m c d ms w → Leads Nothing ms (pending w)
unfolding Leads
comes_leads nothing = refl
comes_leads (begun t i a b le th tp) = refl
comes_leads (settled way) = (refl, refl)

pub comes_good : {m : Times} {c : Coord} {d : ℕ} {ms : List Mark} {w : Waiting} (h : Coord → Bool) → h c ≡ true → Comes m c d ms w → Good m (share m d) h w
unfolding Good
comes_good h e nothing = tt
comes_good {m} {c} {d} h e (begun t i a b le th tp) = record { cheap = cost_begun m c i a b t d le; down = e; hold = th; tap = tp }
comes_good h e (settled way) = tt
