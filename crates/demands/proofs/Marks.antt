-- Laws of what is read off a run: the marks, the events, the keys that are down. Demand 3.
-- Assumes nothing.
use Prim.Native.Nat.{ℕ, zero, suc}
use mathlib.Core.Path.{◌≡◌, refl, ap}
use mathlib.Core.Bool.{Bool, true, false}
use mathlib.Core.List.{List, [], ◌∷◌, ◌++◌}
use Rattle.lists.proofs.Laws.{every_head}
use Rattle.event.specs.declared.Coord.{Coord}
use Rattle.event.specs.declared.Event.{Event}
use Rattle.layout.specs.Model.{Mark, Acted, Begun, Decided}
use Rattle.layout.specs.Steps.{coord_in}
use Rattle.layout.specs.declared.active.State.{State}
use Rattle.layout.proofs.Running.{Down}
use Rattle.demands.specs.Runs.{Call, Tick, Enter, ticks, arrived}
use Rattle.demands.specs.Words.{Leads, Pending, Nothing, Key, down_by, down_after}

pub leads_append : (p : Pending) (ms : List Mark) (q : Pending) (ns : List Mark) (r : Pending) → Leads p ms q → Leads q ns r → Leads p (ms ++ ns) r
unfolding Leads
leads_append p [] q ns r h k = rw h k
leads_append Nothing (Acted e ∷ ms) q ns r h k = leads_append Nothing ms q ns r h k
leads_append Nothing (Begun c ∷ ms) q ns r h k = leads_append (Key c) ms q ns r h k
leads_append Nothing (Decided c w ∷ ms) q ns r h k = absurd h
leads_append (Key d) (Acted e ∷ ms) q ns r h k = absurd h
leads_append (Key d) (Begun c ∷ ms) q ns r h k = absurd h
leads_append (Key d) (Decided c w ∷ ms) q ns r h k = (h.0, leads_append Nothing ms q ns r h.1 k)

pub down_append : (es fs : List Event) (c : Coord) (b : Bool) → down_after (es ++ fs) c b ≡ down_after fs c (down_after es c b)
unfolding down_after
down_append [] fs c b = refl
down_append (e ∷ es) fs c b = down_append es fs c (down_by e c b)

pub arrived_append : (a b : List Call) → arrived (a ++ b) ≡ arrived a ++ arrived b
unfolding arrived
arrived_append [] b = refl
arrived_append (Tick ∷ a) b = arrived_append a b
arrived_append (Enter e ∷ a) b = ap (λ (l : List Event). e ∷ l) (arrived_append a b)

-- ticks bring no event
pub arrived_ticks : (n : ℕ) → arrived (ticks n) ≡ []
unfolding arrived ticks
arrived_ticks zero = refl
arrived_ticks (suc n) = arrived_ticks n

pub down_nil : (h : Coord → Bool) → Down h []
unfolding Down
down_nil h = refl

pub down_head : (h : Coord → Bool) (x : State) (s : List State) → Down h (x ∷ s) → (h (coord_in x) ≡ true) × Down h s
unfolding Down
down_head h x s d = every_head (λ x. h (coord_in x)) x s d

pub down_cons : (h : Coord → Bool) (x : State) (s : List State) → h (coord_in x) ≡ true → Down h s → Down h (x ∷ s)
unfolding Down
down_cons h x s e d = rw e d

pub down_more : (h k : Coord → Bool) → ((c : Coord) → h c ≡ true → k c ≡ true) → (s : List State) → Down h s → Down k s
down_more h k f [] d = down_nil k
down_more h k f (x ∷ s) d =
    let p = down_head h x s d in
    down_cons k x s (f (coord_in x) p.0) (down_more h k f s p.1)

-- no key is down: no state is held
pub down_none : (h : Coord → Bool) → ((c : Coord) → h c ≡ false) → (s : List State) → Down h s → s ≡ []
down_none h f [] d = refl
down_none h f (x ∷ s) d = cc (f (coord_in x), (down_head h x s d).0)
