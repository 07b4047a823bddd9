-- Rules that are asked for in an order, of which the first that is broken decides: document 01, "Refusal numbers". Every check
-- of an image, a state, a scan or a buffer is one of these.
-- Assumes nothing.
use Rattle.std.specs.Prelude.{ℕ, zero, suc, ◌+◌, Bool, true, false, Result, Ok, Err, ⊤}
use Rattle.refusal.specs.declared.Refusal.{Refusal}
use Rattle.refusal.specs.declared.Fault.{Fault}

-- nothing is refused; or the first refusal, and its place
abbrev pub Verdict : Type 0
Verdict = Result ⊤ Fault

abbrev pub fine : Verdict
fine = Ok tt

abbrev pub fault_at : Refusal → ℕ → Fault
fault_at refusal place = record { refusal = refusal; place = place }

abbrev pub refused : {A : Type 0} → Refusal → ℕ → Result A Fault
refused refusal place = Err (fault_at refusal place)

-- a rule: kept, the rest decides; broken, it is the refusal named, at the place named
unfoldable pub rule : Bool → Refusal → ℕ → Verdict → Verdict
rule true refusal place rest = rest
rule false refusal place rest = refused refusal place

-- a rule with nothing behind it
abbrev pub kept_or : Bool → Refusal → ℕ → Verdict
kept_or kept refusal place = rule kept refusal place fine

-- the first refusal of two
unfoldable pub or_else : Verdict → Verdict → Verdict
or_else (Ok u) next = next
or_else (Err fault) next = Err fault

-- the first refusal among n places from i on
unfoldable pub first_fault : (ℕ → Verdict) → ℕ → ℕ → Verdict
first_fault fault i zero = fine
first_fault fault i (suc n) = or_else (fault i) (first_fault fault (i + 1) n)

-- a verdict that refuses nothing, and then values
abbrev pub granted : {A : Type 0} → Verdict → A → Result A Fault
granted (Ok u) values = Ok values
granted (Err fault) values = Err fault
