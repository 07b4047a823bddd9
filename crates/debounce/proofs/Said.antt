-- An answer is known by its number, its place and its values, and what `events` hands back by its reply. Assumes nothing.
use Prim.Native.Nat.{ℕ}
use mathlib.Core.Bool.{Bool, false}
use mathlib.Core.List.{List}
use mathlib.Core.Path.{◌≡◌, ap}
use Rattle.std.specs.Prelude.{⊤}
use Rattle.refusal.specs.Said.{Said}
use Rattle.refusal.proofs.Said.{said_one}
use Rattle.debounce.specs.Calls.{made_said, got_said, updated_said, Reply, handed}
use Rattle.debounce.specs.declared.Debouncer.{Debouncer}
use Rattle.debounce.specs.declared.Handed.{Handed}
use Rattle.debounce.specs.declared.Got.{Got}

-- what is said without the values, and without the debouncer
abbrev alone : {A : Type 0} → Said A → Said ⊤
alone s = record { number = s.number; place = s.place; values = tt }

abbrev bare : {A : Type 0} → Said (A × Debouncer) → Said A
bare s = record { number = s.number; place = s.place; values = s.values.0 }

pub made_one : (x y : Handed ⊤) → made_said x ≡ made_said y → x ≡ y
made_one x y e =
    let same = said_one tt x.answer y.answer (ap alone e) in
    λ i. record { answer = same i; debouncer = (e i).values }

pub got_one : (x y : Got) → got_said x ≡ got_said y → x ≡ y
got_one x y e =
    let same = said_one tt x.answer y.answer (ap alone e) in
    λ i. record { answer = same i; picture = (e i).values }

pub updated_one : (x y : Handed Bool) → updated_said x ≡ updated_said y → x ≡ y
updated_one x y e =
    let same = said_one false x.answer y.answer (ap bare e) in
    λ i. record { answer = same i; debouncer = (e i).values.1 }

pub handed_one : (x y : Handed ℕ) (v w : List ℕ) → handed x v ≡ handed y w → (x ≡ y) × (v ≡ w)
handed_one x y v w e =
    let same = said_one 0 x.answer y.answer (ap (λ (r : Reply). bare r.answer) e) in
    ((λ i. record { answer = same i; debouncer = (e i).answer.values.1 }), ap (λ (r : Reply). r.buffer) e)
