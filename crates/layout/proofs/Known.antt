-- What a call hands back is known by its reply. Assumes nothing.
use Prim.Native.Nat.{ℕ}
use mathlib.Core.Path.{◌≡◌, ap}
use mathlib.Core.List.{List}
use Rattle.std.specs.Prelude.{Result}
use Rattle.refusal.proofs.Said.{said_one}
use Rattle.refusal.specs.declared.Fault.{Fault}
use Rattle.layout.specs.Calls.{no_answer, Reply, handed, shown}
use Rattle.layout.specs.declared.layout.Layout.{Layout}
use Rattle.layout.specs.declared.answer.Answer.{Answer}
use Rattle.layout.specs.declared.answer.Answered.{Answered}

pub handed_one : (x y : Answered) (v w : List ℕ) → handed x v ≡ handed y w → (x ≡ y) × (v ≡ w)
handed_one x y v w e =
    let a = said_one no_answer x.answer y.answer (ap (λ (r : Reply). r.told) e) in
    ((λ i. record { answer = a i; layout = (e i).layout }), ap (λ (r : Reply). r.buffer) e)

pub shown_one : (a b : Result Answer Fault) (l : Layout) (v w : List ℕ) → shown a l v ≡ shown b l w → (a ≡ b) × (v ≡ w)
shown_one a b l v w e = (said_one no_answer a b (ap (λ (r : Reply). r.told) e), ap (λ (r : Reply). r.buffer) e)
