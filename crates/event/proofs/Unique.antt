-- Each public function's contract decides its whole answer. Assumes nothing.
use mathlib.Core.Path.{refl, ◌∙◌, sym}
use Rattle.decides.specs.Decides.{Decides}
use Rattle.decides.proofs.Both.{both}
use Rattle.event.specs.contracts.Event.coord as C
use Rattle.event.specs.contracts.ArrayU83FromEvent.from as B
use Rattle.event.specs.contracts.EventTryFromArrayU83.try_from as R

pub coord : Decides C.ended (λ M 𝓤 𝓛. C.spec 𝓛) (λ M 𝓤 𝓛. C.clauses 𝓛)
coord M 𝓤 𝓛 m r = record { same = refl; free = λ κs a g. refl; only = λ κs a g g' x x' ws ws'. both 𝓤 _ _ _ (λ p q. (p ∙ sym q, refl)) }

pub from : Decides B.ended (λ M 𝓤 𝓛. B.spec 𝓛) (λ M 𝓤 𝓛. B.clauses 𝓛)
from M 𝓤 𝓛 m r = record { same = refl; free = λ κs a g. refl; only = λ κs a g g' x x' ws ws'. both 𝓤 _ _ _ (λ p q. (p ∙ sym q, refl)) }

pub try_from : Decides R.ended (λ M 𝓤 𝓛. R.spec 𝓛) (λ M 𝓤 𝓛. R.clauses 𝓛)
try_from M 𝓤 𝓛 m r = record { same = refl; free = λ κs a g. refl; only = λ κs a g g' x x' ws ws'. both 𝓤 _ _ _ (λ p q. (p ∙ sym q, refl)) }
