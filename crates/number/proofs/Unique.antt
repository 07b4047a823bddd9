-- Each public function's contract decides its whole answer: the number that was read is told by its values. Assumes nothing.
use mathlib.Core.Path.{refl, ◌∙◌, sym}
use Rattle.decides.specs.Decides.{Decides}
use Rattle.decides.proofs.Both.{both}
use Rattle.number.specs.contracts.decimal as I
use Rattle.number.specs.contracts.decimal_within as W

pub decimal : Decides I.ended (λ M 𝓤 𝓛. I.spec 𝓛) (λ M 𝓤 𝓛. I.clauses 𝓛)
decimal M 𝓤 𝓛 m r = record { same = refl; free = λ κs a g. refl; only = λ κs a g g' x x' ws ws'. both 𝓤 _ _ _ (λ p q. (p ∙ sym q, refl)) }

pub decimal_within : Decides W.ended (λ M 𝓤 𝓛. W.spec 𝓛) (λ M 𝓤 𝓛. W.clauses 𝓛)
decimal_within M 𝓤 𝓛 m r = record { same = refl; free = λ κs a g. refl; only = λ κs a g g' x x' ws ws'. both 𝓤 _ _ _ (λ p q. (p ∙ sym q, refl)) }
