-- Each public function's contract decides its whole answer. Assumes nothing.
use mathlib.Core.Path.{refl, ◌∙◌, sym}
use Rattle.decides.specs.Decides.{Decides}
use Rattle.decides.proofs.Both.{both}
use Rattle.table_body.specs.contracts.write as W
use Rattle.table_body.specs.contracts.print as P

pub write : Decides W.ended (λ M 𝓤 𝓛. W.spec 𝓛) (λ M 𝓤 𝓛. W.clauses 𝓛)
write M 𝓤 𝓛 m r = record { same = refl; free = λ κs a g. refl; only = λ κs a g g' x x' ws ws'. both 𝓤 _ _ _ (λ p q. (p ∙ sym q, refl)) }

pub print : Decides P.ended (λ M 𝓤 𝓛. P.spec 𝓛) (λ M 𝓤 𝓛. P.clauses 𝓛)
print M 𝓤 𝓛 m r = record { same = refl; free = λ κs a g. refl; only = λ κs a g g' x x' ws ws'. both 𝓤 _ _ _ (λ p q. (p ∙ sym q, refl)) }
