-- The public function's contract decides its whole answer. Assumes nothing.
use mathlib.Core.Path.{refl, ◌∙◌, sym}
use Rattle.decides.specs.Decides.{Decides}
use Rattle.decides.proofs.Both.{both}
use Rattle.panel_line.specs.contracts.read_line as R

pub read_line : Decides R.ended (λ M 𝓤 𝓛. R.spec 𝓛) (λ M 𝓤 𝓛. R.clauses 𝓛)
read_line M 𝓤 𝓛 m r = record { same = refl; free = λ κs a g. refl; only = λ κs a g g' x x' ws ws'. both 𝓤 _ _ _ (λ p q. (p ∙ sym q, refl)) }
