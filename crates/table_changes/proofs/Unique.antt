-- `compare`'s contract decides its whole answer, and what the lent buffer then holds. Assumes nothing.
use mathlib.Core.Path.{refl, ap, ◌∙◌, sym}
use Rattle.decides.specs.Decides.{Decides}
use Rattle.decides.proofs.Both.{both}
use Rattle.refusal.proofs.Said.{said_one}
use Rattle.table_changes.specs.contracts.compare as C

-- the third parameter is lent
pub compare : Decides C.ended (λ M 𝓤 𝓛. C.spec 𝓛) (λ M 𝓤 𝓛. C.clauses 𝓛)
compare M 𝓤 𝓛 m r =
    record {
      same = refl;
      free = λ κs a g. refl;
      only = λ κs a g g' x x' ws ws'. both 𝓤 _ _ _ (λ p q. (said_one _ _ _ (p.0 ∙ sym q.0), ap (λ w. (tt, (tt, (w, tt)))) (p.1 ∙ sym q.1)));
    }
