-- Each public function's contract decides its whole answer, and what the lent buffer then holds. Assumes nothing.
use mathlib.Core.Path.{refl, ap, ◌∙◌, sym}
use Rattle.decides.specs.Decides.{Decides}
use Rattle.decides.proofs.Both.{both}
use Rattle.refusal.proofs.Said.{said_one}
use Rattle.table_text.specs.contracts.write as W
use Rattle.table_text.specs.contracts.print as P

-- the second parameter is lent
pub write : Decides W.ended (λ M 𝓤 𝓛. W.spec 𝓛) (λ M 𝓤 𝓛. W.clauses 𝓛)
write M 𝓤 𝓛 m r =
    record {
      same = refl;
      free = λ κs a g. refl;
      only = λ κs a g g' x x' ws ws'. both 𝓤 _ _ _ (λ p q. (said_one _ _ _ (p.0 ∙ sym q.0), ap (λ w. (tt, (w, tt))) (p.1 ∙ sym q.1)));
    }

pub print : Decides P.ended (λ M 𝓤 𝓛. P.spec 𝓛) (λ M 𝓤 𝓛. P.clauses 𝓛)
print M 𝓤 𝓛 m r =
    record {
      same = refl;
      free = λ κs a g. refl;
      only = λ κs a g g' x x' ws ws'. both 𝓤 _ _ _ (λ p q. (said_one _ _ _ (p.0 ∙ sym q.0), ap (λ w. (tt, (w, tt))) (p.1 ∙ sym q.1)));
    }
