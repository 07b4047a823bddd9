-- Each public function's contract decides its whole answer, and `events`' what the buffer holds at exit. Assumes nothing.
use mathlib.Core.Path.{refl, ap, ◌∙◌, sym}
use Rattle.decides.specs.Decides.{Decides}
use Rattle.decides.proofs.Both.{both}
use Rattle.debounce.proofs.Said.{made_one, got_one, updated_one, handed_one}
use Rattle.debounce.specs.contracts.Debouncer.new as N
use Rattle.debounce.specs.contracts.Debouncer.get as G
use Rattle.debounce.specs.contracts.Debouncer.update as U
use Rattle.debounce.specs.contracts.Debouncer.events as E

pub new : Decides N.ended (λ M 𝓤 𝓛. N.spec 𝓛) (λ M 𝓤 𝓛. N.clauses 𝓛)
new M 𝓤 𝓛 m r = record { same = refl; free = λ κs a g. refl; only = λ κs a g g' x x' ws ws'. both 𝓤 _ _ _ (λ p q. (made_one _ _ (p ∙ sym q), refl)) }

pub get : Decides G.ended (λ M 𝓤 𝓛. G.spec 𝓛) (λ M 𝓤 𝓛. G.clauses 𝓛)
get M 𝓤 𝓛 m r = record { same = refl; free = λ κs a g. refl; only = λ κs a g g' x x' ws ws'. both 𝓤 _ _ _ (λ p q. (got_one _ _ (p ∙ sym q), refl)) }

pub update : Decides U.ended (λ M 𝓤 𝓛. U.spec 𝓛) (λ M 𝓤 𝓛. U.clauses 𝓛)
update M 𝓤 𝓛 m r = record { same = refl; free = λ κs a g. refl; only = λ κs a g g' x x' ws ws'. both 𝓤 _ _ _ (λ p q. (updated_one _ _ (p ∙ sym q), refl)) }

pub events : Decides E.ended (λ M 𝓤 𝓛. E.spec 𝓛) (λ M 𝓤 𝓛. E.clauses 𝓛)
events M 𝓤 𝓛 m r = record { same = refl; free = λ κs a g. refl; only = λ κs a g g' x x' ws ws'. both 𝓤 _ _ _ (λ p q. let h = handed_one _ _ _ _ (p ∙ sym q) in (h.0, ap (λ w. (tt, (tt, (w, tt)))) h.1)) }
