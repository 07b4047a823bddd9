-- Each public function's contract decides its whole answer, and what the code buffer holds at exit. Assumes nothing.
use mathlib.Core.Path.{refl, ap, ◌∙◌, sym}
use Rattle.decides.specs.Decides.{Decides}
use Rattle.decides.proofs.Both.{both}
use Rattle.layout.proofs.Known.{handed_one, shown_one}
use Rattle.layout.specs.contracts.layout.Layout.new as N
use Rattle.layout.specs.contracts.layout.Layout.event as E
use Rattle.layout.specs.contracts.layout.Layout.tick as T
use Rattle.layout.specs.contracts.layout.Layout.keycodes as K

pub new : Decides N.ended (λ M 𝓤 𝓛. N.spec 𝓛) (λ M 𝓤 𝓛. N.clauses 𝓛)
new M 𝓤 𝓛 m r = record { same = refl; free = λ κs a g. refl; only = λ κs a g g' x x' ws ws'. both 𝓤 _ _ _ (λ p q. (p ∙ sym q, refl)) }

pub event : Decides E.ended (λ M 𝓤 𝓛. E.spec 𝓛) (λ M 𝓤 𝓛. E.clauses 𝓛)
event M 𝓤 𝓛 m r = record { same = refl; free = λ κs a g. refl; only = λ κs a g g' x x' ws ws'. both 𝓤 _ _ _ (λ p q. let h = handed_one _ _ _ _ (p ∙ sym q) in (h.0, ap (λ w. (tt, (tt, (tt, (w, tt))))) h.1)) }

pub tick : Decides T.ended (λ M 𝓤 𝓛. T.spec 𝓛) (λ M 𝓤 𝓛. T.clauses 𝓛)
tick M 𝓤 𝓛 m r = record { same = refl; free = λ κs a g. refl; only = λ κs a g g' x x' ws ws'. both 𝓤 _ _ _ (λ p q. let h = handed_one _ _ _ _ (p ∙ sym q) in (h.0, ap (λ w. (tt, (tt, (w, tt)))) h.1)) }

pub keycodes : Decides K.ended (λ M 𝓤 𝓛. K.spec 𝓛) (λ M 𝓤 𝓛. K.clauses 𝓛)
keycodes M 𝓤 𝓛 m r = record { same = refl; free = λ κs a g. refl; only = λ κs a g g' x x' ws ws'. both 𝓤 _ _ _ (λ p q. let h = shown_one _ _ _ _ _ (p ∙ sym q) in (h.0, ap (λ w. (tt, (tt, (w, tt)))) h.1)) }
