-- Each public function's contract decides its whole answer. Assumes nothing.
use mathlib.Core.Path.{refl, ap, ◌∙◌, sym}
use Rattle.decides.specs.Decides.{Decides}
use Rattle.decides.proofs.Both.{both}
use Rattle.codes.proofs.Laws.{zeros}
use Rattle.codes.specs.contracts.key_code.KeyCode.is_legal as L
use Rattle.codes.specs.contracts.key_code.KeyCode.is_modifier as Mod
use Rattle.codes.specs.contracts.key_code.KeyCode.as_modifier_bit as B
use Rattle.codes.specs.contracts.report.KbHidReportDefault.default as D
use Rattle.codes.specs.contracts.report.KbHidReport.pressed as P
use Rattle.codes.specs.contracts.report.KbHidReport.from_codes as F

pub is_legal : Decides L.ended (λ M 𝓤 𝓛. L.spec 𝓛) (λ M 𝓤 𝓛. L.clauses 𝓛)
is_legal M 𝓤 𝓛 m r = record { same = refl; free = λ κs a g. refl; only = λ κs a g g' x x' ws ws'. both 𝓤 _ _ _ (λ p q. (p ∙ sym q, refl)) }

pub is_modifier : Decides Mod.ended (λ M 𝓤 𝓛. Mod.spec 𝓛) (λ M 𝓤 𝓛. Mod.clauses 𝓛)
is_modifier M 𝓤 𝓛 m r = record { same = refl; free = λ κs a g. refl; only = λ κs a g g' x x' ws ws'. both 𝓤 _ _ _ (λ p q. (p ∙ sym q, refl)) }

pub as_modifier_bit : Decides B.ended (λ M 𝓤 𝓛. B.spec 𝓛) (λ M 𝓤 𝓛. B.clauses 𝓛)
as_modifier_bit M 𝓤 𝓛 m r = record { same = refl; free = λ κs a g. refl; only = λ κs a g g' x x' ws ws'. both 𝓤 _ _ _ (λ p q. (p ∙ sym q, refl)) }

pub default : Decides D.ended (λ M 𝓤 𝓛. D.spec 𝓛) (λ M 𝓤 𝓛. D.clauses 𝓛)
default M 𝓤 𝓛 m r = record { same = refl; free = λ κs a g. refl; only = λ κs a g g' x x' ws ws'. both 𝓤 _ _ _ (λ p q. (ap (λ l. record { bytes = l }) (zeros x.bytes p ∙ sym (zeros x'.bytes q)), refl)) }

pub pressed : Decides P.ended (λ M 𝓤 𝓛. P.spec 𝓛) (λ M 𝓤 𝓛. P.clauses 𝓛)
pressed M 𝓤 𝓛 m r = record { same = refl; free = λ κs a g. refl; only = λ κs a g g' x x' ws ws'. both 𝓤 _ _ _ (λ p q. (p ∙ sym q, refl)) }

pub from_codes : Decides F.ended (λ M 𝓤 𝓛. F.spec 𝓛) (λ M 𝓤 𝓛. F.clauses 𝓛)
from_codes M 𝓤 𝓛 m r = record { same = refl; free = λ κs a g. refl; only = λ κs a g g' x x' ws ws'. both 𝓤 _ _ _ (λ p q. (p ∙ sym q, refl)) }
