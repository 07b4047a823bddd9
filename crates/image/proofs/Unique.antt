-- Each public function's contract decides its whole answer. Assumes nothing.
use mathlib.Core.Path.{refl, ◌∙◌, sym}
use mathlib.Core.List.{List}
use Prim.Native.Nat.{ℕ}
use Rattle.decides.specs.Decides.{Decides, DecidesAs}
use Rattle.decides.proofs.Both.{both}
use Rattle.refusal.proofs.Said.{said_one}
use Rattle.image.proofs.Said.{source_one, action_one}
use Rattle.image.specs.contracts.record.cell_at as C
use Rattle.image.specs.contracts.record.action_at as A
use Rattle.image.specs.contracts.record.entry_at as E
use Rattle.image.specs.contracts.rules.check as K
use Rattle.image.specs.contracts.areas.source_of as S
use Rattle.image.specs.contracts.areas.in_use as U
use Rattle.image.specs.contracts.areas.refusal_in_use as R
use Rattle.image.specs.contracts.header.counts_good as G
use Rattle.image.specs.contracts.words.word_or_zero as W

pub cell_at : Decides C.ended (λ M 𝓤 𝓛. C.spec 𝓛) (λ M 𝓤 𝓛. C.clauses 𝓛)
cell_at M 𝓤 𝓛 m r = record { same = refl; free = λ κs a g. refl; only = λ κs a g g' x x' ws ws'. both 𝓤 _ _ _ (λ p q. (p ∙ sym q, refl)) }

pub action_at : Decides A.ended (λ M 𝓤 𝓛. A.spec 𝓛) (λ M 𝓤 𝓛. A.clauses 𝓛)
action_at M 𝓤 𝓛 m r = record { same = refl; free = λ κs a g. refl; only = λ κs a g g' x x' ws ws'. both 𝓤 _ _ _ (λ p q. (action_one _ _ (p ∙ sym q), refl)) }

pub entry_at : Decides E.ended (λ M 𝓤 𝓛. E.spec 𝓛) (λ M 𝓤 𝓛. E.clauses 𝓛)
entry_at M 𝓤 𝓛 m r = record { same = refl; free = λ κs a g. refl; only = λ κs a g g' x x' ws ws'. both 𝓤 _ _ _ (λ p q. (p ∙ sym q, refl)) }

pub counts_good : Decides G.ended (λ M 𝓤 𝓛. G.spec 𝓛) (λ M 𝓤 𝓛. G.clauses 𝓛)
counts_good M 𝓤 𝓛 m r = record { same = refl; free = λ κs a g. refl; only = λ κs a g g' x x' ws ws'. both 𝓤 _ _ _ (λ p q. (p ∙ sym q, refl)) }

pub word_or_zero : Decides W.ended (λ M 𝓤 𝓛. W.spec 𝓛) (λ M 𝓤 𝓛. W.clauses 𝓛)
word_or_zero M 𝓤 𝓛 m r = record { same = refl; free = λ κs a g. refl; only = λ κs a g g' x x' ws ws'. both 𝓤 _ _ _ (λ p q. (p ∙ sym q, refl)) }

pub check : Decides K.ended (λ M 𝓤 𝓛. K.spec 𝓛) (λ M 𝓤 𝓛. K.clauses 𝓛)
check M 𝓤 𝓛 m r = record { same = refl; free = λ κs a g. refl; only = λ κs a g g' x x' ws ws'. both 𝓤 _ _ _ (λ p q. (said_one _ _ _ (p ∙ sym q), refl)) }

pub refusal_in_use : Decides R.ended (λ M 𝓤 𝓛. R.spec 𝓛) (λ M 𝓤 𝓛. R.clauses 𝓛)
refusal_in_use M 𝓤 𝓛 m r = record { same = refl; free = λ κs a g. refl; only = λ κs a g g' x x' ws ws'. both 𝓤 _ _ _ (λ p q. (p ∙ sym q, refl)) }

pub source_of : Decides S.ended (λ M 𝓤 𝓛. S.spec 𝓛) (λ M 𝓤 𝓛. S.clauses 𝓛)
source_of M 𝓤 𝓛 m r = record { same = refl; free = λ κs a g. refl; only = λ κs a g g' x x' ws ws'. both 𝓤 _ _ _ (λ p q. (source_one _ _ (p ∙ sym q), refl)) }

-- the result is a reference: what it refers to is decided
pub in_use : DecidesAs U.ended (λ κs. List ℕ) (λ κs r. r.now) (λ M 𝓤 𝓛. U.spec 𝓛) (λ M 𝓤 𝓛. U.clauses 𝓛)
in_use M 𝓤 𝓛 m r = record { same = refl; free = λ κs a g. refl; only = λ κs a g g' x x' ws ws'. both 𝓤 _ _ _ (λ p q. (p ∙ sym q, refl)) }
