-- Each public function's contract decides its whole answer. Assumes nothing.
use mathlib.Core.Path.{refl, ap, ◌∙◌, sym}
use mathlib.Core.List.{List}
use Prim.Native.Nat.{ℕ}
use Rattle.decides.specs.Decides.{Decides, DecidesAs}
use Rattle.decides.proofs.Both.{both}
use Rattle.text.specs.contracts.input.Reading.start as S
use Rattle.text.specs.contracts.input.Reading.filled as F
use Rattle.text.specs.contracts.input.Reading.answered as D
use Rattle.text.specs.contracts.input.front as R
use Rattle.text.specs.contracts.input.gather as G
use Rattle.text.specs.contracts.reply.unread as U
use Rattle.text.specs.contracts.reply.refused as E
use Rattle.text.specs.contracts.text.Text.new as N
use Rattle.text.specs.contracts.text.Text.put as T
use Rattle.text.specs.contracts.text.Text.put_all as L
use Rattle.text.specs.contracts.text.Text.put_hex as X
use Rattle.text.specs.contracts.text.Text.put_number as B

pub start : Decides S.ended (λ M 𝓤 𝓛. S.spec 𝓛) (λ M 𝓤 𝓛. S.clauses 𝓛)
start M 𝓤 𝓛 m r = record { same = refl; free = λ κs a g. refl; only = λ κs a g g' x x' ws ws'. both 𝓤 _ _ _ (λ p q. (p ∙ sym q, refl)) }

pub filled : Decides F.ended (λ M 𝓤 𝓛. F.spec 𝓛) (λ M 𝓤 𝓛. F.clauses 𝓛)
filled M 𝓤 𝓛 m r = record { same = refl; free = λ κs a g. refl; only = λ κs a g g' x x' ws ws'. both 𝓤 _ _ _ (λ p q. (p ∙ sym q, refl)) }

pub answered : Decides D.ended (λ M 𝓤 𝓛. D.spec 𝓛) (λ M 𝓤 𝓛. D.clauses 𝓛)
answered M 𝓤 𝓛 m r = record { same = refl; free = λ κs a g. refl; only = λ κs a g g' x x' ws ws'. both 𝓤 _ _ _ (λ p q. (p ∙ sym q, refl)) }

pub unread : Decides U.ended (λ M 𝓤 𝓛. U.spec 𝓛) (λ M 𝓤 𝓛. U.clauses 𝓛)
unread M 𝓤 𝓛 m r = record { same = refl; free = λ κs a g. refl; only = λ κs a g g' x x' ws ws'. both 𝓤 _ _ _ (λ p q. (p ∙ sym q, refl)) }

pub refused : Decides E.ended (λ M 𝓤 𝓛. E.spec 𝓛) (λ M 𝓤 𝓛. E.clauses 𝓛)
refused M 𝓤 𝓛 m r = record { same = refl; free = λ κs a g. refl; only = λ κs a g g' x x' ws ws'. both 𝓤 _ _ _ (λ p q. (p ∙ sym q, refl)) }

pub new : Decides N.ended (λ M 𝓤 𝓛. N.spec 𝓛) (λ M 𝓤 𝓛. N.clauses 𝓛)
new M 𝓤 𝓛 m r = record { same = refl; free = λ κs a g. refl; only = λ κs a g g' x x' ws ws'. both 𝓤 _ _ _ (λ p q. (p ∙ sym q, refl)) }

pub put : Decides T.ended (λ M 𝓤 𝓛. T.spec 𝓛) (λ M 𝓤 𝓛. T.clauses 𝓛)
put M 𝓤 𝓛 m r = record { same = refl; free = λ κs a g. refl; only = λ κs a g g' x x' ws ws'. both 𝓤 _ _ _ (λ p q. (p ∙ sym q, refl)) }

pub put_all : Decides L.ended (λ M 𝓤 𝓛. L.spec 𝓛) (λ M 𝓤 𝓛. L.clauses 𝓛)
put_all M 𝓤 𝓛 m r = record { same = refl; free = λ κs a g. refl; only = λ κs a g g' x x' ws ws'. both 𝓤 _ _ _ (λ p q. (p ∙ sym q, refl)) }

pub put_hex : Decides X.ended (λ M 𝓤 𝓛. X.spec 𝓛) (λ M 𝓤 𝓛. X.clauses 𝓛)
put_hex M 𝓤 𝓛 m r = record { same = refl; free = λ κs a g. refl; only = λ κs a g g' x x' ws ws'. both 𝓤 _ _ _ (λ p q. (p ∙ sym q, refl)) }

pub put_number : Decides B.ended (λ M 𝓤 𝓛. B.spec 𝓛) (λ M 𝓤 𝓛. B.clauses 𝓛)
put_number M 𝓤 𝓛 m r = record { same = refl; free = λ κs a g. refl; only = λ κs a g g' x x' ws ws'. both 𝓤 _ _ _ (λ p q. (p ∙ sym q, refl)) }

-- the result is a reference: what it refers to is decided
pub front : DecidesAs R.ended (λ κs. List ℕ) (λ κs r. r.now) (λ M 𝓤 𝓛. R.spec 𝓛) (λ M 𝓤 𝓛. R.clauses 𝓛)
front M 𝓤 𝓛 m r = record { same = refl; free = λ κs a g. refl; only = λ κs a g g' x x' ws ws'. both 𝓤 _ _ _ (λ p q. (p ∙ sym q, refl)) }

-- the second parameter is lent: the answer, and what it then holds
pub gather : Decides G.ended (λ M 𝓤 𝓛. G.spec 𝓛) (λ M 𝓤 𝓛. G.clauses 𝓛)
gather M 𝓤 𝓛 m r = record { same = refl; free = λ κs a g. refl; only = λ κs a g g' x x' ws ws'. both 𝓤 _ _ _ (λ p q. (p.0 ∙ sym q.0, ap (λ w. (tt, (w, (tt, tt)))) (p.1 ∙ sym q.1))) }
