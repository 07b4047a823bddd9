-- Each public function's contract decides its whole answer: of `advance`, given what the read brought. Assumes nothing.
use Prim.Native.Nat.{ℕ}
use mathlib.Core.List.{List}
use mathlib.Core.Path.{◌≡◌, refl, ap, ap₂, ◌∙◌, sym}
use Rattle.decides.specs.Decides.{Decides, DecidesGiven, Relates}
use Rattle.decides.proofs.Both.{both}
use Rattle.console.specs.Reading.{advanced_reading}
use Rattle.console.specs.contracts.advance as A
use Rattle.console.specs.contracts.write_all as B
use Rattle.console.specs.contracts.put_line as P
use Rattle.console.specs.contracts.write_line as W
use Rattle.console.specs.contracts.read_whole as R

-- what came: how many bytes are here, and the input's buffer
pub advance : DecidesGiven A.ended (ℕ × List ℕ) (λ κs a r ws. (r.end, ws.1.0)) (λ M 𝓤 𝓛. A.spec 𝓛) (λ M 𝓤 𝓛. A.clauses 𝓛)
advance M 𝓤 𝓛 m run =
    record {
      same = refl;
      free = λ κs a g. refl;
      only = λ κs a g g' x x' ws ws'. both 𝓤 _ _ _ (λ p q e. (p.is ∙ ap (advanced_reading _ _ _) (ap (λ z. z.0) e) ∙ sym q.is, ap₂ (λ i l. (tt, (i, (l, (tt, tt))))) (ap (λ z. z.1) e) (p.held ∙ sym q.held)));
    }

-- once the answer is given nothing is left to decide: of a write no more can be said
pub write_all : DecidesGiven B.ended _ (λ κs a r ws. r) (λ M 𝓤 𝓛. B.spec 𝓛) (λ M 𝓤 𝓛. B.clauses 𝓛)
write_all M 𝓤 𝓛 m r = record { same = refl; free = λ κs a g. refl; only = λ κs a g g' x x' ws ws'. both 𝓤 _ _ _ (λ p q e. (e, refl)) }

pub put_line : DecidesGiven P.ended _ (λ κs a r ws. r) (λ M 𝓤 𝓛. P.spec 𝓛) (λ M 𝓤 𝓛. P.clauses 𝓛)
put_line M 𝓤 𝓛 m r = record { same = refl; free = λ κs a g. refl; only = λ κs a g g' x x' ws ws'. both 𝓤 _ _ _ (λ p q e. (e, refl)) }

pub write_line : Decides W.ended (λ M 𝓤 𝓛. W.spec 𝓛) (λ M 𝓤 𝓛. W.clauses 𝓛)
write_line M 𝓤 𝓛 m r = record { same = refl; free = λ κs a g. refl; only = λ κs a g g' x x' ws ws'. both 𝓤 _ _ _ (λ p q. (p ∙ sym q, refl)) }

-- of a reader of any type: once the answer, and what the reader and the buffer then hold, are given nothing is left to decide
pub read_whole : (d : R.dyn-1.Ghosts) → Relates (R.ended d) (λ κs a r r' ws ws'. (r ≡ r') × (ws ≡ ws') → (r ≡ r') × (ws ≡ ws')) (λ M 𝓤 𝓛. R.spec d 𝓛) (λ M 𝓤 𝓛. R.clauses d 𝓛)
read_whole d M 𝓤 𝓛 m r = record { same = refl; free = λ κs a g. refl; only = λ κs a g g' x x' ws ws'. both 𝓤 _ _ _ (λ p q e. e) }
