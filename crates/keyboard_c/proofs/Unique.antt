-- Each exported function's contract decides its whole answer, and what the record or the buffer is at exit.
-- Assumes nothing.

use mathlib.Core.Path.{refl, ap, ◌∙◌, sym}
use Rattle.decides.specs.Decides.{Decides}
use Rattle.decides.proofs.Both.{both}
use Rattle.keyboard_c.specs.contracts.keyboard_new as N
use Rattle.keyboard_c.specs.contracts.keyboard_set_keyboard_report as S
use Rattle.keyboard_c.specs.contracts.keyboard_get_report as G
use Rattle.keyboard_c.specs.contracts.keyboard_set_report as R
use Rattle.keyboard_c.specs.contracts.keyboard_set_idle as I
use Rattle.keyboard_c.specs.contracts.keyboard_clock as C
use Rattle.keyboard_c.specs.contracts.keyboard_report_descriptor as D
use Rattle.keyboard_c.specs.contracts.keyboard_subclass as Sub
use Rattle.keyboard_c.specs.contracts.keyboard_protocol as P

pub keyboard_new : Decides N.ended (λ M 𝓤 𝓛. N.spec 𝓛) (λ M 𝓤 𝓛. N.clauses 𝓛)
keyboard_new M 𝓤 𝓛 m r = record { same = refl; free = λ κs a g. refl; only = λ κs a g g' x x' ws ws'. both 𝓤 _ _ _ (λ p q. (p ∙ sym q, refl)) }

pub keyboard_set_keyboard_report : Decides S.ended (λ M 𝓤 𝓛. S.spec 𝓛) (λ M 𝓤 𝓛. S.clauses 𝓛)
keyboard_set_keyboard_report M 𝓤 𝓛 m r = record { same = refl; free = λ κs a g. refl; only = λ κs a g g' x x' ws ws'. both 𝓤 _ _ _ (λ p q. (p.0 ∙ sym q.0, ap (λ w. (w, (tt, tt))) (p.1 ∙ sym q.1))) }

pub keyboard_get_report : Decides G.ended (λ M 𝓤 𝓛. G.spec 𝓛) (λ M 𝓤 𝓛. G.clauses 𝓛)
keyboard_get_report M 𝓤 𝓛 m r = record { same = refl; free = λ κs a g. refl; only = λ κs a g g' x x' ws ws'. both 𝓤 _ _ _ (λ p q. (p.0 ∙ sym q.0, ap (λ w. (w, (tt, (tt, tt)))) (p.1 ∙ sym q.1))) }

pub keyboard_set_report : Decides R.ended (λ M 𝓤 𝓛. R.spec 𝓛) (λ M 𝓤 𝓛. R.clauses 𝓛)
keyboard_set_report M 𝓤 𝓛 m r = record { same = refl; free = λ κs a g. refl; only = λ κs a g g' x x' ws ws'. both 𝓤 _ _ _ (λ p q. (p.0 ∙ sym q.0, ap (λ w. (w, (tt, (tt, (tt, tt))))) (p.1 ∙ sym q.1))) }

pub keyboard_set_idle : Decides I.ended (λ M 𝓤 𝓛. I.spec 𝓛) (λ M 𝓤 𝓛. I.clauses 𝓛)
keyboard_set_idle M 𝓤 𝓛 m r = record { same = refl; free = λ κs a g. refl; only = λ κs a g g' x x' ws ws'. both 𝓤 _ _ _ (λ p q. (p.0 ∙ sym q.0, ap (λ w. (w, (tt, tt))) (p.1 ∙ sym q.1))) }

pub keyboard_clock : Decides C.ended (λ M 𝓤 𝓛. C.spec 𝓛) (λ M 𝓤 𝓛. C.clauses 𝓛)
keyboard_clock M 𝓤 𝓛 m r = record { same = refl; free = λ κs a g. refl; only = λ κs a g g' x x' ws ws'. both 𝓤 _ _ _ (λ p q. (p.0 ∙ sym q.0, ap (λ w. (w, tt)) (p.1 ∙ sym q.1))) }

pub keyboard_report_descriptor : Decides D.ended (λ M 𝓤 𝓛. D.spec 𝓛) (λ M 𝓤 𝓛. D.clauses 𝓛)
keyboard_report_descriptor M 𝓤 𝓛 m r = record { same = refl; free = λ κs a g. refl; only = λ κs a g g' x x' ws ws'. both 𝓤 _ _ _ (λ p q. (p.0 ∙ sym q.0, ap (λ w. (w, tt)) (p.1 ∙ sym q.1))) }

pub keyboard_subclass : Decides Sub.ended (λ M 𝓤 𝓛. Sub.spec 𝓛) (λ M 𝓤 𝓛. Sub.clauses 𝓛)
keyboard_subclass M 𝓤 𝓛 m r = record { same = refl; free = λ κs a g. refl; only = λ κs a g g' x x' ws ws'. both 𝓤 _ _ _ (λ p q. (p ∙ sym q, refl)) }

pub keyboard_protocol : Decides P.ended (λ M 𝓤 𝓛. P.spec 𝓛) (λ M 𝓤 𝓛. P.clauses 𝓛)
keyboard_protocol M 𝓤 𝓛 m r = record { same = refl; free = λ κs a g. refl; only = λ κs a g g' x x' ws ws'. both 𝓤 _ _ _ (λ p q. (p ∙ sym q, refl)) }
