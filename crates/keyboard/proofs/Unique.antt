-- Each public function's contract decides its whole answer, and a lent one's what the record or the buffer is at exit.
-- Assumes nothing.
use mathlib.Core.Path.{refl, ap, ◌∙◌, sym}
use Rattle.decides.specs.Decides.{Decides}
use Rattle.decides.proofs.Both.{both}
use Rattle.keyboard.specs.contracts.Keyboard.new as N
use Rattle.keyboard.specs.contracts.Keyboard.set_keyboard_report as S
use Rattle.keyboard.specs.contracts.Keyboard.get_report as G
use Rattle.keyboard.specs.contracts.Keyboard.set_report as R
use Rattle.keyboard.specs.contracts.Keyboard.set_idle as I
use Rattle.keyboard.specs.contracts.Keyboard.clock as C
use Rattle.keyboard.specs.contracts.Keyboard.report_descriptor as D
use Rattle.keyboard.specs.contracts.Keyboard.subclass as Sub
use Rattle.keyboard.specs.contracts.Keyboard.protocol as P
use Rattle.keyboard.specs.contracts.lent.keyboard_set_keyboard_report as L1
use Rattle.keyboard.specs.contracts.lent.keyboard_get_report as L2
use Rattle.keyboard.specs.contracts.lent.keyboard_set_report as L3
use Rattle.keyboard.specs.contracts.lent.keyboard_set_idle as L4
use Rattle.keyboard.specs.contracts.lent.keyboard_clock as L5
use Rattle.keyboard.specs.contracts.linked.keyboard_new as E1
use Rattle.keyboard.specs.contracts.linked.keyboard_report_descriptor as E2
use Rattle.keyboard.specs.contracts.linked.keyboard_subclass as E3
use Rattle.keyboard.specs.contracts.linked.keyboard_protocol as E4
use Rattle.keyboard.specs.contracts.through.set_keyboard_report as T1
use Rattle.keyboard.specs.contracts.through.get_report as T2
use Rattle.keyboard.specs.contracts.through.set_report as T3
use Rattle.keyboard.specs.contracts.through.set_idle as T4
use Rattle.keyboard.specs.contracts.through.clock as T5

pub new : Decides N.ended (λ M 𝓤 𝓛. N.spec 𝓛) (λ M 𝓤 𝓛. N.clauses 𝓛)
new M 𝓤 𝓛 m r = record { same = refl; free = λ κs a g. refl; only = λ κs a g g' x x' ws ws'. both 𝓤 _ _ _ (λ p q. (p ∙ sym q, refl)) }

pub set_keyboard_report : Decides S.ended (λ M 𝓤 𝓛. S.spec 𝓛) (λ M 𝓤 𝓛. S.clauses 𝓛)
set_keyboard_report M 𝓤 𝓛 m r = record { same = refl; free = λ κs a g. refl; only = λ κs a g g' x x' ws ws'. both 𝓤 _ _ _ (λ p q. (p ∙ sym q, refl)) }

pub get_report : Decides G.ended (λ M 𝓤 𝓛. G.spec 𝓛) (λ M 𝓤 𝓛. G.clauses 𝓛)
get_report M 𝓤 𝓛 m r = record { same = refl; free = λ κs a g. refl; only = λ κs a g g' x x' ws ws'. both 𝓤 _ _ _ (λ p q. (p ∙ sym q, refl)) }

pub set_report : Decides R.ended (λ M 𝓤 𝓛. R.spec 𝓛) (λ M 𝓤 𝓛. R.clauses 𝓛)
set_report M 𝓤 𝓛 m r = record { same = refl; free = λ κs a g. refl; only = λ κs a g g' x x' ws ws'. both 𝓤 _ _ _ (λ p q. (p ∙ sym q, refl)) }

pub set_idle : Decides I.ended (λ M 𝓤 𝓛. I.spec 𝓛) (λ M 𝓤 𝓛. I.clauses 𝓛)
set_idle M 𝓤 𝓛 m r = record { same = refl; free = λ κs a g. refl; only = λ κs a g g' x x' ws ws'. both 𝓤 _ _ _ (λ p q. (p ∙ sym q, refl)) }

pub clock : Decides C.ended (λ M 𝓤 𝓛. C.spec 𝓛) (λ M 𝓤 𝓛. C.clauses 𝓛)
clock M 𝓤 𝓛 m r = record { same = refl; free = λ κs a g. refl; only = λ κs a g g' x x' ws ws'. both 𝓤 _ _ _ (λ p q. (p ∙ sym q, refl)) }

pub report_descriptor : Decides D.ended (λ M 𝓤 𝓛. D.spec 𝓛) (λ M 𝓤 𝓛. D.clauses 𝓛)
report_descriptor M 𝓤 𝓛 m r = record { same = refl; free = λ κs a g. refl; only = λ κs a g g' x x' ws ws'. both 𝓤 _ _ _ (λ p q. (p ∙ sym q, refl)) }

pub subclass : Decides Sub.ended (λ M 𝓤 𝓛. Sub.spec 𝓛) (λ M 𝓤 𝓛. Sub.clauses 𝓛)
subclass M 𝓤 𝓛 m r = record { same = refl; free = λ κs a g. refl; only = λ κs a g g' x x' ws ws'. both 𝓤 _ _ _ (λ p q. (p ∙ sym q, refl)) }

pub protocol : Decides P.ended (λ M 𝓤 𝓛. P.spec 𝓛) (λ M 𝓤 𝓛. P.clauses 𝓛)
protocol M 𝓤 𝓛 m r = record { same = refl; free = λ κs a g. refl; only = λ κs a g g' x x' ws ws'. both 𝓤 _ _ _ (λ p q. (p ∙ sym q, refl)) }

pub keyboard_set_keyboard_report : Decides L1.ended (λ M 𝓤 𝓛. L1.spec 𝓛) (λ M 𝓤 𝓛. L1.clauses 𝓛)
keyboard_set_keyboard_report M 𝓤 𝓛 m r = record { same = refl; free = λ κs a g. refl; only = λ κs a g g' x x' ws ws'. both 𝓤 _ _ _ (λ p q. (p.0 ∙ sym q.0, ap (λ w. (w, (tt, tt))) (p.1 ∙ sym q.1))) }

pub keyboard_get_report : Decides L2.ended (λ M 𝓤 𝓛. L2.spec 𝓛) (λ M 𝓤 𝓛. L2.clauses 𝓛)
keyboard_get_report M 𝓤 𝓛 m r = record { same = refl; free = λ κs a g. refl; only = λ κs a g g' x x' ws ws'. both 𝓤 _ _ _ (λ p q. (p.0 ∙ sym q.0, ap (λ w. (w, (tt, (tt, tt)))) (p.1 ∙ sym q.1))) }

pub keyboard_set_report : Decides L3.ended (λ M 𝓤 𝓛. L3.spec 𝓛) (λ M 𝓤 𝓛. L3.clauses 𝓛)
keyboard_set_report M 𝓤 𝓛 m r = record { same = refl; free = λ κs a g. refl; only = λ κs a g g' x x' ws ws'. both 𝓤 _ _ _ (λ p q. (p.0 ∙ sym q.0, ap (λ w. (w, (tt, (tt, (tt, tt))))) (p.1 ∙ sym q.1))) }

pub keyboard_set_idle : Decides L4.ended (λ M 𝓤 𝓛. L4.spec 𝓛) (λ M 𝓤 𝓛. L4.clauses 𝓛)
keyboard_set_idle M 𝓤 𝓛 m r = record { same = refl; free = λ κs a g. refl; only = λ κs a g g' x x' ws ws'. both 𝓤 _ _ _ (λ p q. (p.0 ∙ sym q.0, ap (λ w. (w, (tt, tt))) (p.1 ∙ sym q.1))) }

pub keyboard_clock : Decides L5.ended (λ M 𝓤 𝓛. L5.spec 𝓛) (λ M 𝓤 𝓛. L5.clauses 𝓛)
keyboard_clock M 𝓤 𝓛 m r = record { same = refl; free = λ κs a g. refl; only = λ κs a g g' x x' ws ws'. both 𝓤 _ _ _ (λ p q. (p.0 ∙ sym q.0, ap (λ w. (w, tt)) (p.1 ∙ sym q.1))) }

pub keyboard_new : Decides E1.ended (λ M 𝓤 𝓛. E1.spec 𝓛) (λ M 𝓤 𝓛. E1.clauses 𝓛)
keyboard_new M 𝓤 𝓛 m r = record { same = refl; free = λ κs a g. refl; only = λ κs a g g' x x' ws ws'. both 𝓤 _ _ _ (λ p q. (p ∙ sym q, refl)) }

pub keyboard_report_descriptor : Decides E2.ended (λ M 𝓤 𝓛. E2.spec 𝓛) (λ M 𝓤 𝓛. E2.clauses 𝓛)
keyboard_report_descriptor M 𝓤 𝓛 m r = record { same = refl; free = λ κs a g. refl; only = λ κs a g g' x x' ws ws'. both 𝓤 _ _ _ (λ p q. (p.0 ∙ sym q.0, ap (λ w. (w, tt)) (p.1 ∙ sym q.1))) }

pub keyboard_subclass : Decides E3.ended (λ M 𝓤 𝓛. E3.spec 𝓛) (λ M 𝓤 𝓛. E3.clauses 𝓛)
keyboard_subclass M 𝓤 𝓛 m r = record { same = refl; free = λ κs a g. refl; only = λ κs a g g' x x' ws ws'. both 𝓤 _ _ _ (λ p q. (p ∙ sym q, refl)) }

pub keyboard_protocol : Decides E4.ended (λ M 𝓤 𝓛. E4.spec 𝓛) (λ M 𝓤 𝓛. E4.clauses 𝓛)
keyboard_protocol M 𝓤 𝓛 m r = record { same = refl; free = λ κs a g. refl; only = λ κs a g g' x x' ws ws'. both 𝓤 _ _ _ (λ p q. (p ∙ sym q, refl)) }

pub through_set_keyboard_report : Decides T1.ended (λ M 𝓤 𝓛. T1.spec 𝓛) (λ M 𝓤 𝓛. T1.clauses 𝓛)
through_set_keyboard_report M 𝓤 𝓛 m r = record { same = refl; free = λ κs a g. refl; only = λ κs a g g' x x' ws ws'. both 𝓤 _ _ _ (λ p q. (p ∙ sym q, refl)) }

pub through_get_report : Decides T2.ended (λ M 𝓤 𝓛. T2.spec 𝓛) (λ M 𝓤 𝓛. T2.clauses 𝓛)
through_get_report M 𝓤 𝓛 m r = record { same = refl; free = λ κs a g. refl; only = λ κs a g g' x x' ws ws'. both 𝓤 _ _ _ (λ p q. (p ∙ sym q, refl)) }

pub through_set_report : Decides T3.ended (λ M 𝓤 𝓛. T3.spec 𝓛) (λ M 𝓤 𝓛. T3.clauses 𝓛)
through_set_report M 𝓤 𝓛 m r = record { same = refl; free = λ κs a g. refl; only = λ κs a g g' x x' ws ws'. both 𝓤 _ _ _ (λ p q. (p ∙ sym q, refl)) }

pub through_set_idle : Decides T4.ended (λ M 𝓤 𝓛. T4.spec 𝓛) (λ M 𝓤 𝓛. T4.clauses 𝓛)
through_set_idle M 𝓤 𝓛 m r = record { same = refl; free = λ κs a g. refl; only = λ κs a g g' x x' ws ws'. both 𝓤 _ _ _ (λ p q. (p ∙ sym q, refl)) }

pub through_clock : Decides T5.ended (λ M 𝓤 𝓛. T5.spec 𝓛) (λ M 𝓤 𝓛. T5.clauses 𝓛)
through_clock M 𝓤 𝓛 m r = record { same = refl; free = λ κs a g. refl; only = λ κs a g g' x x' ws ws'. both 𝓤 _ _ _ (λ p q. (p ∙ sym q, refl)) }
