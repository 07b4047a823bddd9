-- Changing a report is true exactly if it differs: `specs/Keyboard.antt`; and the keyboard has it then, changed or not.
-- Assumes nothing.
use Prim.Native.Nat.{ℕ}
use mathlib.Core.Bool.{Bool, true, false}
use mathlib.Core.Path.{◌≡◌, refl}
use native.Mathlib.Omega.{arith}
use Rattle.lists.specs.Lists.{alike}
use Rattle.lists.proofs.Laws.{alike_is, alike_self, alike_not}
use Rattle.codes.specs.declared.report.KbHidReport.{KbHidReport}
use Rattle.keyboard.specs.Keyboard.{reported, ExactlyIfDiffers}
use Rattle.keyboard.specs.declared.Keyboard.{Keyboard}

equal_none : (k : Keyboard) (report : KbHidReport) → k.report.bytes ≡ report.bytes → (reported k report).changed ≡ false
unfolding reported
equal_none k report e =
    let same : alike k.report.bytes report.bytes ≡ true = rw e (alike_self report.bytes) in
    rw same

differs_some : (k : Keyboard) (report : KbHidReport) → (k.report.bytes ≡ report.bytes → ⊥) → (reported k report).changed ≡ true
unfolding reported
differs_some k report differs = rw (alike_not k.report.bytes report.bytes differs)

-- the keyboard has the report that it was given, changed or not
pub given_kept : (k : Keyboard) (report : KbHidReport) → (reported k report).keyboard.report.bytes ≡ report.bytes
unfolding reported
given_kept k report = go (alike k.report.bytes report.bytes) refl
  where
    go : (t : Bool) → alike k.report.bytes report.bytes ≡ t → (reported k report).keyboard.report.bytes ≡ report.bytes
    go true e = rw e (alike_is k.report.bytes report.bytes e)
    go false e = rw e

pub exactly_if_differs : ExactlyIfDiffers
unfolding ExactlyIfDiffers
exactly_if_differs k report =
    record {
      changed_differs = λ is e. let none = equal_none k report e in let z : ◌≡◌ {A = ℕ} 0 1 = cc in absurd (omega arith);
      differs_changed = differs_some k report;
    }
