-- The limits of an answer: what a call does is limited, and its answer names it all. Document 01, Layout, its last paragraph.
-- Assumes nothing.
use Rattle.refusal.specs.Verdict.{Verdict}
use Rattle.std.specs.Prelude.{Ok, Err}
use Prim.Native.Nat.{ℕ, ◌≤◌}
use mathlib.Core.Path.{◌≡◌, refl}
use mathlib.Core.List.{List}
use native.Mathlib.Omega.{arith}
use lib.ListN.{length}
use Rattle.image.specs.Sound.{Sound}
use Rattle.image.specs.Table.{table_of}
use Rattle.layout.specs.Model.{Model, Done}
use Rattle.layout.specs.Steps.{event, tick}
use Rattle.layout.specs.Packed.{unpack}
use Rattle.layout.specs.Notes.{noted_marks, acted_on, decisions}
use Rattle.layout.specs.Calls.{judged_of, answer_of, replied}
use Rattle.layout.specs.Limits.{Limits}
use Rattle.layout.specs.declared.layout.Layout.{Layout}
use Rattle.layout.proofs.Calls.{judged_fine}
use Rattle.layout.proofs.Limits.{limited}
use Rattle.layout.proofs.Noted.{noted_acted, noted_all}
use Rattle.demands.specs.Runs.{Tick, Enter}
use Rattle.demands.specs.Public.{step, marks_if, reply}
use Rattle.demands.specs.Limits.{Names, OfCalls}

-- a call by its step, refused or not
module _ (image : List ℕ) (f : Model → Done) (most : ℕ) (two : most ≤ 2) (layout : Layout) (buffer : List ℕ) (within : Sound image → Limits most (f (unpack image layout)).marks) where
  named : let ms = marks_if (judged_of image layout (length buffer)) (f (unpack image layout)) in Limits most ms × Names ms (replied image f layout buffer)
  unfolding marks_if replied answer_of noted_marks acted_on decisions
  named = by (judged_of image layout (length buffer)) refl
    where
      by : (j : Verdict) → judged_of image layout (length buffer) ≡ j → let ms = marks_if (judged_of image layout (length buffer)) (f (unpack image layout)) in Limits most ms × Names ms (replied image f layout buffer)
      by (Ok u) e =
          let x = within (judged_fine image layout (length buffer) e).0 in
          rw e (x, record { acted = noted_acted (f (unpack image layout)).marks x.acts; decided = noted_all (f (unpack image layout)).marks (omega (arith, x.decides)) })
      by (Err f) e = rw e (record { acts = omega arith; decides = omega arith }, record { acted = refl; decided = refl })

pub of_calls : OfCalls
unfolding OfCalls step reply
of_calls image Tick layout buffer = named image (tick (table_of image)) 1 (omega arith) layout buffer (λ s. (limited image layout s).tick)
of_calls image (Enter e) layout buffer = named image (event (table_of image) e) 2 (omega arith) layout buffer (λ s. (limited image layout s).event e)
