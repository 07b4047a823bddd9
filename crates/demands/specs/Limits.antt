-- The limits of an answer: document 01, Layout, its last paragraph. Whatever the image, the layout and the buffer, a call acts
-- on at most one event, a tick makes at most one decision and an event at most two (crates/layout/specs/Limits.antt), and the
-- answer names them all.
-- Assumes nothing.
use Rattle.std.specs.Prelude.{ℕ, ◌≡◌, List}
use Rattle.layout.specs.Model.{Mark}
use Rattle.layout.specs.Notes.{acted_on, decisions, acted_in, made_in}
use Rattle.layout.specs.Calls.{Reply}
use Rattle.layout.specs.Limits.{Limits}
use Rattle.layout.specs.declared.layout.Layout.{Layout}
use Rattle.demands.specs.Runs.{Call, Tick, Enter}
use Rattle.demands.specs.Public.{did_by, reply}

-- how many decisions a call makes at most
abbrev pub most : Call → ℕ
most Tick = 1
most (Enter e) = 2

-- the answer names just what the call did
pub record Names (marks : List Mark) (r : Reply) : Type 0 where
  pub acted : acted_in r.told.values.notes.acted ≡ acted_on marks
  pub decided : made_in r.told.values.notes ≡ decisions marks

unfoldable pub OfCalls : Type 0
OfCalls =
    (image : List ℕ) (k : Call) (layout : Layout) (buffer : List ℕ)
    → Limits (most k) (did_by image k layout buffer) × Names (did_by image k layout buffer) (reply image k layout buffer)
