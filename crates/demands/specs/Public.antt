-- Runs of the layout's public calls. What a call hands back is `Rattle.layout.specs.Calls`, which the contracts of `event`
-- and `tick` cite: each compiled call meets its contract, and the contract allows one reply alone
-- (crates/layout/proofs/Unique.antt). In a run each call is on the layout that the one before it handed back, over one image,
-- and each with a buffer of its own. What it may start from is `Starts` of crates/layout/specs/Reach.antt.
-- Assumes nothing.
use Rattle.refusal.specs.Verdict.{Verdict}
use Rattle.std.specs.Prelude.{ℕ, ◌≤◌, ◌≡◌, true, List, [], ◌∷◌, ◌++◌, map, eqb, length, Ok, Err}
use Rattle.lists.specs.Lists.{every}
use Rattle.image.specs.Table.{table_of}
use Rattle.layout.specs.Model.{Model, Mark, Done}
use Rattle.layout.specs.Steps.{event, tick}
use Rattle.layout.specs.Packed.{pack, unpack}
use Rattle.layout.specs.Calls.{judged_of, Reply, codes_told, event_reply, tick_reply}
use Rattle.layout.specs.declared.notes.Notes.{Notes}
use Rattle.layout.specs.declared.layout.Layout.{Layout}
use Rattle.demands.specs.Runs.{Call, Tick, Enter}

-- a call and the buffer that it is lent
pub record Lent : Type 0 where
  pub call : Call
  pub buffer : List ℕ

abbrev pub calls_of : List Lent → List Call
calls_of ks = map (λ (k : Lent). k.call) ks

-- ticks, one for each buffer
abbrev pub ticks_on : List (List ℕ) → List Lent
ticks_on bs = map (λ (b : List ℕ). record { call = Tick; buffer = b }) bs

-- calls that are each lent a buffer of one kind
abbrev pub lent_all : List ℕ → List Call → List Lent
lent_all buffer ks = map (λ (k : Call). record { call = k; buffer = buffer }) ks

-- each is lent 64 bytes or more
unfoldable pub Roomy : List Lent → Type 0
Roomy [] = Unit
Roomy (k ∷ ks) = (64 ≤ length k.buffer) × Roomy ks

unfoldable pub reply : List ℕ → Call → Layout → List ℕ → Reply
reply image Tick layout buffer = tick_reply image layout buffer
reply image (Enter e) layout buffer = event_reply image e layout buffer

-- one call after the other
unfoldable pub replies : List ℕ → List Lent → Layout → List Reply
replies image [] layout = []
replies image (k ∷ ks) layout = let r = reply image k.call layout k.buffer in r ∷ replies image ks r.layout

-- the step of the layout that a call makes, and what the steps of the calls did, in the order of happening. A refused call
-- does nothing
unfoldable pub step : List ℕ → Call → Layout → Done
step image Tick layout = tick (table_of image) (unpack image layout)
step image (Enter e) layout = event (table_of image) e (unpack image layout)

unfoldable pub marks_if : Verdict → Done → List Mark
marks_if (Ok u) done = done.marks
marks_if (Err f) done = []

abbrev pub did_by : List ℕ → Call → Layout → List ℕ → List Mark
did_by image k layout buffer = marks_if (judged_of image layout (length buffer)) (step image k layout)

unfoldable pub marks_of : List ℕ → List Lent → Layout → List Mark
marks_of image [] layout = []
marks_of image (k ∷ ks) layout =
    did_by image k.call layout k.buffer ++ marks_of image ks (reply image k.call layout k.buffer).layout

-- the layout that the last call handed back; before any call, the one that there is
unfoldable pub last_layout : Layout → List Reply → Layout
last_layout layout [] = layout
last_layout layout (r ∷ rs) = last_layout r.layout rs

-- the layout after calls on a start
abbrev pub after_calls : List ℕ → Model → List Lent → Layout
after_calls image start calls = last_layout (pack start) (replies image calls (pack start))

-- the codes of the last answer; before any call, those that there are
unfoldable pub last_codes : List ℕ → List Reply → List ℕ
last_codes codes [] = codes
last_codes codes (r ∷ rs) = last_codes (codes_told r) rs

-- what the answers name
abbrev pub notes_of : List Reply → List Notes
notes_of rs = map (λ (r : Reply). r.told.values.notes) rs

-- no answer is a refusal: each has number 0
unfoldable pub NoneRefused : List Reply → Type 0
NoneRefused rs = every (λ (r : Reply). eqb r.told.number 0) rs ≡ true
