-- Demand 3: a layout left alone comes to rest. It is said of runs of the public calls (specs/Public.antt), and of every
-- image that the image's check accepts. The words "begun", "acted on" and "decided" mean the marks of the layout's
-- steps (document 01, Layout, and "How much each statement must say"), and the report is that of the crate codes.
--     Demand3      the demand, of one image, one start and one list of calls, each clause a part
--     OfImages     it holds of every image of bytes that is accepted, every layout that calls may start from
--                  (crates/layout/specs/Reach.antt: Starts), and every list of calls that are lent 64 bytes
--     OfFresh      the case of a fresh layout
--     Heard        a call that is not refused has such an image and such a buffer, so the demand holds wherever none is
-- Assumes nothing.
use Rattle.std.specs.Prelude.{ℕ, ◌≤◌, ◌<◌, ◌≡◌, List, [], ◌∷◌, ◌++◌, length, replicate, get_or, None, Ok}
use Rattle.codes.specs.Report.{report_of}
use Rattle.image.specs.Check.{check_of}
use Rattle.image.specs.Table.{times_of}
use Rattle.image.specs.declared.words.Shape.{Shape}
use Rattle.layout.specs.Model.{Model, Mark, fresh}
use Rattle.layout.specs.Packed.{pack}
use Rattle.layout.specs.Notes.{acted_on, decisions}
use Rattle.layout.specs.Calls.{Reply}
use Rattle.layout.specs.Reach.{held_in, queued_in, waits_in, Starts}
use Rattle.layout.specs.declared.layout.Layout.{Layout}
use Rattle.demands.specs.Runs.{Call, arrived}
use Rattle.demands.specs.Answers.{named_events, named_decisions}
use Rattle.demands.specs.Words.{bound, Leads, Nothing, AllReleased}
use Rattle.demands.specs.Public.{Lent, calls_of, ticks_on, Roomy, reply, replies, marks_of, after_calls, last_codes, notes_of, NoneRefused}

-- the calls on a layout, then ticks alone, one for each buffer: what they hand back, the layout that they leave, and what
-- their steps did
abbrev pub ran : List ℕ → Model → List Lent → List (List ℕ) → List Reply
ran image start calls bs = replies image (calls ++ ticks_on bs) (pack start)

abbrev pub layout_left : List ℕ → Model → List Lent → List (List ℕ) → Layout
layout_left image start calls bs = after_calls image start (calls ++ ticks_on bs)

abbrev pub did : List ℕ → Model → List Lent → List (List ℕ) → List Mark
did image start calls bs = marks_of image (calls ++ ticks_on bs) (pack start)

-- 2q + max(1, M): q events are queued after the calls, and M is the image's longest hold time
abbrev pub bound_of : List ℕ → Model → List Lent → ℕ
bound_of image start calls = bound (queued_in (after_calls image start calls)) (times_of image)

-- the queue is empty and nothing waits
pub record AtRest (layout : Layout) : Type 0 where
  pub empty : queued_in layout ≡ 0
  pub idle : waits_in layout ≡ None

-- for the calls on a layout over the image, then ticks alone, each lent a buffer of its own
pub record Demand3 (image : List ℕ) (start : Model) (calls : List Lent) : Type 0 where
  -- no call is refused
  pub unrefused : (bs : List (List ℕ)) → Roomy (ticks_on bs) → NoneRefused (ran image start calls bs)
  -- within the bound the queue is empty and nothing waits, and so it stays
  pub drained : (bs : List (List ℕ)) → Roomy (ticks_on bs) → bound_of image start calls ≤ length bs → AtRest (layout_left image start calls bs)
  -- each event was acted on once, in order of arrival; and the answers name just these
  pub acted :
      (bs : List (List ℕ)) → Roomy (ticks_on bs) → bound_of image start calls ≤ length bs
      → acted_on (did image start calls bs) ≡ arrived (calls_of calls)
  pub named :
      (bs : List (List ℕ)) → Roomy (ticks_on bs) → bound_of image start calls ≤ length bs
      → named_events (notes_of (ran image start calls bs)) ≡ arrived (calls_of calls)
  -- each hold-tap begun was decided once, tap or hold, before any later event was acted on; and the answers name just these
  -- decisions
  pub decided :
      (bs : List (List ℕ)) → Roomy (ticks_on bs) → bound_of image start calls ≤ length bs
      → Leads Nothing (did image start calls bs) Nothing
  pub named_decisions_lem :
      (bs : List (List ℕ)) → Roomy (ticks_on bs)
      → named_decisions (notes_of (ran image start calls bs)) ≡ decisions (did image start calls bs)
  -- if every key's last event was a release, no state is left, and the report of the last answer's codes is eight zero bytes
  pub stateless :
      AllReleased (arrived (calls_of calls)) → (bs : List (List ℕ)) → Roomy (ticks_on bs) → bound_of image start calls ≤ length bs
      → held_in (layout_left image start calls bs) ≡ 0
  pub zeros :
      AllReleased (arrived (calls_of calls)) → (bs : List (List ℕ)) → Roomy (ticks_on bs) → bound_of image start calls ≤ length bs
      → report_of (last_codes [] (ran image start calls bs)) ≡ replicate 8 0

unfoldable pub OfImages : Type 0
OfImages =
    (image : List ℕ) (shape : Shape) → ((i : ℕ) → get_or image i 0 < 256) → check_of image ≡ Ok shape
    → (start : Model) → Starts image start → (calls : List Lent) → Roomy calls → Demand3 image start calls

unfoldable pub OfFresh : Type 0
OfFresh =
    (image : List ℕ) (shape : Shape) → ((i : ℕ) → get_or image i 0 < 256) → check_of image ≡ Ok shape
    → (calls : List Lent) → Roomy calls → Demand3 image fresh calls

-- what a call that is not refused was given. So `OfImages` speaks of every run in which there is a call and none is refused
pub record Given (image buffer : List ℕ) : Type 0 where
  pub shape : Shape
  pub accepted : check_of image ≡ Ok shape
  pub room : 64 ≤ length buffer

unfoldable pub Heard : Type 0
Heard = (image : List ℕ) (k : Call) (layout : Layout) (buffer : List ℕ) → NoneRefused (reply image k layout buffer ∷ []) → Given image buffer
