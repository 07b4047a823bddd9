-- What the count of dropped states is worth: document 02, W-202. The count is that of the layout's steps: `push` drops a 65th
-- state (crates/layout/specs/Actions.antt), and each step leaves how many were dropped in it (Model.antt: Done).
--     Missing      what an action drops is just what it would hold more, had it room for any number of states
--     Told         whatever the image, the layout and the buffer, an answer tells just what its call dropped: in a tick at most 63,
--                  in an event at most 124, and where the call is refused none
--     NoneShown    `keycodes` tells none
--     AddUp        the counts of a run add up to what its steps dropped
--     Same         by `push`, the steps of specs/Adding.antt are the layout's own
--     AsBefore     but for the count, every reply is what it was before W-202
--     NothingLost  where every count of a run is 0, its answers are those of the same steps with room for any number of states,
--                  and so is the layout that it leaves: the 64 never mattered
-- Assumes nothing.
use Rattle.refusal.specs.Verdict.{Verdict}
use Rattle.std.specs.Prelude.{ℕ, ◌+◌, ◌≤◌, ◌≡◌, true, List, [], ◌∷◌, map, eqb, length, Option, Ok, Err}
use Rattle.lists.specs.Lists.{every}
use Rattle.event.specs.declared.Coord.{Coord}
use Rattle.event.specs.declared.Event.{Event}
use Rattle.image.specs.Check.{check_of}
use Rattle.image.specs.Table.{Table, table_of}
use Rattle.image.specs.Tree.{Action}
use Rattle.image.specs.declared.words.Shape.{Shape}
use Rattle.layout.specs.Model.{Model, Done}
use Rattle.layout.specs.Actions.{push, do_action}
use Rattle.layout.specs.Steps.{codes, sum}
use Rattle.layout.specs.Packed.{pack}
use Rattle.layout.specs.Notes.{acted_on, decisions, acted_in, made_in}
use Rattle.layout.specs.Calls.{judged_of, Reply, codes_told, replied, keycodes_reply}
use Rattle.layout.specs.Reach.{Starts}
use Rattle.layout.specs.declared.notes.Way.{Way}
use Rattle.layout.specs.declared.layout.Layout.{Layout}
use Rattle.demands.specs.Runs.{Call, Tick, Enter}
use Rattle.demands.specs.Public.{Lent, calls_of, Roomy, reply, replies, step, after_calls}
use Rattle.demands.specs.Adding as by
use Rattle.demands.specs.Adding.{Adds, silent, kept}

-- an action runs by the layout's own steps, and with room for any number of states
unfoldable pub Missing : Type 0
Missing =
    (a : Action) (n : ℕ) (c : Coord) (d : ℕ) (f : Option ℕ) (l : Model)
    → let own = do_action a n c d f l in
    length (by.do_action kept a n c d f l).layout.states ≡ length own.layout.states + own.dropped

-- what a call dropped, by its step; a refused call drops nothing
unfoldable pub dropped_if : Verdict → Done → ℕ
dropped_if (Ok u) done = done.dropped
dropped_if (Err f) done = 0

abbrev pub dropped_by : List ℕ → Call → Layout → List ℕ → ℕ
dropped_by image k layout buffer = dropped_if (judged_of image layout (length buffer)) (step image k layout)

-- how many a call drops at most. Both are reached (specs/DroppedCases.antt: most-in-a-tick, most-in-an-event)
abbrev pub most_dropped : Call → ℕ
most_dropped Tick = 63
most_dropped (Enter e) = 124

-- the count that an answer tells
abbrev pub count_in : Reply → ℕ
count_in r = r.told.values.notes.dropped

unfoldable pub Told : Type 0
Told =
    (image : List ℕ) (k : Call) (layout : Layout) (buffer : List ℕ)
    → (count_in (reply image k layout buffer) ≡ dropped_by image k layout buffer) × (dropped_by image k layout buffer ≤ most_dropped k)

unfoldable pub NoneShown : Type 0
NoneShown = (image : List ℕ) (layout : Layout) (buffer : List ℕ) → count_in (keycodes_reply image layout buffer) ≡ 0

-- the counts of a run, and what its steps dropped
abbrev pub counts_in : List Reply → List ℕ
counts_in rs = map count_in rs

unfoldable pub dropped_in : List ℕ → List Lent → Layout → ℕ
dropped_in image [] layout = 0
dropped_in image (k ∷ ks) layout =
    dropped_by image k.call layout k.buffer + dropped_in image ks (reply image k.call layout k.buffer).layout

unfoldable pub AddUp : Type 0
AddUp = (image : List ℕ) (ks : List Lent) (layout : Layout) → sum (counts_in (replies image ks layout)) ≡ dropped_in image ks layout

-- a call by another way to add a state: its reply, and its step on the layout as lists
unfoldable pub reply_by : Adds → List ℕ → Call → Layout → List ℕ → Reply
reply_by add image Tick layout buffer = replied image (by.tick add (table_of image)) layout buffer
reply_by add image (Enter e) layout buffer = replied image (by.event add (table_of image) e) layout buffer

unfoldable pub call_by : Adds → Table → Call → Model → Done
call_by add table Tick l = by.tick add table l
call_by add table (Enter e) l = by.event add table e l

unfoldable pub Same : Type 0
Same = (image : List ℕ) (k : Call) (layout : Layout) (buffer : List ℕ) → reply_by push image k layout buffer ≡ reply image k layout buffer

-- a reply but for its count
abbrev pub uncounted : Reply → Reply
uncounted r =
    let t = r.told in
    let n = t.values.notes in
    record {
      told =
          record {
            number = t.number;
            place = t.place;
            values =
                record {
                  codes = t.values.codes;
                  notes = record { acted = n.acted; made = n.made; first = n.first; second = n.second; dropped = 0 };
                };
          };
      layout = r.layout;
      buffer = r.buffer;
    }

unfoldable pub AsBefore : Type 0
AsBefore =
    (image : List ℕ) (k : Call) (layout : Layout) (buffer : List ℕ)
    → reply_by silent image k layout buffer ≡ uncounted (reply image k layout buffer)

-- what an answer says beside its count: the codes, the event acted on, the decisions; and what a step comes to
pub record Said : Type 0 where
  pub codes : List ℕ
  pub acted : List Event
  pub decided : List (Coord × Way)

abbrev pub said_in : Reply → Said
said_in r = record { codes = codes_told r; acted = acted_in r.told.values.notes.acted; decided = made_in r.told.values.notes }

abbrev pub said_by : Done → Said
said_by done = record { codes = codes done.layout.states; acted = acted_on done.marks; decided = decisions done.marks }

-- calls, one after the other, by another way to add a state: what they say, and the layout that they leave
unfoldable pub says_by : Adds → Table → List Call → Model → List Said
says_by add table [] l = []
says_by add table (k ∷ ks) l = let r = call_by add table k l in said_by r ∷ says_by add table ks r.layout

unfoldable pub leaves_by : Adds → Table → List Call → Model → Model
leaves_by add table [] l = l
leaves_by add table (k ∷ ks) l = leaves_by add table ks (call_by add table k l).layout

-- the answers of calls, and the layout after them, are those with room for any number of states
pub record Full (image : List ℕ) (start : Model) (calls : List Lent) : Type 0 where
  pub answers : map said_in (replies image calls (pack start)) ≡ says_by kept (table_of image) (calls_of calls) start
  pub layout : after_calls image start calls ≡ pack (leaves_by kept (table_of image) (calls_of calls) start)

unfoldable pub NothingLost : Type 0
NothingLost =
    (image : List ℕ) (shape : Shape) → check_of image ≡ Ok shape → (start : Model) → Starts image start
    → (calls : List Lent) → Roomy calls → every (λ n. eqb n 0) (counts_in (replies image calls (pack start))) ≡ true
    → Full image start calls
