-- What an empty list of changed keys is worth: document 02, W-203. Where `compare` says of two images that no cell differs
-- (crates/table_changes/specs/Changes.antt), every call is answered over the second as over the first, from fresh layouts on.
--     NoKeyChanges      whatever calls come, and whatever buffers they are lent: all answers are equal, and so is what each
--                       buffer then holds. A call that is lent too little is refused over both
--     NoCodesChange     and what `keycodes` answers after them is equal
--     SameAnswers       in document 02's words: calls none of which is refused over the first are not refused over the second,
--                       and give equal codes, acted-on events, decisions and counts of dropped states (W-202), call by call
-- The layouts themselves may differ in one word: a HoldTap that waits is kept by the number of its record.
-- Assumes nothing.
use Rattle.std.specs.Prelude.{◌≡◌, List, map, ℕ}
use Rattle.table_changes.specs.Changes.{compare_reply}
use Rattle.std.specs.Prelude.{Ok}
use Rattle.layout.specs.Model.{fresh}
use Rattle.layout.specs.Packed.{pack}
use Rattle.layout.specs.Calls.{Reply, keycodes_reply}
use Rattle.refusal.specs.Said.{Said}
use Rattle.layout.specs.declared.answer.Answer.{Answer}
use Rattle.demands.specs.Public.{Lent, replies, after_calls, NoneRefused}
use Rattle.demands.specs.Bench.{says}

-- all that a call hands back but the layout: number, place, how many codes, the event, the decisions and how many states were
-- dropped; and its buffer
abbrev pub answered : Reply → Said Answer × List ℕ
answered r = (r.told, r.buffer)

-- the list of changed cells is empty: there was no refusal, so both images are accepted, and L, R and C are equal
abbrev pub NoneChanged : List ℕ → List ℕ → List ℕ → Type 0
NoneChanged first second out = (compare_reply first second out).compared ≡ Ok 0

-- calls one after the other on a fresh layout
abbrev pub fresh_replies : List ℕ → List Lent → List Reply
fresh_replies image calls = replies image calls (pack fresh)

unfoldable pub NoKeyChanges : Type 0
NoKeyChanges =
    (first second out : List ℕ) → NoneChanged first second out
    → (calls : List Lent) → map answered (fresh_replies first calls) ≡ map answered (fresh_replies second calls)

unfoldable pub NoCodesChange : Type 0
NoCodesChange =
    (first second out : List ℕ) → NoneChanged first second out → (calls : List Lent) (buffer : List ℕ)
    → answered (keycodes_reply first (after_calls first fresh calls) buffer)
    ≡ answered (keycodes_reply second (after_calls second fresh calls) buffer)

unfoldable pub SameAnswers : Type 0
SameAnswers =
    (first second out : List ℕ) → NoneChanged first second out
    → (calls : List Lent) → NoneRefused (fresh_replies first calls)
    → NoneRefused (fresh_replies second calls) × (map says (fresh_replies first calls) ≡ map says (fresh_replies second calls))
