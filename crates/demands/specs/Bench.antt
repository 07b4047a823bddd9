-- The cases of document 01, "Bench cases", that are marked P, its "Easy errors", and its "table in use" where there is none: what
-- goes in and what comes out, as data, and one statement over their lists. What comes out is computed through the definitions
-- that the public functions' contracts give.
-- Assumes nothing.
use Rattle.std.specs.Prelude.{ℕ, ◌*◌, ◌≡◌, Bool, false, List, [], ◌∷◌, ◌++◌, map, take, replicate}
use Rattle.event.specs.declared.Coord.{Coord}
use Rattle.event.specs.declared.Event.{Event}
use Rattle.event.specs.declared.Event.TheVariants.{Release, Press}
use Rattle.codes.specs.Report.{report_of}
use Rattle.refusal.specs.Said.{said}
use Rattle.image.specs.Check.{check_of, no_shape}
use Rattle.image.specs.Use.{source_of, source_said}
use Rattle.debounce.specs.Calls.{new_reply, events_reply}
use Rattle.debounce.specs.declared.Debouncer.{Debouncer}
use Rattle.layout.specs.Model.{fresh}
use Rattle.layout.specs.Packed.{pack}
use Rattle.layout.specs.Notes.{acted_in, made_in}
use Rattle.layout.specs.Calls.{Reply, codes_told}
use Rattle.layout.specs.declared.notes.Way.{Way}
use Rattle.layout.specs.declared.notes.Way.TheVariants.{Tap, Hold}
use Rattle.demands.specs.Runs.{Call, Tick, Enter}
use Rattle.demands.specs.Public.{lent_all, replies}
use Rattle.demands.specs.Z.{z, layered, two_keys, lent}

-- what goes in
pub data Input : Type 0 where
  -- an image, for its check
  Check : List ℕ → Input
  -- the operator's area and the built-in one
  Areas : List ℕ → List ℕ → Input
  -- an image, and calls on a fresh layout over it, 64 bytes lent to them
  Calls : List ℕ → List Call → Input
  -- codes, for a report
  Codes : List ℕ → Input
  -- rows, columns, nb_bounce and start picture of a debouncer, and scans
  Scans : ℕ → ℕ → ℕ → List ℕ → List (List ℕ) → Input

-- all that an answer of the layout says: number, place, codes, the event acted on if any, the decisions, and how many states were
-- dropped (document 02, W-202)
pub record Says : Type 0 where
  pub number : ℕ
  pub place : ℕ
  pub codes : List ℕ
  pub acted : List Event
  pub decided : List (Coord × Way)
  pub dropped : ℕ

-- a scan's answer: its number, and the bytes of its events
pub record Scanned : Type 0 where
  pub number : ℕ
  pub events : List ℕ

-- what comes out
pub data Output : Type 0 where
  -- the number and the place of the check's answer
  CheckTold : ℕ → ℕ → Output
  -- number and place, whether the stretch in use is the operator's, and how long it is
  Used : ℕ → ℕ → Bool → ℕ → Output
  -- an answer for each call
  Answers : List Says → Output
  -- the report's bytes
  Report : List ℕ → Output
  -- the number of the making, and an answer for each scan
  Bounced : ℕ → List Scanned → Output

unfoldable pub says : Reply → Says
says r =
    record {
      number = r.told.number;
      place = r.told.place;
      codes = codes_told r;
      acted = acted_in r.told.values.notes.acted;
      decided = made_in r.told.values.notes;
      dropped = r.told.values.notes.dropped;
    }

-- one scan after the other, one buffer lent to each, as the contract of `Debouncer::events` has it: three bytes an event
unfoldable pub scans : List (List ℕ) → Debouncer → List ℕ → List Scanned
scans [] d buffer = []
scans (scan ∷ rest) d buffer =
    let r = events_reply d scan buffer in
    let events = take (3 * r.answer.values.0) r.buffer in
    record { number = r.answer.number; events = events } ∷ scans rest r.answer.values.1 r.buffer

unfoldable pub outcome : Input → Output
outcome (Check image) = let t = said no_shape (check_of image) in CheckTold t.number t.place
outcome (Areas operator built_in) =
    let t = source_said (source_of operator built_in) in
    Used t.number t.place t.values.operator t.values.size
outcome (Calls image calls) = Answers (map says (replies image (lent_all lent calls) (pack fresh)))
outcome (Codes codes) = Report (report_of codes)
outcome (Scans rows columns nb start list) =
    let m = new_reply rows columns nb start in
    Bounced m.number (scans list m.values (replicate (3 * (rows * columns)) 0))

pub record Case : Type 0 where
  pub given : Input
  pub gives : Output

unfoldable pub Holds : Case → Type 0
Holds c = outcome c.given ≡ c.gives

unfoldable pub AllHold : List Case → Type 0
AllHold [] = Unit
AllHold (c ∷ cs) = Holds c × AllHold cs

-- the coordinates of Z's HoldTap, and answers that refuse and drop nothing
abbrev pub origin : Coord
origin = record { i = 0; j = 0 }

abbrev pub nothing : Says
nothing = record { number = 0; place = 0; codes = []; acted = []; decided = []; dropped = 0 }

abbrev pub acting : Event → List (Coord × Way) → List ℕ → Says
acting e decided codes = record { number = 0; place = 0; codes = codes; acted = e ∷ []; decided = decided; dropped = 0 }

abbrev pub deciding : List (Coord × Way) → List ℕ → Says
deciding decided codes = record { number = 0; place = 0; codes = codes; acted = []; decided = decided; dropped = 0 }

abbrev pub events : List ℕ → Scanned
events bytes = record { number = 0; events = bytes }

unfoldable pub cases : List Case
cases =
    -- Z is accepted; its first 51 bytes give 3; its first 15 give 1
    record { given = Check z; gives = CheckTold 0 0 }
    ∷ record { given = Check (take 51 z); gives = CheckTold 3 0 }
    ∷ record { given = Check (take 15 z); gives = CheckTold 1 0 }
    -- Z, a press of (0,0), and three ticks
    ∷ record {
      given = Calls z (Enter (Press 0 0) ∷ Tick ∷ Tick ∷ Tick ∷ []);
      gives = Answers (nothing ∷ acting (Press 0 0) [] [] ∷ nothing ∷ deciding ((origin, Hold) ∷ []) (0xE0 ∷ []) ∷ []);
    }
    -- Z, a press of (0,0) and its release, and two ticks
    ∷ record {
      given = Calls z (Enter (Press 0 0) ∷ Enter (Release 0 0) ∷ Tick ∷ Tick ∷ []);
      gives = Answers (nothing ∷ nothing ∷ acting (Press 0 0) ((origin, Tap) ∷ []) (0x2C ∷ []) ∷ acting (Release 0 0) [] [] ∷ []);
    }
    -- codes 04..09, and with 0A and E1
    ∷ record {
      given = Codes (0x04 ∷ 0x05 ∷ 0x06 ∷ 0x07 ∷ 0x08 ∷ 0x09 ∷ []);
      gives = Report (0x00 ∷ 0x00 ∷ 0x04 ∷ 0x05 ∷ 0x06 ∷ 0x07 ∷ 0x08 ∷ 0x09 ∷ []);
    }
    ∷ record {
      given = Codes (0x04 ∷ 0x05 ∷ 0x06 ∷ 0x07 ∷ 0x08 ∷ 0x09 ∷ 0x0A ∷ 0xE1 ∷ []);
      gives = Report (0x02 ∷ 0x00 ∷ 0x01 ∷ 0x01 ∷ 0x01 ∷ 0x01 ∷ 0x01 ∷ 0x01 ∷ []);
    }
    -- codes 04, 02, and then 05
    ∷ record { given = Codes (0x04 ∷ 0x02 ∷ []); gives = Report (0 ∷ 0 ∷ 2 ∷ 2 ∷ 2 ∷ 2 ∷ 2 ∷ 2 ∷ []) }
    ∷ record { given = Codes (0x04 ∷ 0x02 ∷ 0x05 ∷ []); gives = Report (0 ∷ 0 ∷ 1 ∷ 1 ∷ 1 ∷ 1 ∷ 1 ∷ 1 ∷ []) }
    -- nb_bounce 2 and nb_bounce 0: one switch, which is up and then down
    ∷ record {
      given = Scans 1 1 2 (0 ∷ []) ((1 ∷ []) ∷ (1 ∷ []) ∷ (1 ∷ []) ∷ []);
      gives = Bounced 0 (events [] ∷ events [] ∷ events (1 ∷ 0 ∷ 0 ∷ []) ∷ []);
    }
    ∷ record { given = Scans 1 1 0 (0 ∷ []) ((1 ∷ []) ∷ []); gives = Bounced 0 (events (1 ∷ 0 ∷ 0 ∷ []) ∷ []) }
    -- Z, seventeen presses of (0,1)
    ∷ record {
      given = Calls z (replicate 17 (Enter (Press 0 1)));
      gives = Answers (replicate 16 nothing ++ (acting (Press 0 1) [] (0x2C ∷ []) ∷ []));
    }
    ∷ []

-- the easy errors that a case shuts out
unfoldable pub easy_errors : List Case
easy_errors =
    -- Z: the release that decides a tap stays queued, and is acted on at the next tick: the key does not stick
    record {
      given = Calls z (Enter (Press 0 0) ∷ Tick ∷ Enter (Release 0 0) ∷ Tick ∷ []);
      gives = Answers (nothing ∷ acting (Press 0 0) [] [] ∷ deciding ((origin, Tap) ∷ []) (0x2C ∷ []) ∷ acting (Release 0 0) [] [] ∷ []);
    }
    -- with the second layer held a key's Trans inside a MultipleActions does nothing: 05 alone
    ∷ record {
      given = Calls layered (Enter (Press 0 0) ∷ Tick ∷ Enter (Press 0 1) ∷ Tick ∷ []);
      gives = Answers (nothing ∷ acting (Press 0 0) [] [] ∷ nothing ∷ acting (Press 0 1) [] (0x05 ∷ []) ∷ []);
    }
    -- held by two keys the layers' sum is past the table: the key is NoOp, and not the default layer's 04
    ∷ record {
      given = Calls layered (Enter (Press 0 0) ∷ Enter (Press 0 2) ∷ Tick ∷ Tick ∷ Enter (Press 0 1) ∷ Tick ∷ []);
      gives = Answers (nothing ∷ nothing ∷ acting (Press 0 0) [] [] ∷ acting (Press 0 2) [] [] ∷ nothing ∷ acting (Press 0 1) [] [] ∷ []);
    }
    -- the queued tie: press and release of the second key, 3 ticks apart, come while the first waits: tap at timeout 3
    ∷ record {
      given =
          Calls two_keys
          (Enter (Press 0 0) ∷ Tick ∷ Enter (Press 0 1) ∷ Tick ∷ Tick ∷ Tick ∷ Enter (Release 0 1) ∷ Tick ∷ Tick ∷ Tick ∷ []);
      gives =
          Answers
          (nothing ∷ acting (Press 0 0) [] [] ∷ nothing ∷ nothing ∷ nothing ∷ nothing ∷ nothing
          ∷ deciding ((origin, Hold) ∷ []) (0x05 ∷ [])
          ∷ acting (Press 0 1) ((record { i = 0; j = 1 }, Tap) ∷ []) (0x05 ∷ 0x04 ∷ [])
          ∷ acting (Release 0 1) [] (0x05 ∷ [])
          ∷ []);
    }
    ∷ []

-- Z cut short in both areas: there is no table in use, and the refusal is the operator's
unfoldable pub none_in_use : List Case
none_in_use = record { given = Areas (take 15 z) (take 51 z); gives = Used 1 0 false 0 } ∷ []

-- every one of them holds
unfoldable pub Bench : Type 0
Bench = AllHold cases × AllHold easy_errors × AllHold none_in_use
