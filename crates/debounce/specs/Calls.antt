-- What each call answers: document 01, Debounce, and the refusals 10 to 13 in the order that "Refusal numbers" gives.
-- Assumes nothing.
use Rattle.std.specs.Prelude.{ℕ, ◌*◌, Bool, false, cond, ◌&&◌, List, [], leb, ltb, length, take, Ok, Err, ⊤}
use Rattle.refusal.specs.Verdict.{Verdict, fine, rule, granted}
use Rattle.refusal.specs.Said.{Said, said}
use Rattle.refusal.specs.declared.Refusal.TheVariants.{Scan, Bounce, Room, State}
use Rattle.event.specs.declared.Event.{Event}
use Rattle.lists.specs.Lists.{alike, laid}
use Rattle.debounce.specs.Picture.{all_up, padded, is_picture, is_scan}
use Rattle.debounce.specs.Step as filter
use Rattle.debounce.specs.Events.{changes, written}
use Rattle.debounce.specs.declared.Debouncer.{Debouncer}
use Rattle.debounce.specs.declared.Handed.{Handed}
use Rattle.debounce.specs.declared.Got.{Got}

-- the number of switches
abbrev pub switches : Debouncer → ℕ
switches d = d.rows * d.columns

-- R 1..8, C 1..16
unfoldable pub sizes_good : ℕ → ℕ → Bool
sizes_good rows columns = (leb 1 rows && leb rows 8) && (leb 1 columns && leb columns 16)

-- Bounce is not given: the sizes are good, and nb_bounce is not 65,535
unfoldable pub bounce_good : ℕ → ℕ → ℕ → Bool
bounce_good rows columns nb = sizes_good rows columns && ltb nb 65535

-- State is not given
unfoldable pub state_good : Debouncer → Bool
state_good d =
    bounce_good d.rows d.columns d.nb_bounce
    && (leb d.since d.nb_bounce && (is_picture (switches d) d.cur && is_picture (switches d) d.new))

-- making: Bounce, then the start picture for Scan. Every refusal of a debouncer names place 0
unfoldable pub making_verdict : ℕ → ℕ → ℕ → List ℕ → Verdict
making_verdict rows columns nb start = rule (bounce_good rows columns nb) Bounce 0 (rule (is_scan (rows * columns) start) Scan 0 fine)

-- `get`: State. `update`: State, Scan. `events`: State, Scan, Room
unfoldable pub get_verdict : Debouncer → Verdict
get_verdict d = rule (state_good d) State 0 fine

unfoldable pub update_verdict : Debouncer → List ℕ → Verdict
update_verdict d scan = rule (state_good d) State 0 (rule (is_scan (switches d) scan) Scan 0 fine)

unfoldable pub events_verdict : Debouncer → List ℕ → ℕ → Verdict
events_verdict d scan room =
    rule (state_good d) State 0 (rule (is_scan (switches d) scan) Scan 0 (rule (leb (3 * switches d) room) Room 0 fine))

-- what is said of an answer, with the debouncer that is handed on
abbrev pub beside : {A B : Type 0} → Said A → B → Said (A × B)
beside s b = record { number = s.number; place = s.place; values = (s.values, b) }

-- what is said of each answer: its number, its place and its values. A refused change is no, a refused count 0
abbrev pub made_said : Handed ⊤ → Said Debouncer
made_said m = let s = said tt m.answer in record { number = s.number; place = s.place; values = m.debouncer }

abbrev pub got_said : Got → Said (List ℕ)
got_said g = let s = said tt g.answer in record { number = s.number; place = s.place; values = g.picture }

abbrev pub updated_said : Handed Bool → Said (Bool × Debouncer)
updated_said u = beside (said false u.answer) u.debouncer

abbrev pub answered_said : Handed ℕ → Said (ℕ × Debouncer)
answered_said a = beside (said 0 a.answer) a.debouncer

-- what a call to `events` hands back: what is said of its answer, and the buffer that it was lent
pub record Reply : Type 0 where
  pub answer : Said (ℕ × Debouncer)
  pub buffer : List ℕ

abbrev pub handed : Handed ℕ → List ℕ → Reply
handed a buffer = record { answer = answered_said a; buffer = buffer }

-- where nothing is refused the first, else the second; and what is said of a call that gives the first or the second
unfoldable pub if_fine : {A : Type 0} → Verdict → A → A → A
if_fine (Ok u) given none = given
if_fine (Err fault) given none = none

abbrev pub said_by : {A : Type 0} → Verdict → A → A → Said A
said_by verdict given none = said none (granted verdict given)

-- what is said of a call that is not refused
abbrev pub accepted : {A : Type 0} → A → Said A
accepted values = said values (Ok values)

-- a debouncer that is made, and the all-up 1 by 1 one with nb_bounce 0 that a refused making gives
abbrev pub started : ℕ → ℕ → ℕ → List ℕ → Debouncer
started rows columns nb start =
    record { cur = padded start; new = padded start; since = 0; nb_bounce = nb; rows = rows; columns = columns }

abbrev pub refused_making : Debouncer
refused_making = record { cur = all_up; new = all_up; since = 0; nb_bounce = 0; rows = 1; columns = 1 }

abbrev pub new_reply : ℕ → ℕ → ℕ → List ℕ → Said Debouncer
new_reply rows columns nb start = said_by (making_verdict rows columns nb start) (started rows columns nb start) refused_making

-- the accepted picture in its 128 places; a refused call answers none
abbrev pub get_reply : Debouncer → Said (List ℕ)
get_reply d = said_by (get_verdict d) d.cur all_up

-- a debouncer's pictures and count, and the debouncer with others
abbrev pub pictures_of : Debouncer → filter.Pictures (List ℕ)
pictures_of d = record { accepted = d.cur; candidate = d.new; since = d.since }

abbrev pub with_pictures : Debouncer → filter.Pictures (List ℕ) → Debouncer
with_pictures d p =
    record { cur = p.accepted; new = p.candidate; since = p.since; nb_bounce = d.nb_bounce; rows = d.rows; columns = d.columns }

-- one scan of a debouncer, and the debouncer after it
abbrev pub step_of : Debouncer → List ℕ → filter.Outcome (List ℕ)
step_of d scan = filter.step alike d.nb_bounce (pictures_of d) (padded scan)

abbrev pub scanned : Debouncer → List ℕ → Debouncer
scanned d scan = with_pictures d (step_of d scan).pictures

-- a refused call changes nothing: the debouncer is as it was
abbrev pub update_reply : Debouncer → List ℕ → Said (Bool × Debouncer)
update_reply d scan = said_by (update_verdict d scan) ((step_of d scan).changed, scanned d scan) (false, d)

-- the events of one scan: those between the picture that was accepted and the one that is, if it changed
unfoldable pub events_of : Debouncer → filter.Outcome (List ℕ) → List Event
events_of d o =
    cond o.changed (changes d.columns 0 (take (switches d) o.pictures.candidate) (take (switches d) o.pictures.accepted)) []

-- how many, and their bytes at the start of the buffer; a refused call writes nothing
abbrev pub events_reply : Debouncer → List ℕ → List ℕ → Reply
events_reply d scan buffer =
    let verdict = events_verdict d scan (length buffer) in
    let events = events_of d (step_of d scan) in
    record {
      answer = said_by verdict (length events, scanned d scan) (0, d);
      buffer = if_fine verdict (laid (written events) buffer) buffer;
    }
