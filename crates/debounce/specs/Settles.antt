-- The change comes at scan nb_bounce + 1: document 01, Debounce. It is said of a debouncer that is given one scan again and again,
-- through what the contracts of `Debouncer::update` and `Debouncer::events` say. Assumes nothing.
use Rattle.std.specs.Prelude.{ℕ, zero, suc, ◌+◌, ◌*◌, ◌<◌, ◌≤◌, true, false, List, ◌⊎◌, ◌≡◌, length, take}
use Rattle.event.specs.declared.Event.{Event}
use Rattle.lists.specs.Lists.{laid}
use Rattle.debounce.specs.Picture.{padded, is_scan}
use Rattle.debounce.specs.Events.{changes, written}
use Rattle.debounce.specs.Calls.{switches, state_good, accepted, with_pictures, update_reply, events_reply}
use Rattle.debounce.specs.declared.Debouncer.{Debouncer}

-- the debouncer after so many scans that are all this one
unfoldable pub after_scans : ℕ → Debouncer → List ℕ → Debouncer
after_scans zero d scan = d
after_scans (suc n) d scan = (update_reply (after_scans n d scan) scan).values.1

-- a legal debouncer, and a scan that would change it: it is not the accepted picture, and it has not stood as candidate yet
pub record Fresh (d : Debouncer) (scan : List ℕ) : Type 0 where
  pub legal : state_good d ≡ true
  pub fits : is_scan (switches d) scan ≡ true
  pub differs : d.cur ≡ padded scan → ⊥
  pub unstood : (d.since ≡ 0) ⊎ (d.new ≡ padded scan → ⊥)

-- the debouncer while the scan has stood so long, and once it is accepted
abbrev pub standing : Debouncer → List ℕ → ℕ → Debouncer
standing d scan n = with_pictures d (record { accepted = d.cur; candidate = padded scan; since = n })

abbrev pub changed_to : Debouncer → List ℕ → Debouncer
changed_to d scan = with_pictures d (record { accepted = padded scan; candidate = d.cur; since = 0 })

-- the events between the picture that was accepted and the scan
abbrev pub events_to : Debouncer → List ℕ → List Event
events_to d scan = changes d.columns 0 (take (switches d) d.cur) (take (switches d) (padded scan))

pub record Settles (d : Debouncer) (scan : List ℕ) : Type 0 where
  -- scan n + 1, up to scan nb_bounce: no change and no event; the accepted picture is what it was
  pub waits : (n : ℕ) → n < d.nb_bounce → update_reply (after_scans n d scan) scan ≡ accepted (false, standing d scan (n + 1))
  pub tells_none : (n : ℕ) → n < d.nb_bounce → (buffer : List ℕ) → 3 * switches d ≤ length buffer
      → events_reply (after_scans n d scan) scan buffer ≡ record { answer = accepted (0, standing d scan (n + 1)); buffer = buffer }
  -- scan nb_bounce + 1: the change, and its events
  pub accepts : update_reply (after_scans d.nb_bounce d scan) scan ≡ accepted (true, changed_to d scan)
  pub tells : (buffer : List ℕ) → 3 * switches d ≤ length buffer
      → events_reply (after_scans d.nb_bounce d scan) scan buffer
      ≡ record { answer = accepted (length (events_to d scan), changed_to d scan); buffer = laid (written (events_to d scan)) buffer }

-- for every nb_bounce
unfoldable pub SettlesAll : Type 0
SettlesAll = (d : Debouncer) (scan : List ℕ) → Fresh d scan → Settles d scan
