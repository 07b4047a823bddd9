-- The change comes at scan nb_bounce + 1, for every nb_bounce: `specs/Settles.antt`. Assumes nothing.
use Prim.Native.Nat.{ℕ, zero, suc, ◌+◌, ◌*◌, ◌<◌, ◌≤◌}
use mathlib.Core.Bool.{Bool, true, false, cond}
use mathlib.Core.List.{List}
use mathlib.Core.Logic.{◌⊎◌, ⊎_elim}
use mathlib.Core.Path.{◌≡◌, refl, sym, ap, ◌∙◌}
use native.Mathlib.Numerals.{add-one}
use native.Mathlib.Omega.{arith}
use borrow.Author.Tests.{le-leb, lt-ltb, le-ltb}
use lib.ListN.{length}
use Rattle.refusal.specs.Verdict.{rule}
use Rattle.refusal.specs.Said.{Said}
use Rattle.lists.specs.Lists.{alike, laid}
use Rattle.lists.proofs.Laws.{alike_is, alike_self, alike_not}
use Rattle.debounce.specs.Picture.{padded, is_scan}
use Rattle.debounce.specs.Step as filter
use Rattle.debounce.specs.Events.{written}
use Rattle.debounce.specs.Calls.{switches, state_good, update_verdict, events_verdict, if_fine, accepted, pictures_of, with_pictures, step_of, scanned, events_of, Reply, update_reply, events_reply}
use Rattle.debounce.specs.Settles.{after_scans, Fresh, standing, changed_to, events_to, SettlesAll}
use Rattle.debounce.specs.declared.Debouncer.{Debouncer}
use Rattle.debounce.proofs.Runs.{step_legal}

-- what a scan that is not refused answers
update_is : (d : Debouncer) (scan : List ℕ) → state_good d ≡ true → is_scan (switches d) scan ≡ true
    → update_reply d scan ≡ accepted ((step_of d scan).changed, scanned d scan)
unfolding if_fine update_verdict rule
update_is d scan s f = rw (s, f)

-- and what `events` hands back, by the step
abbrev reply : Debouncer → filter.Outcome (List ℕ) → List ℕ → Reply
reply d o buffer =
    record { answer = accepted (length (events_of d o), with_pictures d o.pictures); buffer = laid (written (events_of d o)) buffer }

events_is : (d : Debouncer) (scan buffer : List ℕ) → state_good d ≡ true → is_scan (switches d) scan ≡ true → 3 * switches d ≤ length buffer
    → events_reply d scan buffer ≡ reply d (step_of d scan) buffer
unfolding if_fine events_verdict rule
events_is d scan buffer s f room = rw (s, f, le-leb (3 * switches d) (length buffer) room)

module _ (d : Debouncer) (scan : List ℕ) (fresh : Fresh d scan) where
  -- the pictures and the count after so many such scans, at most nb_bounce
  abbrev stood : ℕ → filter.Pictures (List ℕ)
  stood zero = pictures_of d
  stood (suc n) = pictures_of (standing d scan (n + 1))

  first : filter.grown alike d.nb_bounce (pictures_of d) (padded scan) ≡ pictures_of (standing d scan 1)
  unfolding filter.grown
  first = go (alike d.new (padded scan)) refl fresh.unstood
    where
      go : (same : Bool) → alike d.new (padded scan) ≡ same → (d.since ≡ 0) ⊎ (d.new ≡ padded scan → ⊥)
          → cond same (record { accepted = d.cur; candidate = d.new; since = d.since + 1 }) (record { accepted = d.cur; candidate = padded scan; since = 1 }) ≡ pictures_of (standing d scan 1)
      go true e w = let is = alike_is d.new (padded scan) e in rw (is, ⊎_elim (λ z. z) (λ n. absurd (n is)) w)
      go false e w = refl

  -- the next such scan
  step_at : (n : ℕ) → filter.step alike d.nb_bounce (stood n) (padded scan) ≡ filter.passed alike d.nb_bounce (pictures_of (standing d scan (n + 1)))
  unfolding filter.step filter.grown
  step_at zero = rw (alike_not d.cur (padded scan) fresh.differs) (ap (filter.passed alike d.nb_bounce) first)
  step_at (suc n) =
      rw (alike_not d.cur (padded scan) fresh.differs, alike_self (padded scan))
      (ap (λ (k : ℕ). filter.passed alike d.nb_bounce (pictures_of (standing d scan (k + 1)))) (add-one n))

  -- it waits as long as the count is not past nb_bounce, and then it is accepted
  step_low : (n : ℕ) → n < d.nb_bounce → step_of (with_pictures d (stood n)) scan ≡ record { pictures = pictures_of (standing d scan (n + 1)); changed = false }
  unfolding filter.passed
  step_low n low = step_at n ∙ rw (le-ltb d.nb_bounce (n + 1) (omega arith))

  step_last : step_of (with_pictures d (stood d.nb_bounce)) scan ≡ record { pictures = pictures_of (changed_to d scan); changed = true }
  unfolding filter.passed
  step_last = step_at d.nb_bounce ∙ rw (lt-ltb d.nb_bounce (d.nb_bounce + 1) (omega arith))

  legal_at : (n : ℕ) → n ≤ d.nb_bounce → state_good (with_pictures d (stood n)) ≡ true
  legal_at zero low = fresh.legal
  legal_at (suc n) low =
      sym (ap (λ (o : filter.Outcome (List ℕ)). state_good (with_pictures d o.pictures)) (step_low n (omega arith)))
      ∙ step_legal (with_pictures d (stood n)) scan (legal_at n (omega arith)) fresh.fits

  low_is : (n : ℕ) → n < d.nb_bounce → update_reply (with_pictures d (stood n)) scan ≡ accepted (false, standing d scan (n + 1))
  low_is n low =
      update_is (with_pictures d (stood n)) scan (legal_at n (omega arith)) fresh.fits
      ∙ ap (λ (o : filter.Outcome (List ℕ)). accepted (o.changed, with_pictures d o.pictures)) (step_low n low)

  last_is : update_reply (with_pictures d (stood d.nb_bounce)) scan ≡ accepted (true, changed_to d scan)
  last_is =
      update_is (with_pictures d (stood d.nb_bounce)) scan (legal_at d.nb_bounce (omega arith)) fresh.fits
      ∙ ap (λ (o : filter.Outcome (List ℕ)). accepted (o.changed, with_pictures d o.pictures)) step_last

  after_is : (n : ℕ) → n ≤ d.nb_bounce → after_scans n d scan ≡ with_pictures d (stood n)
  unfolding after_scans
  after_is zero low = refl
  after_is (suc n) low =
      ap (λ (e : Debouncer). (update_reply e scan).values.1) (after_is n (omega arith))
      ∙ ap (λ (s : Said (Bool × Debouncer)). s.values.1) (low_is n (omega arith))

  none_told : (n : ℕ) → n < d.nb_bounce → (buffer : List ℕ) → 3 * switches d ≤ length buffer
      → events_reply (with_pictures d (stood n)) scan buffer ≡ record { answer = accepted (0, standing d scan (n + 1)); buffer = buffer }
  unfolding events_of written
  none_told n low buffer room =
      events_is (with_pictures d (stood n)) scan buffer (legal_at n (omega arith)) fresh.fits room
      ∙ ap (λ (o : filter.Outcome (List ℕ)). reply d o buffer) (step_low n low)

  last_told : (buffer : List ℕ) → 3 * switches d ≤ length buffer
      → events_reply (with_pictures d (stood d.nb_bounce)) scan buffer
      ≡ record { answer = accepted (length (events_to d scan), changed_to d scan); buffer = laid (written (events_to d scan)) buffer }
  unfolding events_of
  last_told buffer room =
      events_is (with_pictures d (stood d.nb_bounce)) scan buffer (legal_at d.nb_bounce (omega arith)) fresh.fits room
      ∙ ap (λ (o : filter.Outcome (List ℕ)). reply d o buffer) step_last

pub settles_all : SettlesAll
unfolding SettlesAll
settles_all d scan fresh =
    record {
      waits = λ n low. rw (after_is d scan fresh n (omega arith)) (low_is d scan fresh n low);
      tells_none = λ n low buffer room. rw (after_is d scan fresh n (omega arith)) (none_told d scan fresh n low buffer room);
      accepts = rw (after_is d scan fresh d.nb_bounce (omega arith)) (last_is d scan fresh);
      tells = λ buffer room. rw (after_is d scan fresh d.nb_bounce (omega arith)) (last_told d scan fresh buffer room);
    }
