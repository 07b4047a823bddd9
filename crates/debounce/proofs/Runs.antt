-- What holds of a debouncer from its making on: it is never refused State, whatever scans it is given. Assumes nothing.
use Prim.Native.Nat.{ℕ, ◌-◌, ◌*◌, ◌≤◌}
use mathlib.Core.Bool.{Bool, true, false}
use mathlib.Core.List.{List}
use mathlib.Core.Path.{◌≡◌, refl}
use native.Mathlib.Omega.{arith}
use borrow.Author.Tests.{le-leb, leb-true, ltb-false}
use lib.Dec.{leb, ltb, eqb}
use lib.ListN.{length, replicate}
use lib.Seq.{take_at, drop_at}
use Rattle.lists.specs.Lists.{alike, every}
use Rattle.lists.proofs.Laws.{both_true, every_replicate}
use Rattle.debounce.specs.Picture.{padded, binary, unused, is_picture, is_scan}
use Rattle.debounce.specs.Step as filter
use Rattle.refusal.specs.Verdict.{rule, fine, granted}
use Rattle.refusal.specs.Said.{said}
use Rattle.refusal.specs.declared.Refusal.TheVariants.{Scan, Bounce}
use Rattle.debounce.specs.Calls.{switches, sizes_good, bounce_good, state_good, making_verdict, started, refused_making, new_reply, pictures_of, with_pictures, scanned}
use Rattle.debounce.specs.declared.Debouncer.{Debouncer}
use Rattle.debounce.proofs.Laws.{scan_long}

-- a legal debouncer, part by part
record Legal (d : Debouncer) : Type 0 where
  sizes : bounce_good d.rows d.columns d.nb_bounce ≡ true
  since_low : d.since ≤ d.nb_bounce
  accepted : is_picture (switches d) d.cur ≡ true
  candidate : is_picture (switches d) d.new ≡ true

legal : (d : Debouncer) → state_good d ≡ true → Legal d
unfolding state_good
legal d e =
    let b = both_true (bounce_good d.rows d.columns d.nb_bounce) _ e in
    let s = both_true (leb d.since d.nb_bounce) _ b.1 in
    let p = both_true (is_picture (switches d) d.cur) (is_picture (switches d) d.new) s.1 in
    record { sizes = b.0; since_low = leb-true d.since d.nb_bounce s.0; accepted = p.0; candidate = p.1 }

-- a scan in its places is a picture
scan_picture : (n : ℕ) (scan : List ℕ) → is_scan n scan ≡ true → is_picture n (padded scan) ≡ true
unfolding is_scan is_picture
scan_picture n scan e =
    let long = scan_long n scan e in
    let h = both_true (eqb (length scan) n) (every binary scan) e in
    rw (take_at scan (replicate (128 - length scan) 0) n long, drop_at scan (replicate (128 - length scan) 0) n long, h.1) (every_replicate unused (128 - length scan) 0 refl)

-- the parts of a legal state, put together
state_of : (d : Debouncer) → bounce_good d.rows d.columns d.nb_bounce ≡ true → d.since ≤ d.nb_bounce
    → is_picture (switches d) d.cur ≡ true → is_picture (switches d) d.new ≡ true → state_good d ≡ true
unfolding state_good
state_of d b s c n = rw (b, le-leb d.since d.nb_bounce s, c, n)

refused_legal : state_good refused_making ≡ true
unfolding state_good bounce_good sizes_good is_picture
refused_legal = refl

made_by : (rows columns nb : ℕ) (start : List ℕ) (b s : Bool) → bounce_good rows columns nb ≡ b → is_scan (rows * columns) start ≡ s
    → state_good (said refused_making (granted (rule b Bounce 0 (rule s Scan 0 fine)) (started rows columns nb start))).values ≡ true
unfolding rule
made_by rows columns nb start true true e f =
    let picture = scan_picture (rows * columns) start f in
    state_of _ e (omega arith) picture picture
made_by rows columns nb start true false e f = refused_legal
made_by rows columns nb start false s e f = refused_legal

-- a debouncer that is made, refused or not, is legal
pub made_legal : (rows columns nb : ℕ) (start : List ℕ) → state_good (new_reply rows columns nb start).values ≡ true
unfolding making_verdict
made_legal rows columns nb start = made_by rows columns nb start (bounce_good rows columns nb) (is_scan (rows * columns) start) refl refl

-- both are pictures of the debouncer's switches
BothGood : Debouncer → filter.Pictures (List ℕ) → Type 0
BothGood d b = (is_picture (switches d) b.accepted ≡ true) × (is_picture (switches d) b.candidate ≡ true)

passed_legal : (d : Debouncer) (b : filter.Pictures (List ℕ)) (past : Bool) → ltb d.nb_bounce b.since ≡ past
    → bounce_good d.rows d.columns d.nb_bounce ≡ true → BothGood d b
    → state_good (with_pictures d (filter.passed alike d.nb_bounce b).pictures) ≡ true
unfolding filter.passed BothGood
passed_legal d b true e sizes p = rw e (state_of _ sizes (omega arith) p.1 p.0)
passed_legal d b false e sizes p = rw e (state_of _ sizes (ltb-false d.nb_bounce b.since e) p.0 p.1)

grown_pictures : (d : Debouncer) (b : filter.Pictures (List ℕ)) (scan : List ℕ) (same : Bool) → alike b.candidate scan ≡ same
    → BothGood d b → is_picture (switches d) scan ≡ true → BothGood d (filter.grown alike d.nb_bounce b scan)
unfolding filter.grown BothGood
grown_pictures d b scan true e p s = rw e p
grown_pictures d b scan false e p s = rw e (p.0, s)

step_by : (d : Debouncer) (scan : List ℕ) (same : Bool) → alike d.cur (padded scan) ≡ same → Legal d → is_scan (switches d) scan ≡ true
    → state_good (scanned d scan) ≡ true
unfolding filter.step BothGood
step_by d scan true e l s = rw e (state_of _ l.sizes (omega arith) l.accepted l.candidate)
step_by d scan false e l s =
    rw e
    (passed_legal d (filter.grown alike d.nb_bounce (pictures_of d) (padded scan)) _ refl l.sizes
    (grown_pictures d (pictures_of d) (padded scan) _ refl (l.accepted, l.candidate) (scan_picture (switches d) scan s)))

-- a legal debouncer stays legal with every scan that is not refused: so from its making on no call is refused State
pub step_legal : (d : Debouncer) (scan : List ℕ) → state_good d ≡ true → is_scan (switches d) scan ≡ true → state_good (scanned d scan) ≡ true
step_legal d scan e s = step_by d scan (alike d.cur (padded scan)) refl (legal d e) s
