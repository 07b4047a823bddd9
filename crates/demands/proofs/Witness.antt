-- The case that reaches the bound of demand 3, and the one that meets what it asks for, computed from the image's bytes.
-- Assumes nothing.
use Rattle.std.specs.Prelude.{Ok}
use Prim.Native.Nat.{ℕ, zero, suc, ◌+◌, ◌*◌, ◌≤◌, ◌<◌, max}
use mathlib.Core.Path.{◌≡◌, refl, ap, ◌∙◌}
use mathlib.Core.Bool.{Bool, true, false, cond}
use mathlib.Core.List.{List, [], ◌∷◌, ◌++◌}
use native.Mathlib.Omega.{arith}
use borrow.Author.Tests.{ltb-true, lt-ltb}
use lib.Dec.{ltb}
use lib.ListN.{length, get_or, replicate, length-replicate}
use Rattle.lists.specs.Lists.{every}
use Rattle.lists.proofs.Laws.{every_head}
use Rattle.codes.specs.Codes.{legal}
use Rattle.event.specs.declared.Coord.{Coord}
use Rattle.event.specs.declared.Event.TheVariants.{Release, Press}
use Rattle.image.specs.Words.{word_at, cell_of, field_of, entry_of, entries, shape_of}
use Rattle.image.specs.Record.{action_of, action_at, codes_in, children_in, list_end, cell_at}
use Rattle.image.specs.Tree.{KeyCode, named, meaning, trees, tree, open?, some_open, shut_but_last, opens_last, weight, longest}
use Rattle.image.specs.Table.{tree_in, table_of, longest_below, times_of}
use Rattle.refusal.specs.Verdict.{rule, or_else, first_fault}
use Rattle.image.specs.Check.{within, counts_good, offsets_good, header_good, head_fault, cell_fault, form, form_good, record_fault, body_fault, fault_of, check_of}
use Rattle.layout.specs.Model.{Waits, Acted, Begun, Decided, fresh, same}
use Rattle.layout.specs.Actions.{push, push_codes, find, ruling, do_action, decided}
use Rattle.layout.specs.Steps.{held, sum, current, pressed, release, act, into, released, overflow, entered, event, ticked, tick}
use Rattle.layout.specs.declared.notes.Way.TheVariants.{Tap}
use Rattle.demands.specs.Runs.{Call, call, run, ticks, arrived}
use Rattle.demands.specs.Words.{down_after, AllReleased}
use Rattle.demands.specs.Demand3.{bound_of, layout_left, Demand3, OfFresh}
use Rattle.demands.specs.Public.{Lent, calls_of, ticks_on, lent_all, Roomy}
use Rattle.layout.specs.Packed.{pack}
use Rattle.demands.specs.Z.{z_of, lent}
use Rattle.demands.specs.Witness.{seventeen, tapped, Asked, BoundReached, Met}
use Rattle.layout.specs.Reach.{waits_in, FreshStarts}
use Rattle.layout.proofs.Reach.{fresh_starts}
use Rattle.demands.proofs.Proper.{Quiet}
use Rattle.demands.proofs.OnLists.{drain, queued_after}
use Rattle.demands.proofs.Replies.{Tied, tied_start, roomy_append, calls_are, lent_calls, lent_roomy, ticks_roomy}
use Rattle.demands.proofs.Demand3.{at_rest, of_fresh}

-- a list of bytes
bytes_of : (l : List ℕ) → every (λ b. ltb b 256) l ≡ true → (i : ℕ) → get_or l i 0 < 256
bytes_of [] e i = omega arith
bytes_of (b ∷ l) e zero = ltb-true b 256 (every_head (λ b. ltb b 256) b l e).0
bytes_of (b ∷ l) e (suc i) = bytes_of l (every_head (λ b. ltb b 256) b l e).1 i

module _ (t : ℕ) where
  z_bytes : t < 256 → (i : ℕ) → get_or (z_of t) i 0 < 256
  unfolding z_of
  z_bytes h = bytes_of (z_of t) (rw (lt-ltb t 256 h))

  -- the check does not look at a timeout
  z_accepted : check_of (z_of t) ≡ Ok (shape_of (z_of t))
  unfolding z_of legal word_at cell_of field_of entry_of entries action_of action_at codes_in children_in list_end named meaning trees tree open? some_open shut_but_last opens_last weight rule or_else first_fault within counts_good offsets_good header_good head_fault cell_fault form form_good record_fault body_fault fault_of check_of
  z_accepted = refl

  z_longest : (times_of (z_of t)).first ≡ t
  unfolding z_of word_at cell_of field_of action_of action_at named meaning trees tree longest longest_below times_of
  z_longest = omega arith

-- what is computed of the two cases
record Computed : Type 0 where
  queued : queued_after (table_of (z_of 1)) fresh seventeen ≡ 16
  before : (drain (table_of (z_of 1)) fresh seventeen 32).layout.waiting ≡ Waits (record { i = 0; j = 0 }) 0 3 (KeyCode 0xE0) (KeyCode 0x2C)
  at : Quiet (drain (table_of (z_of 1)) fresh seventeen 33).layout
  two : queued_after (table_of (z_of 3)) fresh tapped ≡ 2
  done : let c : Coord = record { i = 0; j = 0 } in (drain (table_of (z_of 3)) fresh tapped 7).marks ≡ Acted (Press 0 0) ∷ Begun c ∷ Decided c Tap ∷ Acted (Release 0 0) ∷ []

computed : Computed
unfolding z_of seventeen tapped word_at cell_of field_of action_of action_at cell_at named meaning trees tree tree_in push push_codes find ruling do_action decided held sum current pressed release act into released overflow entered event ticked tick call run ticks
computed = record { queued = refl; before = refl; at = record { empty = refl; idle = refl }; two = refl; done = refl }

lent_room : 64 ≤ length lent
unfolding lent
lent_room = rw length-replicate (omega arith)

asked : (t : ℕ) → t < 256 → Asked (z_of t) lent
asked t h = record { bytes = z_bytes t h; accepted = z_accepted t; room = lent_room }

-- from a fresh layout
tied_z : (t : ℕ) (ks : List Lent) → Roomy ks → Tied (z_of t) (shape_of (z_of t)) (z_accepted t) ks fresh
unfolding FreshStarts
tied_z t ks h = tied_start (z_of t) (shape_of (z_of t)) (z_accepted t) fresh (fresh_starts (z_of t) (shape_of (z_of t)) (z_accepted t)) ks h

tied_drain : (t : ℕ) (ks : List Call) (n : ℕ) → Tied (z_of t) (shape_of (z_of t)) (z_accepted t) (lent_all lent ks ++ ticks_on (replicate n lent)) fresh
tied_drain t ks n = tied_z t _ (roomy_append (lent_all lent ks) (ticks_on (replicate n lent)) (lent_roomy lent ks lent_room) (ticks_roomy lent n lent_room))

calls_z : (ks : List Call) (n : ℕ) → calls_of (lent_all lent ks ++ ticks_on (replicate n lent)) ≡ ks ++ ticks n
calls_z ks n = calls_are (lent_all lent ks) (replicate n lent) ∙ rw (lent_calls lent ks, length-replicate)

bound_z : (t q : ℕ) (ks : List Call) → queued_after (table_of (z_of t)) fresh ks ≡ q → bound_of (z_of t) fresh (lent_all lent ks) ≡ 2 * q + max 1 t
bound_z t q ks e = rw ((tied_z t (lent_all lent ks) (lent_roomy lent ks lent_room)).layout, lent_calls lent ks, e, z_longest t)

left_z : (t : ℕ) (ks : List Call) (n : ℕ) → layout_left (z_of t) fresh (lent_all lent ks) (replicate n lent) ≡ pack (drain (table_of (z_of t)) fresh ks n).layout
left_z t ks n = (tied_drain t ks n).layout ∙ rw (calls_z ks n)

pub bound_reached : BoundReached
bound_reached =
    record {
      asked = asked 1 (omega arith);
      most = bound_z 1 16 seventeen computed.queued;
      before = λ q. let z : ◌≡◌ {A = ℕ} 0 1 = cc (ap waits_in (left_z 1 seventeen 32), computed.before, q.idle) in omega arith;
      at = rw (left_z 1 seventeen 33) (at_rest _ computed.at);
    }

-- a press, then a release, of one key
up_again : (b : Bool) → cond b false (cond b true false) ≡ false
up_again true = refl
up_again false = refl

pub met : Met
unfolding AllReleased arrived tapped down_after
met =
    record {
      asked = asked 3 (omega arith);
      released = λ c. up_again (same (record { i = 0; j = 0 }) c);
      most = bound_z 3 2 tapped computed.two;
      done = (tied_drain 3 tapped 7).marks ∙ rw (calls_z tapped 7) computed.done;
    }

-- so demand 3 speaks of both
settles : (image : List ℕ) (calls : List Call) → Asked image lent → Demand3 image fresh (lent_all lent calls)
unfolding OfFresh
settles image calls a = of_fresh image (shape_of image) a.bytes a.accepted (lent_all lent calls) (lent_roomy lent calls a.room)

pub bound_reached_settles : Demand3 (z_of 1) fresh (lent_all lent seventeen)
bound_reached_settles = settles (z_of 1) seventeen bound_reached.asked

pub met_settles : Demand3 (z_of 3) fresh (lent_all lent tapped)
met_settles = settles (z_of 3) tapped met.asked
