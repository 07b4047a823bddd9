-- The replies of `compare`, refusal by refusal in their order, and with nothing refused. Assumes nothing.
use Prim.Native.Nat.{ℕ, ◌*◌}
use mathlib.Core.Path.{◌≡◌, refl}
use mathlib.Core.Bool.{true, false}
use mathlib.Core.List.{List}
use lib.Dec.{leb}
use lib.ListN.{length}
use Rattle.std.specs.Prelude.{Ok, Err}
use Rattle.lists.specs.Lists.{laid}
use Rattle.refusal.specs.Verdict.{fine, fault_at, rule, or_else}
use Rattle.refusal.specs.declared.Fault.{Fault}
use Rattle.refusal.specs.declared.Refusal.TheVariants.{Shape, Room}
use Rattle.image.specs.Check.{fault_of}
use Rattle.image.specs.Words.{rows_of, columns_of, cells_of}
use Rattle.table_changes.specs.Changes.{changed, placed, sizes_equal, compare_verdict, reply_of, compare_reply, Replies}

module _ (first second out : List ℕ) where
  pub reply_first : (a : Fault) → fault_of first ≡ Err a → Replies (compare_reply first second out) (Err a) out
  unfolding compare_reply compare_verdict reply_of or_else
  reply_first a e = rw e (refl, refl)

  module _ (one : fault_of first ≡ fine) where
    pub reply_second : (a : Fault) → fault_of second ≡ Err a → Replies (compare_reply first second out) (Err a) out
    unfolding compare_reply compare_verdict reply_of or_else
    reply_second a e = rw (one, e) (refl, refl)

    module _ (other : fault_of second ≡ fine) where
      pub reply_shape : (a : Fault) → a ≡ fault_at Shape 0 → sizes_equal first second ≡ false → Replies (compare_reply first second out) (Err a) out
      unfolding compare_reply compare_verdict reply_of or_else rule
      reply_shape a is e = rw (one, other, e, is) (refl, refl)

      module _ (sizes : sizes_equal first second ≡ true) where
        pub reply_room : (a : Fault) → a ≡ fault_at Room 0 → leb (3 * cells_of first) (length out) ≡ false → Replies (compare_reply first second out) (Err a) out
        unfolding compare_reply compare_verdict reply_of or_else rule
        reply_room a is h = rw (one, other, sizes, h, is) (refl, refl)

        pub reply_cells : (n : ℕ) (after : List ℕ) → leb (3 * cells_of first) (length out) ≡ true → n ≡ length (changed first second)
            → after ≡ laid (placed (rows_of first) (columns_of first) (changed first second)) out → Replies (compare_reply first second out) (Ok n) after
        unfolding compare_reply compare_verdict reply_of or_else rule
        reply_cells n after h e k = rw (one, other, sizes, h, e) (refl, k)
