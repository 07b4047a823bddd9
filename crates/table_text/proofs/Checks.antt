-- The replies that follow from the image's check. Assumes nothing.
use Prim.Native.Nat.{ℕ, ◌≤◌}
use mathlib.Core.List.{List}
use mathlib.Core.Path.{◌≡◌}
use borrow.Author.Tests.{le-leb}
use lib.Dec.{leb}
use lib.ListN.{length}
use Rattle.std.specs.Prelude.{Ok, Err}
use Rattle.image.specs.Check.{fault_of}
use Rattle.lists.specs.Lists.{laid}
use Rattle.refusal.specs.Verdict.{Verdict, fine, kept_or, rule, or_else}
use Rattle.refusal.specs.declared.Fault.{Fault}
use Rattle.refusal.specs.declared.Refusal.TheVariants.{Room}
use Rattle.table_text.specs.Made.{Reply, reply_of, Replies}

-- a verdict on bytes, and then Room
abbrev pub within : Verdict → List ℕ → List ℕ → Reply
within f bytes out = reply_of (or_else f (rule (leb (length bytes) (length out)) Room 0 fine)) bytes out

module _ (f : Verdict) (bytes out : List ℕ) where
  pub within_refused : (a : Fault) → f ≡ Err a → within f bytes out ≡ record { made = Err a; buffer = out }
  unfolding reply_of or_else
  within_refused a e = rw e

  pub within_short : (a : Fault) → f ≡ fine → kept_or (leb (length bytes) (length out)) Room 0 ≡ Err a
      → within f bytes out ≡ record { made = Err a; buffer = out }
  unfolding reply_of or_else
  within_short a e h = rw (e, h)

  pub within_laid : f ≡ fine → length bytes ≤ length out → within f bytes out ≡ record { made = Ok (length bytes); buffer = laid bytes out }
  unfolding reply_of or_else rule
  within_laid e h = rw (e, le-leb (length bytes) (length out) h)

-- so a call answers whose image is refused; whose bytes are more than there is room for; and whose bytes fit
module _ (img bytes out : List ℕ) where
  pub reply_refused : (a : Fault) → fault_of img ≡ Err a → Replies (within (fault_of img) bytes out) (Err a) out
  reply_refused a e =
      let reply = within_refused (fault_of img) bytes out a e in
      (rw reply, rw reply)

  module _ (kept : fault_of img ≡ fine) where
    pub reply_short : (a : Fault) → kept_or (leb (length bytes) (length out)) Room 0 ≡ Err a → Replies (within (fault_of img) bytes out) (Err a) out
    reply_short a h =
        let reply = within_short (fault_of img) bytes out a kept h in
        (rw reply, rw reply)

    pub reply_laid : (n : ℕ) (after : List ℕ) → length bytes ≤ length out → n ≡ length bytes → after ≡ laid bytes out
        → Replies (within (fault_of img) bytes out) (Ok n) after
    reply_laid n after h e k =
        let reply = within_laid (fault_of img) bytes out kept h in
        (rw (reply, e), rw reply k)
