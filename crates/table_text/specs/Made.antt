-- What `write` and `print` answer: how many bytes were made, or the first refusal, with its place; and what the lent buffer then
-- holds. Assumes nothing.
use Rattle.std.specs.Prelude.{ℕ, List, ◌≡◌, length, Result, Ok, Err}
use Rattle.lists.specs.Lists.{laid}
use Rattle.refusal.specs.Said.{said}
use Rattle.refusal.specs.Verdict.{Verdict}
use Rattle.refusal.specs.declared.Fault.{Fault}

abbrev pub Made : Type 0
Made = Result ℕ Fault

-- a call's whole reply
pub record Reply : Type 0 where
  pub made : Made
  pub buffer : List ℕ

-- the reply to a verdict on these bytes: they are laid over the start of the buffer; refused, it is as it was
unfoldable pub reply_of : Verdict → List ℕ → List ℕ → Reply
reply_of (Ok u) bytes out = record { made = Ok (length bytes); buffer = laid bytes out }
reply_of (Err fault) bytes out = record { made = Err fault; buffer = out }

-- a call answers so, and leaves its buffer so; of a refused answer no byte is said to be made
abbrev pub Replies : Reply → Made → List ℕ → Type 0
Replies reply x after = (said 0 x ≡ said 0 reply.made) × (after ≡ reply.buffer)
