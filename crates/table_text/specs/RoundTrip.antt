-- There and back: document 02, W-201. Said of the replies that the two calls promise, on any lent buffers.
-- Assumes nothing.
use Rattle.std.specs.Prelude.{ℕ, ◌<◌, ◌≤◌, List, ◌≡◌, length, take, get_or, Ok, Err}
use Rattle.image.specs.Check.{fault_of}
use Rattle.refusal.specs.Verdict.{fine}
use Rattle.table_text.specs.Made.{Made, Reply}
use Rattle.table_text.specs.Print.{text_of, print_reply}
use Rattle.table_text.specs.Write.{write_reply}
use Rattle.table_text.specs.Plain.{plain}

-- what a reply made: as many of the buffer's first bytes as it says
abbrev pub count_of : Made → ℕ
count_of (Ok n) = n
count_of (Err fault) = 0

abbrev pub result : Reply → List ℕ
result reply = take (count_of reply.made) reply.buffer

-- a reply made these bytes: it is not refused, and they are its result
pub record Makes (reply : Reply) (bytes : List ℕ) : Type 0 where
  pub made : reply.made ≡ Ok (length bytes)
  pub is : result reply ≡ bytes

-- print then write gives every accepted image again, byte for byte, wherever both have room
unfoldable pub PrintThenWrite : Type 0
PrintThenWrite =
    (image out back : List ℕ) → ((i : ℕ) → get_or image i 0 < 256) → fault_of image ≡ fine
    → length (text_of image) ≤ length out → length image ≤ length back
    → Makes (print_reply image out) (text_of image) × Makes (write_reply (result (print_reply image out)) back) image

-- write then print gives the text in its plain form, wherever both have room
unfoldable pub WriteThenPrint : Type 0
WriteThenPrint =
    (text out back : List ℕ) (n : ℕ) → (write_reply text out).made ≡ Ok n → length (plain text) ≤ length back
    → Makes (print_reply (result (write_reply text out)) back) (plain text)
