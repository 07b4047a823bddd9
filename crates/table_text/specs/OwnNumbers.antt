-- Behind a text that fits and whose counts are legal, only a cell or a record can be at fault: Short, Header and Length cannot come
-- up, since the image is made of the text's own numbers; and illegal counts are refused by Header. Document 02, W-201.
-- Assumes nothing.
use Rattle.std.specs.Prelude.{ℕ, true, false, List, ◌≡◌}
use Rattle.image.specs.Check.{counts_good, body_fault, fault_of}
use Rattle.refusal.specs.Verdict.{fine, refused}
use Rattle.refusal.specs.declared.Refusal.TheVariants.{Header}
use Rattle.table_text.specs.Write.{counts_in, text_fault, image_of, write_reply}

-- the image of such a text has no fault but a cell's or a record's
unfoldable pub OwnNumbers : Type 0
OwnNumbers =
    (text : List ℕ) → text_fault text ≡ fine → counts_good 1 (counts_in text) ≡ true
    → fault_of (image_of text) ≡ body_fault (image_of text)

-- counts that are not legal are refused by Header, and the buffer is as it was
unfoldable pub HeaderFromCounts : Type 0
HeaderFromCounts =
    (text out : List ℕ) → text_fault text ≡ fine → counts_good 1 (counts_in text) ≡ false
    → write_reply text out ≡ record { made = refused Header 0; buffer = out }
