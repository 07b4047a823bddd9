-- There and back: print then write gives every accepted image again, and write then print the text in its plain form.
-- Assumes nothing.
use Prim.Native.Nat.{ℕ, ◌<◌, ◌≤◌}
use mathlib.Core.Bool.{true}
use mathlib.Core.List.{List}
use mathlib.Core.Path.{◌≡◌, refl, ap, ◌∙◌}
use lib.ListN.{length, drop, get_or}
use lib.Seq.{take-append_seam}
use lib.Dec.{leb}
use borrow.Author.Tests.{leb-true}
use Rattle.std.specs.Prelude.{Ok, Err}
use Rattle.image.specs.Check.{counts_good, fault_of}
use Rattle.image.specs.Words.{shape_of}
use Rattle.lists.specs.Lists.{laid}
use Rattle.refusal.specs.declared.Refusal.TheVariants.{Header, Room}
use Rattle.refusal.specs.Verdict.{Verdict, fine}
use Rattle.refusal.proofs.Verdicts.{rule_fine, or_fine}
use Rattle.table_text.specs.Made.{Reply, reply_of}
use Rattle.table_text.specs.Print.{rows_in, text_of, print_verdict, print_reply}
use Rattle.table_text.specs.Write.{counts_in, text_fault, image_of, write_verdict, write_reply}
use Rattle.table_text.specs.Plain.{plain}
use Rattle.table_text.specs.RoundTrip.{Makes, PrintThenWrite, WriteThenPrint}
use Rattle.table_text.specs.Inside.{checked_reply}
use Rattle.table_text.proofs.Checks.{within_laid}
use Rattle.table_text.proofs.ImageRows.{image_counts, first_shape, rows_shaped, rows_words, image_again, rows_again}
use Rattle.table_text.proofs.TextRows.{rows_of_text, text_shaped, text_counts, text_numbers, text_plain, rows_fit, rows_counts, rows_numbers}
use Rattle.table_text.proofs.Written.{write_image}

-- a reply that lays bytes where there is room makes them
makes_laid : (bytes out : List ℕ) (reply : Reply) → reply ≡ record { made = Ok (length bytes); buffer = laid bytes out } → Makes reply bytes
makes_laid bytes out reply e = record { made = rw e; is = rw e (take-append_seam bytes (drop (length bytes) out)) }

print_makes : (image out : List ℕ) → fault_of image ≡ fine → length (text_of image) ≤ length out → Makes (print_reply image out) (text_of image)
unfolding print_reply print_verdict
print_makes image out kept room = makes_laid (text_of image) out _ (within_laid (fault_of image) (text_of image) out kept room)

write_makes : (text out : List ℕ) → text_fault text ≡ fine → counts_good 1 (counts_in text) ≡ true → fault_of (image_of text) ≡ fine
    → length (image_of text) ≤ length out → Makes (write_reply text out) (image_of text)
unfolding checked_reply
write_makes text out fits good kept room =
    makes_laid (image_of text) out _ (write_image text out fits good ∙ within_laid (fault_of (image_of text)) (image_of text) out kept room)

-- the text of an accepted image fits, and its image is that image
module _ (image : List ℕ) (bytes : (i : ℕ) → get_or image i 0 < 256) (kept : fault_of image ≡ fine) where
  text_fits : text_fault (text_of image) ≡ fine
  unfolding text_of
  text_fits = rows_fit (rows_in image) (rows_words image bytes) (rw (first_shape image kept) (rows_shaped image kept))

  same_counts : counts_in (text_of image) ≡ shape_of image
  unfolding text_of
  same_counts = rows_counts (rows_in image) (rows_words image bytes) ∙ first_shape image kept

  same_image : image_of (text_of image) ≡ image
  unfolding image_of text_of
  same_image =
      rw (same_counts, rows_numbers (rows_in image) (rows_words image bytes)) (image_again image kept bytes)

pub print_then_write : PrintThenWrite
unfolding PrintThenWrite
print_then_write image out back bytes kept room space =
    let printed = print_makes image out kept room in
    let same = same_image image bytes kept in
    let good = ap (counts_good 1) (same_counts image bytes kept) ∙ image_counts image kept in
    let written = write_makes (text_of image) back (text_fits image bytes kept) good (ap fault_of same ∙ kept) (rw same space) in
    (printed, rw printed.is (rw same at written))

-- what was written was accepted
replied : (f : Verdict) (bytes out : List ℕ) (n : ℕ) → (reply_of f bytes out).made ≡ Ok n → f ≡ fine
unfolding reply_of
replied (Ok u) bytes out n e = refl
replied (Err f) bytes out n e = cc

pub record Accepted (text out : List ℕ) : Type 0 where
  pub fits : text_fault text ≡ fine
  pub good : counts_good 1 (counts_in text) ≡ true
  pub kept : fault_of (image_of text) ≡ fine
  pub room : length (image_of text) ≤ length out

accepted : (text out : List ℕ) (n : ℕ) → (write_reply text out).made ≡ Ok n → Accepted text out
unfolding write_reply write_verdict
accepted text out n e =
    let all = or_fine (text_fault text) _ (replied (write_verdict text (length out)) (image_of text) out n e) in
    let counted = rule_fine (counts_good 1 (counts_in text)) Header 0 _ all.1 in
    let checked = or_fine (fault_of (image_of text)) _ counted.1 in
    let roomy = rule_fine (leb (length (image_of text)) (length out)) Room 0 fine checked.1 in
    record { fits = all.0; good = counted.0; kept = checked.0; room = leb-true _ _ roomy.0 }

-- the image of a text prints as its plain form
plain_printed : (text : List ℕ) → text_fault text ≡ fine → text_of (image_of text) ≡ plain text
unfolding image_of text_of
plain_printed text fits =
    rw (text_numbers text fits, rows_again (rows_of_text text) (counts_in text) (text_counts text fits) (text_shaped text fits), text_plain text fits)

pub write_then_print : WriteThenPrint
unfolding WriteThenPrint
write_then_print text out back n e room =
    let a = accepted text out n e in
    let same = plain_printed text a.fits in
    let written = write_makes text out a.fits a.good a.kept a.room in
    rw written.is (rw same at (print_makes (image_of text) back a.kept (rw same room)))
