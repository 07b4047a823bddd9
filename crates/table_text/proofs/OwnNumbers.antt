-- The image of a text that fits and whose counts are legal: its header and its length keep their rules. Assumes nothing.
use Prim.Native.Nat.{ℕ, ◌+◌, ◌*◌, ◌≤◌}
use mathlib.Core.Bool.{true}
use mathlib.Core.List.{List}
use mathlib.Core.Path.{◌≡◌, refl, sym, ap, ◌∙◌}
use native.Mathlib.Omega.{arith}
use borrow.Author.Tests.{le-leb, eq-eqb}
use lib.Dec.{eqb, leb}
use lib.ListN.{length, drop}
use Rattle.image.specs.Words.{version_of, word_at, shape_of, size_of}
use Rattle.image.specs.Check.{counts_good, offsets_good, header_good, head_fault, body_fault, fault_of}
use Rattle.image.specs.declared.words.Shape.{Shape}
use Rattle.refusal.specs.declared.Refusal.TheVariants.{Short, Header, Length}
use Rattle.refusal.specs.Verdict.{fine, rule}
use Rattle.refusal.proofs.Verdicts.{rule_yes, or_on}
use Rattle.table_text.specs.Lines.{parts, numbers_of}
use Rattle.table_text.specs.OwnNumbers.{OwnNumbers, HeaderFromCounts}
use Rattle.table_text.specs.Write.{shape_from, counts_in, text_fault, bytes_of, image_from, image_of}
use Rattle.table_text.proofs.ImageRows.{shape_made, made_length}
use Rattle.table_text.proofs.TextRows.{rows_of_text, text_shaped, text_counts, text_numbers}
use Rattle.table_text.proofs.Written.{write_header}

-- an image that is made has the version 1
version_made : (s : Shape) (ns : List ℕ) → version_of (image_from s ns) ≡ 1
unfolding image_from bytes_of word_at
version_made s ns = refl

-- offsets that are made of counts keep their rule
offsets_made : (ns : List ℕ) → offsets_good (shape_from ns) ≡ true
unfolding offsets_good shape_from
offsets_made ns =
    let s = shape_from ns in
    rw (eq-eqb s.records_at s.records_at refl, eq-eqb s.list_at s.list_at refl)

-- a header and a length that keep their rules leave the cells and the records
only_body : (img : List ℕ) → header_good (version_of img) (shape_of img) ≡ true → length img ≡ size_of img → 16 ≤ length img
    → fault_of img ≡ body_fault img
unfolding fault_of head_fault
only_body img good whole long =
    let head : head_fault img (eqb (length img) (size_of img)) ≡ fine =
    sym (rule_yes _ Header 0 _ good (rule_yes _ Length 0 fine (eq-eqb (length img) (size_of img) whole) refl)) in
    sym (rule_yes (leb 16 (length img)) Short 0 _ (le-leb 16 (length img) long) (sym (or_on _ (body_fault img) head)))

-- the image of a text: its header's numbers are the text's, and it is as long as they say
module _ (text : List ℕ) (kept : text_fault text ≡ fine) where
  text_shape : shape_of (image_of text) ≡ counts_in text
  unfolding image_of
  text_shape = shape_made (counts_in text) (numbers_of (drop 1 (parts 10 text)))

  text_version : version_of (image_of text) ≡ 1
  unfolding image_of
  text_version = version_made (counts_in text) (numbers_of (drop 1 (parts 10 text)))

  text_offsets : offsets_good (counts_in text) ≡ true
  unfolding counts_in
  text_offsets = offsets_made _

  text_length : length (image_of text) ≡ (counts_in text).list_at + 2 * (counts_in text).entries
  unfolding image_of
  text_length = rw (text_numbers text kept) (made_length (rows_of_text text) (counts_in text) (text_counts text kept) (text_shaped text kept))

  -- so the header keeps its rules where the counts do
  text_header : counts_good 1 (counts_in text) ≡ true → header_good (version_of (image_of text)) (shape_of (image_of text)) ≡ true
  unfolding header_good
  text_header good = rw (text_version, text_shape, good) text_offsets

  text_long : 16 ≤ length (image_of text)
  unfolding image_of image_from bytes_of
  text_long = omega arith

  text_whole : length (image_of text) ≡ size_of (image_of text)
  text_whole = text_length ∙ ap (λ (s : Shape). s.list_at + 2 * s.entries) (sym text_shape)

pub own_numbers : OwnNumbers
unfolding OwnNumbers
own_numbers text kept good = only_body (image_of text) (text_header text kept good) (text_whole text kept) (text_long text kept)

pub header_from_counts : HeaderFromCounts
unfolding HeaderFromCounts rule
header_from_counts text out kept bad = write_header text out kept _ (rw bad)
