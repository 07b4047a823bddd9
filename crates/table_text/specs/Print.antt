-- The text of an image: document 02, W-201. Bytes are ASCII: 10 is the newline, 32 the space.
-- Assumes nothing.
use Rattle.std.specs.Prelude.{ℕ, zero, suc, ◌+◌, ◌*◌, List, [], ◌∷◌, ◌++◌, leb, length}
use Rattle.image.specs.Check.{fault_of}
use Rattle.image.specs.Words.{layers_of, rows_of, columns_of, records_of, entries_of, records_start, list_start, words_from}
use Rattle.refusal.specs.Verdict.{Verdict, fine, rule, or_else}
use Rattle.refusal.specs.declared.Refusal.TheVariants.{Room}
use Rattle.text.specs.Text.{decimal_of}
use Rattle.table_text.specs.Made.{Reply, reply_of}

-- so many lines of so many words each, from a byte offset on
unfoldable pub rows_from : List ℕ → ℕ → ℕ → ℕ → List (List ℕ)
rows_from img at zero width = []
rows_from img at (suc n) width = words_from img at width ∷ rows_from img (at + 2 * width) n width

-- the numbers of an image, line by line: the five counts, then a row of cells, a record, a list entry a line
unfoldable pub rows_in : List ℕ → List (List ℕ)
rows_in img =
    words_from img 2 5
    ∷ rows_from img 16 (layers_of img * rows_of img) (columns_of img)
    ++ rows_from img (records_start img) (records_of img) 4
    ++ rows_from img (list_start img) (entries_of img) 1

-- numbers in decimal, one space between two, and a newline
unfoldable pub line_of : List ℕ → List ℕ
line_of [] = 10 ∷ []
line_of (n ∷ []) = decimal_of n ++ (10 ∷ [])
line_of (n ∷ (m ∷ ns)) = decimal_of n ++ (32 ∷ line_of (m ∷ ns))

unfoldable pub text_from : List (List ℕ) → List ℕ
text_from [] = []
text_from (row ∷ rows) = line_of row ++ text_from rows

-- the text of an image
unfoldable pub text_of : List ℕ → List ℕ
text_of img = text_from (rows_in img)

-- the image's own fault; then 12 Room for a buffer of this length that is shorter than the text
unfoldable pub print_verdict : List ℕ → ℕ → Verdict
print_verdict img room = or_else (fault_of img) (rule (leb (length (text_of img)) room) Room 0 fine)

unfoldable pub print_reply : List ℕ → List ℕ → Reply
print_reply img out = reply_of (print_verdict img (length out)) (text_of img) out
