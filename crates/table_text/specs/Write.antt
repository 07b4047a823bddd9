-- The image of a text: document 02, W-201. The text is judged whole, then the image, then the room.
-- Assumes nothing.
use Rattle.std.specs.Prelude.{ℕ, ◌+◌, ◌*◌, ◌/◌, ◌%◌, Bool, false, cond, ◌&&◌, List, [], ◌∷◌, eqb, leb, ltb, length, get_or, drop}
use Rattle.image.specs.Check.{counts_good, fault_of}
use Rattle.image.specs.declared.words.Shape.{Shape}
use Rattle.refusal.specs.Verdict.{Verdict, fine, rule, or_else}
use Rattle.refusal.specs.declared.Refusal.TheVariants.{Header, Room, Text}
use Rattle.table_text.specs.Lines.{parts, Row, Numbers, Unfit, row_of, numbers_in, numbers_of}
use Rattle.table_text.specs.Made.{Reply, reply_of}

-- the five counts L, R, C, A, E as they stand, illegal ones too, and the offsets that they make
unfoldable pub shape_from : List ℕ → Shape
shape_from ns =
    let cells = get_or ns 0 0 * get_or ns 1 0 * get_or ns 2 0 in
    record {
      layers = get_or ns 0 0;
      rows = get_or ns 1 0;
      columns = get_or ns 2 0;
      records = get_or ns 3 0;
      entries = get_or ns 4 0;
      records_at = 16 + 2 * cells;
      list_at = 16 + 2 * cells + 8 * get_or ns 3 0;
    }

-- line i, counted from 1, is asked for with n numbers: the first with the five counts, then a row of cells, a record, a list
-- entry a line
unfoldable pub asks : Shape → ℕ → ℕ → Bool
asks s i n =
    cond (leb i 1) (eqb n 5)
    (cond (leb i (1 + s.layers * s.rows)) (eqb n s.columns)
    (cond (leb i (1 + s.layers * s.rows + s.records)) (eqb n 4)
    (leb i (1 + s.layers * s.rows + s.records + s.entries) && eqb n 1)))

-- how many lines are asked for
abbrev pub lines_asked : Shape → ℕ
lines_asked s = 1 + s.layers * s.rows + s.records + s.entries

unfoldable pub fits_at : Shape → ℕ → Row → Bool
fits_at s i (Numbers ns) = asks s i (length ns)
fits_at s i Unfit = false

-- 15 Text, with the first line that does not fit, is missing or is left over: of a text parted at its newlines, from line i on.
-- The last part, which there always is, is not closed. It is no line where it is empty, and no line may then be missing
unfoldable pub lines_fault : Shape → ℕ → List (List ℕ) → Verdict
lines_fault s i [] = fine
lines_fault s i (part ∷ []) = rule (eqb (length part) 0 && ltb (lines_asked s) i) Text i fine
lines_fault s i (line ∷ (next ∷ more)) = rule (fits_at s i (row_of line)) Text i (lines_fault s (i + 1) (next ∷ more))

-- the counts of a text, on its first line; where that does not fit, nothing hangs on them
unfoldable pub counts_in : List ℕ → Shape
counts_in text = shape_from (numbers_in (row_of (get_or (parts 10 text) 0 [])))

unfoldable pub text_fault : List ℕ → Verdict
text_fault text = lines_fault (counts_in text) 1 (parts 10 text)

-- words as bytes, low byte first
unfoldable pub bytes_of : List ℕ → List ℕ
bytes_of [] = []
bytes_of (w ∷ ws) = (w % 256) ∷ (w / 256) ∷ bytes_of ws

-- the header, and behind it every number in its order. Of counts that are not legal an offset may be no word, and no image is made
unfoldable pub image_from : Shape → List ℕ → List ℕ
image_from s numbers =
    bytes_of
    (1 ∷ s.layers ∷ s.rows ∷ s.columns ∷ s.records ∷ s.entries ∷ s.records_at ∷ s.list_at ∷ numbers)

-- the image of a text
unfoldable pub image_of : List ℕ → List ℕ
image_of text = image_from (counts_in text) (numbers_of (drop 1 (parts 10 text)))

-- the text's own fault; then the image's, of which Header is told from the counts, whether or not the offsets fit their words; then
-- 12 Room for a buffer of this length that is shorter than the image
unfoldable pub write_verdict : List ℕ → ℕ → Verdict
write_verdict text room =
    or_else (text_fault text)
    (rule (counts_good 1 (counts_in text)) Header 0
    (or_else (fault_of (image_of text)) (rule (leb (length (image_of text)) room) Room 0 fine)))

unfoldable pub write_reply : List ℕ → List ℕ → Reply
write_reply text out = reply_of (write_verdict text (length out)) (image_of text) out
