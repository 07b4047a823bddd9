-- What private functions ask and promise, and no public promise speaks of. Assumes nothing.
use Rattle.std.specs.Prelude.{ℕ, suc, ◌+◌, ◌*◌, ◌<◌, ◌≤◌, cond, List, [], ◌∷◌, ◌++◌, ◌≡◌, eqb, leb, length, get_or, drop, Option, Some, None, Result}
use Rattle.std.proofs.lemmas.List.Edits.{sets}
use Rattle.image.specs.Check.{fault_of}
use Rattle.image.specs.Sound.{Framed}
use Rattle.image.specs.Words.{shape_of}
use Rattle.image.specs.declared.words.Shape.{Shape}
use Rattle.refusal.specs.Verdict.{fine, rule, or_else, granted}
use Rattle.refusal.specs.declared.Fault.{Fault}
use Rattle.refusal.specs.declared.Refusal.TheVariants.{Room}
use Rattle.text.specs.Text.{decimal_of}
use Rattle.table_text.specs.Lines.{parts, Row, Numbers, Unfit, row_of, numbers_in, numbers_of}
use Rattle.table_text.specs.Made.{Reply, reply_of}
use Rattle.table_text.specs.Write.{bytes_of, counts_in, text_fault, lines_asked, lines_fault}
use Rattle.table_text.specs.declared.read.Asked.{Asked}

-- the index of the first byte d; where there is none, the list's length
unfoldable pub index_of : ℕ → List ℕ → ℕ
index_of d [] = 0
index_of d (c ∷ cs) = cond (eqb c d) 0 (suc (index_of d cs))

-- bytes without the spaces in front
unfoldable pub unspaced : List ℕ → List ℕ
unspaced [] = []
unspaced (c ∷ cs) = cond (eqb c 32) (unspaced cs) (c ∷ cs)

-- so far the spaces go that stand at a place of a line
abbrev pub PassesSpaces : List ℕ → ℕ → ℕ → Type 0
PassesSpaces line at end = (drop end line ≡ unspaced (drop at line)) × (at ≤ end) × (end ≤ length line)

-- how many numbers a line has
abbrev pub counted_of : Row → Option ℕ
counted_of (Numbers ns) = Some (length ns)
counted_of Unfit = None

-- a line's numbers are counted, no more than it has bytes, and laid as words from word k on
abbrev pub ReadsLine : List ℕ → ℕ → List ℕ → Option ℕ → List ℕ → Type 0
ReadsLine line k image x after =
    (x ≡ counted_of (row_of line))
    × ((ns : List ℕ) → row_of line ≡ Numbers ns → (length ns ≤ length line) × (after ≡ sets image (2 * k) (bytes_of ns)))

-- every count is a word
pub record Words (s : Shape) : Type 0 where
  pub layers : s.layers < 65536
  pub rows : s.rows < 65536
  pub columns : s.columns < 65536
  pub records : s.records < 65536
  pub entries : s.entries < 65536

-- the lines that counts ask for: the last row of cells, the last record, the last line
abbrev pub asked_by : Shape → Asked
asked_by s =
    record {
      columns = s.columns;
      rows_end = 1 + s.layers * s.rows;
      records_end = 1 + s.layers * s.rows + s.records;
      last = lines_asked s;
    }

-- the lines behind the first are judged, and their numbers laid as words behind the header
abbrev pub ReadsLines : List ℕ → Shape → List ℕ → Result Shape Fault → List ℕ → Type 0
ReadsLines rest s image x after =
    (x ≡ granted (lines_fault s 2 (parts 10 rest)) s)
    × (lines_fault s 2 (parts 10 rest) ≡ fine → after ≡ sets image 16 (bytes_of (numbers_of (parts 10 rest))))

-- the whole text is judged, and its numbers laid as words: the counts behind the version, the others behind the header
abbrev pub ReadsText : List ℕ → List ℕ → Result Shape Fault → List ℕ → Type 0
ReadsText text image x after =
    (x ≡ granted (text_fault text) (counts_in text))
    × (text_fault text ≡ fine
    → after ≡ sets (sets image 2 (bytes_of (numbers_in (row_of (get_or (parts 10 text) 0 []))))) 16 (bytes_of (numbers_of (drop 1 (parts 10 text)))))

-- bytes laid from a place on: how far they go, and what the buffer then holds; what is past its end is left out
pub record Lays (bytes : List ℕ) (at : ℕ) (out : List ℕ) (end : ℕ) (after : List ℕ) : Type 0 where
  pub ends : end ≡ at + length bytes
  pub holds : after ≡ sets out at bytes

-- numbers in decimal, a space behind each but the last, and a newline behind that
unfoldable pub marked : List ℕ → List ℕ
marked [] = []
marked (n ∷ []) = decimal_of n ++ (10 ∷ [])
marked (n ∷ (m ∷ ns)) = decimal_of n ++ (32 ∷ marked (m ∷ ns))

-- an image whose header keeps its rules, and its header's numbers
abbrev pub Headed : List ℕ → Shape → Type 0
Headed image s = Framed image × (s ≡ shape_of image)

-- an image that is built: its own fault, then Room
unfoldable pub checked_reply : List ℕ → List ℕ → Reply
checked_reply image out = reply_of (or_else (fault_of image) (rule (leb (length image) (length out)) Room 0 fine)) image out

-- the counts of a text are legal: its offsets are words, and its image is no longer than the largest
pub record Small (s : Shape) : Type 0 where
  pub records_at : s.records_at ≤ 65535
  pub list_at : s.list_at ≤ 65535
  pub whole : s.list_at + 2 * s.entries ≤ 6160

-- an image that is built, with its version and its offsets
unfoldable pub headed_of : Shape → List ℕ → List ℕ
headed_of s image =
    sets (sets (sets image 0 (bytes_of (1 ∷ []))) 12 (bytes_of (s.records_at ∷ []))) 14 (bytes_of (s.list_at ∷ []))
