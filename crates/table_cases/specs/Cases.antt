-- Lines and their numbers, texts and what `write` replies to them, and an image printed, as data: computed through the definitions
-- that the contracts of `table_text` give. Bytes are ASCII: 10 is the newline, 32 the space, 48 the digit 0.
-- Assumes nothing.
use Rattle.std.specs.Prelude.{ℕ, List, [], ◌∷◌, ◌++◌, ◌≡◌, replicate}
use Rattle.refusal.specs.Said.{Said, said}
use Rattle.table_text.specs.Lines.{Row, Numbers, Unfit, row_of}
use Rattle.table_text.specs.Made.{Reply}
use Rattle.table_text.specs.Plain.{plain}
use Rattle.table_text.specs.Print.{text_of}
use Rattle.table_text.specs.RoundTrip.{result}
use Rattle.table_text.specs.Write.{write_reply}

-- each of a list
unfoldable pub All : {A : Type 0} → (A → Type 0) → List A → Type 0
All holds [] = Unit
All holds (x ∷ xs) = holds x × All holds xs

-- a line without its newline, and its numbers
pub record LineCase : Type 0 where
  pub line : List ℕ
  pub row : Row

unfoldable pub line_cases : List LineCase
line_cases =
    -- no number, and numbers with zeros in front, parted by two spaces: `007  1`
    record { line = []; row = Numbers [] }
    ∷ record { line = 48 ∷ 48 ∷ 55 ∷ 32 ∷ 32 ∷ 49 ∷ []; row = Numbers (7 ∷ 1 ∷ []) }
    -- the largest number, and one more
    ∷ record { line = 54 ∷ 53 ∷ 53 ∷ 51 ∷ 53 ∷ []; row = Numbers (65535 ∷ []) }
    ∷ record { line = 54 ∷ 53 ∷ 53 ∷ 51 ∷ 54 ∷ []; row = Unfit }
    -- a space in front, one behind, a tab, a sign
    ∷ record { line = 32 ∷ 49 ∷ []; row = Unfit }
    ∷ record { line = 49 ∷ 32 ∷ []; row = Unfit }
    ∷ record { line = 49 ∷ 9 ∷ 49 ∷ []; row = Unfit }
    ∷ record { line = 43 ∷ 49 ∷ []; row = Unfit }
    ∷ []

unfoldable pub LineCases : Type 0
LineCases = All (λ k. row_of k.line ≡ k.row) line_cases

-- the least table there is, one key that does nothing: its lines `1 1 1 1 0`, `0` and `0 0 0 0`, and its image
unfoldable pub counts : List ℕ
counts = 49 ∷ 32 ∷ 49 ∷ 32 ∷ 49 ∷ 32 ∷ 49 ∷ 32 ∷ 48 ∷ 10 ∷ []

unfoldable pub cell : List ℕ
cell = 48 ∷ 10 ∷ []

unfoldable pub no_op : List ℕ
no_op = 48 ∷ 32 ∷ 48 ∷ 32 ∷ 48 ∷ 32 ∷ 48 ∷ 10 ∷ []

unfoldable pub least : List ℕ
least = counts ++ cell ++ no_op

unfoldable pub image : List ℕ
image = 1 ∷ 0 ∷ 1 ∷ 0 ∷ 1 ∷ 0 ∷ 1 ∷ 0 ∷ 1 ∷ 0 ∷ 0 ∷ 0 ∷ 18 ∷ 0 ∷ 26 ∷ 0 ∷ 0 ∷ 0 ∷ 0 ∷ 0 ∷ 0 ∷ 0 ∷ 0 ∷ 0 ∷ 0 ∷ 0 ∷ []

-- the same with more spaces and zeros in front: `01  1 1 1 0`, `000`, `0 0   0 0`
unfoldable pub spelled : List ℕ
spelled = 48 ∷ 49 ∷ 32 ∷ 32 ∷ 49 ∷ 32 ∷ 49 ∷ 32 ∷ 49 ∷ 32 ∷ 48 ∷ 10 ∷ 48 ∷ 48 ∷ 48 ∷ 10 ∷ 48 ∷ 32 ∷ 48 ∷ 32 ∷ 32 ∷ 32 ∷ 48 ∷ 32 ∷ 48 ∷ 10 ∷ []

-- a text, how much room there is, and what is answered: number, place, and the bytes that are made
pub record Case : Type 0 where
  pub text : List ℕ
  pub room : ℕ
  pub says : List ℕ

unfoldable pub answered : Reply → List ℕ
answered reply = let told = said 0 reply.made in told.number ∷ told.place ∷ result reply

unfoldable pub cases : List Case
cases =
    -- as it is, and spelled otherwise; and a byte too little room
    record { text = least; room = 26; says = 0 ∷ 0 ∷ image }
    ∷ record { text = spelled; room = 26; says = 0 ∷ 0 ∷ image }
    ∷ record { text = least; room = 25; says = 12 ∷ 0 ∷ [] }
    -- no line; the record's line missing; a line left over; the last newline missing
    ∷ record { text = []; room = 26; says = 15 ∷ 1 ∷ [] }
    ∷ record { text = counts ++ cell; room = 26; says = 15 ∷ 3 ∷ [] }
    ∷ record { text = least ++ cell; room = 26; says = 15 ∷ 4 ∷ [] }
    ∷ record { text = counts ++ cell ++ (48 ∷ 32 ∷ 48 ∷ 32 ∷ 48 ∷ 32 ∷ 48 ∷ []); room = 26; says = 15 ∷ 3 ∷ [] }
    -- a cell too many; a space at the end of a line; 65,536 among the counts
    ∷ record { text = counts ++ (48 ∷ 32 ∷ 48 ∷ 10 ∷ []) ++ no_op; room = 26; says = 15 ∷ 2 ∷ [] }
    ∷ record { text = counts ++ (48 ∷ 32 ∷ 10 ∷ []) ++ no_op; room = 26; says = 15 ∷ 2 ∷ [] }
    ∷ record { text = 49 ∷ 32 ∷ 49 ∷ 32 ∷ 49 ∷ 32 ∷ 54 ∷ 53 ∷ 53 ∷ 51 ∷ 54 ∷ 32 ∷ 48 ∷ 10 ∷ []; room = 26; says = 15 ∷ 1 ∷ [] }
    -- all counts 65,535, whose second line is missing; all 0, which ask for no other line; no column, which makes a row the empty line
    ∷ record { text = 54 ∷ 53 ∷ 53 ∷ 51 ∷ 53 ∷ 32 ∷ 54 ∷ 53 ∷ 53 ∷ 51 ∷ 53 ∷ 32 ∷ 54 ∷ 53 ∷ 53 ∷ 51 ∷ 53 ∷ 32 ∷ 54 ∷ 53 ∷ 53 ∷ 51 ∷ 53 ∷ 32 ∷ 54 ∷ 53 ∷ 53 ∷ 51 ∷ 53 ∷ 10 ∷ []; room = 26; says = 15 ∷ 2 ∷ [] }
    ∷ record { text = 48 ∷ 32 ∷ 48 ∷ 32 ∷ 48 ∷ 32 ∷ 48 ∷ 32 ∷ 48 ∷ 10 ∷ []; room = 26; says = 2 ∷ 0 ∷ [] }
    ∷ record { text = 49 ∷ 32 ∷ 49 ∷ 32 ∷ 48 ∷ 32 ∷ 48 ∷ 32 ∷ 48 ∷ 10 ∷ 10 ∷ []; room = 26; says = 2 ∷ 0 ∷ [] }
    -- a cell that names no record, and no room: the image's own comes first
    ∷ record { text = counts ++ (49 ∷ 10 ∷ []) ++ no_op; room = 0; says = 4 ∷ 0 ∷ [] }
    ∷ []

unfoldable pub Cases : Type 0
Cases = All (λ k. answered (write_reply k.text (replicate k.room 0)) ≡ k.says) cases

-- the image printed, and the other spelling in its plain form
unfoldable pub Printed : Type 0
Printed = (text_of image ≡ least) × (plain spelled ≡ least)
