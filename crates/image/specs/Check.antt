-- The check of a table image: document 01, "The table image" and "Refusal numbers" 1 to 9, in image order. The first
-- fault decides: rules in their order, and the numbers of the refusals, are the crate refusal's.
-- Assumes nothing.
use Rattle.std.specs.Prelude.{ℕ, ◌+◌, ◌*◌, List, Bool, cond, ◌&&◌, length, eqb, leb, ltb, Result}
use Rattle.lists.specs.Lists.{every}
use Rattle.codes.specs.Codes.{legal}
use Rattle.refusal.specs.Verdict.{Verdict, fine, rule, or_else, first_fault, granted}
use Rattle.refusal.specs.declared.Fault.{Fault}
use Rattle.refusal.specs.declared.Refusal.TheVariants.{Short, Header, Length, Cell, Record, Code, Child, Nested, Weight}
use Rattle.image.specs.Words.{version_of, records_of, entries_of, cells_of, size_of, shape_of, cell_of, field_of}
use Rattle.image.specs.Record.{action_at, codes_in, children_in}
use Rattle.image.specs.Tree.{tree, weight, opens_last}
use Rattle.image.specs.declared.words.Shape.{Shape}

-- lo..hi
unfoldable pub within : ℕ → ℕ → ℕ → Bool
within lo hi x = leb lo x && leb x hi

-- 2 Header: the version and the five counts
unfoldable pub counts_good : ℕ → Shape → Bool
counts_good version s =
    eqb version 1
    && (within 1 8 s.layers
    && (within 1 8 s.rows
    && (within 1 16 s.columns
    && (within 1 256 s.records && within 0 1024 s.entries))))

-- 2 Header: the two offsets
unfoldable pub offsets_good : Shape → Bool
offsets_good s =
    eqb s.records_at (16 + 2 * (s.layers * s.rows * s.columns))
    && eqb s.list_at (s.records_at + 8 * s.records)

unfoldable pub header_good : ℕ → Shape → Bool
header_good version s = counts_good version s && offsets_good s

-- 2 Header, then 3 Length; `long` says whether the length is right
unfoldable pub head_fault : List ℕ → Bool → Verdict
head_fault img long = rule (header_good (version_of img) (shape_of img)) Header 0 (rule long Length 0 fine)

-- 4 Cell: cell i names a record
unfoldable pub cell_fault : List ℕ → ℕ → Verdict
cell_fault img i = rule (ltb (cell_of img i) (records_of img)) Cell i fine

-- 5 Record: a kind with the words a, b, c, where the list has so many entries. Kinds 0 and 1 use no word, 2 uses a, 3 and
-- 4 use a and b, whose sum is at most E, 5 and 6 use a, 7 uses all; a kind above 7 has no form. Unused words are zero
unfoldable pub form : ℕ → ℕ → ℕ → ℕ → ℕ → Bool
form listed kind a b c =
    cond (leb kind 1) (eqb (a + b + c) 0)
    (cond (eqb kind 2) (eqb (b + c) 0)
    (cond (leb kind 4) (leb (a + b) listed && eqb c 0)
    (cond (leb kind 6) (eqb (b + c) 0) (eqb kind 7))))

unfoldable pub form_good : List ℕ → ℕ → Bool
form_good img n = form (entries_of img) (field_of img n 0) (field_of img n 2) (field_of img n 4) (field_of img n 6)

-- record n through 5 Record, 6 Code, 7 Child, 8 Nested, 9 Weight
unfoldable pub record_fault : List ℕ → ℕ → Verdict
record_fault img n =
    rule (form_good img n) Record n
    (rule (every legal (codes_in img (action_at img n))) Code n
    (rule (every (λ k. ltb k n) (children_in img (action_at img n))) Child n
    (rule (opens_last (tree img n)) Nested n (rule (leb (weight (tree img n)) 64) Weight n fine))))

-- cells from the first, then records from 0 up
unfoldable pub body_fault : List ℕ → Verdict
body_fault img = or_else (first_fault (cell_fault img) 0 (cells_of img)) (first_fault (record_fault img) 0 (records_of img))

-- the first fault of an image: 1 Short, 2, 3, cells, records
unfoldable pub fault_of : List ℕ → Verdict
fault_of img = rule (leb 16 (length img)) Short 0 (or_else (head_fault img (eqb (length img) (size_of img))) (body_fault img))

-- the whole check: the header's numbers, or the first fault
abbrev pub Checked : Type 0
Checked = Result Shape Fault

unfoldable pub check_of : List ℕ → Checked
check_of img = granted (fault_of img) (shape_of img)

-- the header's numbers where there are none: the values of a refused answer
abbrev pub no_shape : Shape
no_shape = record { layers = 0; rows = 0; columns = 0; records = 0; entries = 0; records_at = 0; list_at = 0 }
