-- The words of a table image and their names: document 01, "The table image". A place past the end reads as 0.
-- Assumes nothing.
use Rattle.std.specs.Prelude.{ℕ, zero, suc, ◌+◌, ◌*◌, List, [], ◌∷◌, get_or}
use Rattle.image.specs.declared.words.Shape.{Shape}

-- the word at a byte offset, low byte first
unfoldable pub word_at : List ℕ → ℕ → ℕ
word_at img at = get_or img at 0 + 256 * get_or img (at + 1) 0

-- so many words one after the other, from a byte offset on
unfoldable pub words_from : List ℕ → ℕ → ℕ → List ℕ
words_from img at zero = []
words_from img at (suc n) = word_at img at ∷ words_from img (at + 2) n

-- the header: version, L, R, C, A, E, and the offsets of the records and of the list
abbrev pub version_of : List ℕ → ℕ
version_of img = word_at img 0

abbrev pub layers_of : List ℕ → ℕ
layers_of img = word_at img 2

abbrev pub rows_of : List ℕ → ℕ
rows_of img = word_at img 4

abbrev pub columns_of : List ℕ → ℕ
columns_of img = word_at img 6

abbrev pub records_of : List ℕ → ℕ
records_of img = word_at img 8

abbrev pub entries_of : List ℕ → ℕ
entries_of img = word_at img 10

abbrev pub records_start : List ℕ → ℕ
records_start img = word_at img 12

abbrev pub list_start : List ℕ → ℕ
list_start img = word_at img 14

-- the header's numbers but for the version, as the check hands them on
abbrev pub shape_of : List ℕ → Shape
shape_of img =
    record {
      layers = layers_of img;
      rows = rows_of img;
      columns = columns_of img;
      records = records_of img;
      entries = entries_of img;
      records_at = records_start img;
      list_at = list_start img;
    }

-- how many cells there are, LRC
abbrev pub cells_of : List ℕ → ℕ
cells_of img = layers_of img * rows_of img * columns_of img

-- where the image ends: the list offset + 2E
abbrev pub size_of : List ℕ → ℕ
size_of img = list_start img + 2 * entries_of img

-- cell i, counted from the first
unfoldable pub cell_of : List ℕ → ℕ → ℕ
cell_of img i = word_at img (16 + 2 * i)

-- the word at an offset inside record n: 0 its kind, 2 a, 4 b, 6 c
unfoldable pub field_of : List ℕ → ℕ → ℕ → ℕ
field_of img n at = word_at img (records_start img + 8 * n + at)

-- entry e of the list
unfoldable pub entry_of : List ℕ → ℕ → ℕ
entry_of img e = word_at img (list_start img + 2 * e)

-- so many entries of the list from e on
unfoldable pub entries : List ℕ → ℕ → ℕ → List ℕ
entries img e zero = []
entries img e (suc n) = entry_of img e ∷ entries img (e + 1) n
