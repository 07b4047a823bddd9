-- One step of reading from standard input. Which bytes a read brings nothing can say; that the input stays as it is while bytes
-- are left in it, and what is done with any that came, is said here.
-- Assumes nothing.
use Rattle.std.specs.Prelude.{ℕ, ◌≤◌, ◌≡◌, Bool, true, false, cond, List, leb, length}
use Rattle.text.specs.Input.{filled_of, gathered_reading, gathered_line}
use Rattle.text.specs.declared.input.Reading.{Reading}

-- all that was read is taken
abbrev pub taken : Reading → Bool
taken p = leb p.end p.at

-- where it is, a read, which brought n bytes; else as much of a line as is here
unfoldable pub advanced_reading : List ℕ → ℕ → Reading → ℕ → Reading
advanced_reading input size p n = cond (taken p) (filled_of p n) (gathered_reading input size p)

unfoldable pub advanced_line : List ℕ → List ℕ → Reading → List ℕ
advanced_line input line p = cond (taken p) line (gathered_line input line p)

-- the answer, which tells how many bytes are here, and both buffers at exit
pub record Advances (input : List ℕ) (p : Reading) (line : List ℕ) (reading : Reading) (input_after line_after : List ℕ) : Type 0 where
  pub is : reading ≡ advanced_reading input (length line) p reading.end
  pub held : line_after ≡ advanced_line input line p
  -- a read brings at most what its buffer holds; without one the buffer is as it was
  pub brought : taken p ≡ true → reading.end ≤ length input
  pub kept : taken p ≡ false → input_after ≡ input
