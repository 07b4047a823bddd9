-- Lines out of what was read. 10 is the newline.
-- Assumes nothing.
use Rattle.std.specs.Prelude.{ℕ, ◌+◌, ◌-◌, Bool, cond, false, ◌&&◌, List, [], ◌≡◌, eqb, ◌==◌, leb, ltb, length, take, drop}
use Rattle.std.specs.List.{position_or_len}
use Rattle.std.proofs.Math.Seq.{paste}
use Rattle.text.specs.declared.input.Reading.{Reading}

-- the place of the first newline; where there is none, the list's length
unfoldable pub line_length : List ℕ → ℕ
line_length = position_or_len (λ c. c == 10)

-- the first n bytes; none where there are fewer
unfoldable pub front_of : List ℕ → ℕ → List ℕ
front_of l n = cond (leb n (length l)) (take n l) []

-- k bytes behind n in a buffer of this size: how many there are; one more than fits, where they do not fit
unfoldable pub held_after : ℕ → ℕ → ℕ → ℕ
held_after size n k = cond (leb (n + k) size) (n + k) (size + 1)

-- the bytes behind the first n of a buffer, where they fit
unfoldable pub joined : List ℕ → ℕ → List ℕ → List ℕ
joined l n bs = cond (leb (n + length bs) (length l)) (paste l n bs (length bs)) l

-- a read brought n bytes: none is the end of the input, and of a last line without newline
unfoldable pub filled_of : Reading → ℕ → Reading
filled_of p n = record { at = 0; end = n; held = p.held; ended = eqb n 0 && ltb 0 p.held; over = eqb n 0 }

-- the line was answered
unfoldable pub answered_of : Reading → Reading
answered_of p = record { at = p.at; end = p.end; held = 0; ended = false; over = p.over }

-- the reading lies in the input: what is not yet taken lies in it
unfoldable pub in_input : List ℕ → Reading → Bool
in_input input p = leb p.at p.end && leb p.end (length input)

-- what is not yet taken, and how much of it the line has
abbrev pub rest : List ℕ → Reading → List ℕ
rest input p = take (p.end - p.at) (drop p.at input)

abbrev pub more : List ℕ → Reading → ℕ
more input p = line_length (rest input p)

-- the rest of a line is taken, or what is here of it: the reading after it, and the line's buffer, of this size before
unfoldable pub gathered_reading : List ℕ → ℕ → Reading → Reading
gathered_reading input size p =
    cond (in_input input p)
    (record { at = p.at + more input p + 1; end = p.end; held = held_after size p.held (more input p); ended = ltb (more input p) (length (rest input p)); over = p.over })
    p

unfoldable pub gathered_line : List ℕ → List ℕ → Reading → List ℕ
gathered_line input line p = cond (in_input input p) (joined line p.held (take (more input p) (rest input p))) line

-- both: the answer, and the line's buffer at exit
abbrev pub Gathers : List ℕ → Reading → List ℕ → Reading → List ℕ → Type 0
Gathers input p line reading after = (reading ≡ gathered_reading input (length line) p) × (after ≡ gathered_line input line p)
