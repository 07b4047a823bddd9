-- The table in use: document 01, "The table in use". Two areas are lent, each of which may be longer than its image.
-- Assumes nothing.
use Rattle.std.specs.Prelude.{ℕ, List, [], Bool, true, false, length, take, leb, Result, Ok, Err, Option}
use Rattle.std.specs.Result.{result_err, result_map_both}
use Rattle.refusal.specs.Verdict.{Verdict, rule}
use Rattle.refusal.specs.Said.{Said, said}
use Rattle.refusal.specs.declared.Fault.{Fault}
use Rattle.refusal.specs.declared.Refusal.TheVariants.{Short}
use Rattle.image.specs.Words.{size_of}
use Rattle.image.specs.Check.{Checked, head_fault, check_of}
use Rattle.image.specs.declared.areas.Source.{Source}
use Rattle.image.specs.declared.areas.Source.TheVariants.{Operator, BuiltIn}

-- the faults of an area that come before its stretch is known: Length is given where the area is below the image's length
unfoldable pub area_fault : List ℕ → Verdict
area_fault area = rule (leb 16 (length area)) Short 0 (head_fault area (leb (size_of area) (length area)))

unfoldable pub unless_fault : Verdict → Checked → Checked
unless_fault (Ok u) rest = rest
unless_fault (Err fault) rest = Err fault

-- the check of an area: of the stretch that holds its image
unfoldable pub area_of : List ℕ → Checked
area_of area = unless_fault (area_fault area) (check_of (take (size_of area) area))

-- the operator's image, so long; else the built-in one; else the operator's refusal
unfoldable pub choice : Checked → Checked → ℕ → ℕ → Result Source Fault
choice (Ok s) built_in m n = Ok (Operator m)
choice (Err fault) (Ok s) m n = Ok (BuiltIn n)
choice (Err fault) (Err other) m n = Err fault

unfoldable pub source_of : List ℕ → List ℕ → Result Source Fault
source_of operator built_in = choice (area_of operator) (area_of built_in) (size_of operator) (size_of built_in)

-- the values of that answer: whether the stretch in use is the operator's, and how long it is
pub record Stretch : Type 0 where
  pub operator : Bool
  pub size : ℕ

abbrev pub stretch_told : Source → Stretch
stretch_told (Operator size) = record { operator = true; size = size }
stretch_told (BuiltIn size) = record { operator = false; size = size }

-- what is said of it: number 0 at place 0 and the stretch; or the refusal's number and its place
abbrev pub source_said : Result Source Fault → Said Stretch
source_said answer = said (record { operator = false; size = 0 }) (result_map_both stretch_told (λ fault. fault) answer)

-- the stretch in use
unfoldable pub stretch_of : Result Source Fault → List ℕ → List ℕ → List ℕ
stretch_of (Ok (Operator size)) operator built_in = take size operator
stretch_of (Ok (BuiltIn size)) operator built_in = take size built_in
stretch_of (Err fault) operator built_in = []

abbrev pub in_use : List ℕ → List ℕ → List ℕ
in_use operator built_in = stretch_of (source_of operator built_in) operator built_in

-- the operator's refusal where no stretch is given
abbrev pub refusal_in_use : List ℕ → List ℕ → Option Fault
refusal_in_use operator built_in = result_err (source_of operator built_in)
