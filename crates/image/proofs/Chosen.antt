-- Laws of the table in use: which area is chosen, and that the image in use lies in its area.
-- Assumes nothing.
use mathlib.Core.Path.{◌≡◌, refl}
use mathlib.Core.List.{List}
use Prim.Native.Nat.{ℕ, ◌≤◌}
use native.Mathlib.Omega.{arith}
use borrow.Author.Tests.{leb-true}
use lib.ListN.{length, take}
use lib.Dec.{leb}
use Rattle.std.specs.Prelude.{Ok, Err}
use Rattle.refusal.specs.Verdict.{Verdict, fine}
use Rattle.refusal.specs.declared.Fault.{Fault}
use Rattle.refusal.specs.declared.Refusal.TheVariants as refusal
use Rattle.image.specs.Words.{size_of}
use Rattle.image.specs.Check.{Checked, head_fault, check_of}
use Rattle.image.specs.Use.{area_fault, unless_fault, area_of, choice, source_of}
use Rattle.image.specs.declared.words.Shape.{Shape}
use Rattle.image.specs.declared.areas.Source.TheVariants.{Operator, BuiltIn}
use Rattle.refusal.proofs.Verdicts.{rule_fine}
use Rattle.image.proofs.HeaderRules.{headed}

-- a fault of the area decides; with none the stretch is checked
pub area_at : (f : Verdict) (c : Checked) (g : Fault) → f ≡ Err g → Err g ≡ unless_fault f c
unfolding unless_fault
area_at f c g e = rw e

pub area_fine : (f : Verdict) (c : Checked) → f ≡ fine → c ≡ unless_fault f c
unfolding unless_fault
area_fine f c e = rw e

-- the stretch of an area with no fault of its own lies in it
pub head_size : (area : List ℕ) → head_fault area (leb (size_of area) (length area)) ≡ fine → size_of area ≤ length area
head_size area e = leb-true (size_of area) (length area) (headed area _ e).1

is_accepted : (f : Verdict) (c : Checked) (s : Shape) → unless_fault f c ≡ Ok s → (f ≡ fine) × (c ≡ Ok s)
unfolding unless_fault
is_accepted (Ok u) c s e = (refl, e)
is_accepted (Err g) c s e = (cc, cc)

-- an accepted area: its image lies in it, and is accepted
pub area_accepted : (area : List ℕ) (s : Shape) → area_of area ≡ Ok s → (size_of area ≤ length area) × (check_of (take (size_of area) area) ≡ Ok s)
unfolding area_of area_fault
area_accepted area s e =
    let h = is_accepted _ _ s e in
    (head_size area (rule_fine _ refusal.Short 0 _ h.0).1, h.1)

-- the choice, by the two checks
module _ (f g : Checked) (m n : ℕ) where
  pub from_operator : (s : Shape) → f ≡ Ok s → Ok (Operator m) ≡ choice f g m n
  unfolding choice
  from_operator s e = rw e

  pub from_built_in : (a : Fault) (s : Shape) → f ≡ Err a → g ≡ Ok s → Ok (BuiltIn n) ≡ choice f g m n
  unfolding choice
  from_built_in a s e h = rw (e, h)

  pub from_neither : (a b : Fault) → f ≡ Err a → g ≡ Err b → Err a ≡ choice f g m n
  unfolding choice
  from_neither a b e h = rw (e, h)

-- who was chosen was accepted
pub record Chosen (c : Checked) (k m : ℕ) : Type 0 where
  pub shape : Shape
  pub is : c ≡ Ok shape
  pub long : k ≡ m

is_operator : (f g : Checked) (m n k : ℕ) → choice f g m n ≡ Ok (Operator k) → Chosen f k m
unfolding choice
is_operator (Ok s) g m n k e = record { shape = s; is = refl; long = cc }
is_operator (Err a) (Ok s) m n k e = let z : ◌≡◌ {A = ℕ} 0 1 = cc in absurd (omega arith)
is_operator (Err a) (Err b) m n k e = let z : ◌≡◌ {A = ℕ} 0 1 = cc in absurd (omega arith)

is_built_in : (f g : Checked) (m n k : ℕ) → choice f g m n ≡ Ok (BuiltIn k) → Chosen g k n
unfolding choice
is_built_in (Ok s) g m n k e = let z : ◌≡◌ {A = ℕ} 0 1 = cc in absurd (omega arith)
is_built_in (Err a) (Ok s) m n k e = record { shape = s; is = refl; long = cc }
is_built_in (Err a) (Err b) m n k e = let z : ◌≡◌ {A = ℕ} 0 1 = cc in absurd (omega arith)

pub operator_chosen : (o b : List ℕ) (k : ℕ) → source_of o b ≡ Ok (Operator k) → Chosen (area_of o) k (size_of o)
unfolding source_of
operator_chosen o b k e = is_operator (area_of o) (area_of b) (size_of o) (size_of b) k e

pub built_in_chosen : (o b : List ℕ) (k : ℕ) → source_of o b ≡ Ok (BuiltIn k) → Chosen (area_of b) k (size_of b)
unfolding source_of
built_in_chosen o b k e = is_built_in (area_of o) (area_of b) (size_of o) (size_of b) k e

-- the image in use lies in its area
pub chosen_fits : (area : List ℕ) (k : ℕ) → Chosen (area_of area) k (size_of area) → k ≤ length area
chosen_fits area k h = omega (arith, h.long, (area_accepted area h.shape h.is).0)
