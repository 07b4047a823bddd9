-- The check's answer and its fault, each from the other. Assumes nothing.
use Prim.Native.Nat.{ℕ}
use mathlib.Core.List.{List}
use mathlib.Core.Path.{◌≡◌, refl}
use Rattle.std.specs.Prelude.{Ok, Err}
use Rattle.refusal.specs.Verdict.{Verdict, fine, granted}
use Rattle.refusal.specs.declared.Fault.{Fault}
use Rattle.image.specs.Words.{shape_of}
use Rattle.image.specs.Check.{fault_of, check_of}
use Rattle.image.specs.declared.words.Shape.{Shape}

is_accepted : (f : Verdict) (s t : Shape) → granted f s ≡ Ok t → (f ≡ fine) × (t ≡ s)
is_accepted (Ok u) s t e = (refl, cc)
is_accepted (Err g) s t e = (cc, cc)

is_refused : (f : Verdict) (s : Shape) (g : Fault) → granted f s ≡ Err g → f ≡ Err g
is_refused (Ok u) s g e = cc
is_refused (Err h) s g e = cc

module _ (img : List ℕ) where
  pub fault_fine : (s : Shape) → check_of img ≡ Ok s → (fault_of img ≡ fine) × (s ≡ shape_of img)
  unfolding check_of
  fault_fine s e = is_accepted (fault_of img) (shape_of img) s e

  pub fault_refused : (g : Fault) → check_of img ≡ Err g → fault_of img ≡ Err g
  unfolding check_of
  fault_refused g e = is_refused (fault_of img) (shape_of img) g e

  pub check_fine : fault_of img ≡ fine → check_of img ≡ Ok (shape_of img)
  unfolding check_of
  check_fine e = rw e
