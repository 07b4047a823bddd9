-- What a line says is known by its values. Assumes nothing.
use Prim.Native.Nat.{ℕ}
use mathlib.Core.Bool.{cond}
use mathlib.Core.List.{List, [], ◌∷◌}
use mathlib.Core.Path.{◌≡◌, refl, sym, ap, ◌∙◌}
use lib.Dec.{eqb}
use Rattle.std.specs.Prelude.{Option, Some, None}
use Rattle.event.specs.declared.Event.TheVariants.{Press, Release}
use Rattle.panel_line.specs.Line.{says_of}
use Rattle.panel_line.specs.declared.Line.{Line}
use Rattle.panel_line.specs.declared.Line.TheVariants.{Key, Tick}

abbrev back : List ℕ → Option Line
back [] = None
back (k ∷ []) = Some Tick
back (k ∷ i ∷ []) = None
back (k ∷ i ∷ j ∷ vs) = Some (cond (eqb k 0) (Key (Release i j)) (Key (Press i j)))

says_back : (x : Option Line) → back (says_of x) ≡ x
says_back (Some (Key (Release i j))) = refl
says_back (Some (Key (Press i j))) = refl
says_back (Some Tick) = refl
says_back None = refl

pub says_one : (x y : Option Line) → says_of x ≡ says_of y → x ≡ y
says_one x y e = sym (says_back x) ∙ ap back e ∙ says_back y
