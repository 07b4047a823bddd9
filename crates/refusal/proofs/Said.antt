-- An answer is known by what document 01 says of it: its number, its place and its values. Assumes nothing.
use Prim.Native.Nat.{ℕ}
use mathlib.Core.Path.{◌≡◌, refl, ap, sym, ◌∙◌}
use mathlib.Core.Bool.{false, cond}
use mathlib.Core.List.{[], ◌∷◌}
use lib.Dec.{eqb}
use lib.ListN.{get_or}
use Rattle.refusal.specs.Number.{number_of}
use Rattle.std.specs.Prelude.{Result, Ok, Err}
use Rattle.refusal.specs.Verdict.{refused}
use Rattle.refusal.specs.Said.{Said, said}
use Rattle.refusal.specs.declared.Fault.{Fault}
use Rattle.refusal.specs.declared.Refusal.{Refusal}
use Rattle.refusal.specs.declared.Refusal.TheVariants.{Short, Header, Length, Cell, Record, Code, Child, Nested, Weight, Scan, Bounce, Room, State, Request, Text, Shape}

-- the refusal of a number: number 0, which none has, gives one too
abbrev pub refusal_of : ℕ → Refusal
refusal_of n =
    get_or
    (Short ∷ Short ∷ Header ∷ Length ∷ Cell ∷ Record ∷ Code ∷ Child ∷ Nested ∷ Weight ∷ Scan ∷ Bounce ∷ Room ∷ State ∷ Request ∷ Text ∷ Shape ∷ [])
    n Short

pub number_back : (r : Refusal) → refusal_of (number_of r) ≡ r
number_back Short = refl
number_back Header = refl
number_back Length = refl
number_back Cell = refl
number_back Record = refl
number_back Code = refl
number_back Child = refl
number_back Nested = refl
number_back Weight = refl
number_back Scan = refl
number_back Bounce = refl
number_back Room = refl
number_back State = refl
number_back Request = refl
number_back Text = refl
number_back Shape = refl

pub number_some : (r : Refusal) → eqb (number_of r) 0 ≡ false
number_some Short = refl
number_some Header = refl
number_some Length = refl
number_some Cell = refl
number_some Record = refl
number_some Code = refl
number_some Child = refl
number_some Nested = refl
number_some Weight = refl
number_some Scan = refl
number_some Bounce = refl
number_some Room = refl
number_some State = refl
number_some Request = refl
number_some Text = refl
number_some Shape = refl

-- what is said of an answer gives it back
abbrev answer_back : {A : Type 0} → Said A → Result A Fault
answer_back t = cond (eqb t.number 0) (Ok t.values) (refused (refusal_of t.number) t.place)

answer_known : {A : Type 0} (none : A) (x : Result A Fault) → answer_back (said none x) ≡ x
answer_known none (Ok values) = refl
answer_known none (Err f) = rw (number_some f.refusal, number_back f.refusal)

pub said_one : {A : Type 0} (none : A) (x y : Result A Fault) → said none x ≡ said none y → x ≡ y
said_one none x y e = sym (answer_known none x) ∙ ap answer_back e ∙ answer_known none y
