-- An event's three bytes and back: an event's bytes read as that event, and bytes that read as an event are that event's.
-- Assumes nothing.
use Prim.Native.Nat.{ℕ}
use mathlib.Core.Bool.{Bool, true, false, cond}
use mathlib.Core.List.{List, [], ◌∷◌}
use mathlib.Core.Path.{◌≡◌, refl, sym, ap, ◌∙◌}
use borrow.Author.Tests.{eqb-true}
use lib.Dec.{eqb}
use Rattle.std.specs.Prelude.{Result, Ok, Err}
use Rattle.event.specs.declared.UnknownKind.{UnknownKind}
use Rattle.event.specs.Bytes.{bytes_of, read_of, read_values}
use Rattle.event.specs.declared.Event.{Event}
use Rattle.event.specs.declared.Event.TheVariants.{Release, Press}

pub read_bytes : (e : Event) → read_of (bytes_of e) ≡ Ok e
read_bytes (Release i j) = refl
read_bytes (Press i j) = refl

pub bytes_read : (kind i j : ℕ) (e : Event) → read_of (kind ∷ i ∷ j ∷ []) ≡ Ok e → bytes_of e ≡ kind ∷ i ∷ j ∷ []
bytes_read kind i j e h = go (eqb kind 0) (eqb kind 1) refl refl h
  where
    go : (zero? one? : Bool) → eqb kind 0 ≡ zero? → eqb kind 1 ≡ one?
        → cond {A = Result Event UnknownKind} zero? (Ok (Release i j)) (cond {A = Result Event UnknownKind} one? (Ok (Press i j)) (Err (record { kind = kind }))) ≡ Ok e
        → bytes_of e ≡ kind ∷ i ∷ j ∷ []
    go true one? z o h = let same : e ≡ Release i j = cc in ap bytes_of same ∙ ap (λ k. k ∷ i ∷ j ∷ []) (sym (eqb-true kind 0 z))
    go false true z o h = let same : e ≡ Press i j = cc in ap bytes_of same ∙ ap (λ k. k ∷ i ∷ j ∷ []) (sym (eqb-true kind 1 o))
    go false false z o h = cc

-- what was read is known by its values
abbrev back : List ℕ → Result Event UnknownKind
back [] = Err (record { kind = 0 })
back (kind ∷ []) = Err (record { kind = kind })
back (kind ∷ i ∷ rest) = read_of (kind ∷ i ∷ rest)

values_back : (r : Result Event UnknownKind) → back (read_values r) ≡ r
values_back (Ok (Release i j)) = refl
values_back (Ok (Press i j)) = refl
values_back (Err unknown) = refl

pub read_one : (x y : Result Event UnknownKind) → read_values x ≡ read_values y → x ≡ y
read_one x y e = sym (values_back x) ∙ ap back e ∙ values_back y
