-- Plain words on lists, for statements. Assumes nothing.
use Rattle.std.specs.Prelude.{ℕ, suc, Bool, cond, List, [], ◌∷◌, ◌++◌, eqb, length, drop, filter}
use Rattle.std.specs.Str.{bytes_eq}
use Rattle.std.specs.List.{list_any, list_all}

-- a number stands in the list
abbrev pub has : ℕ → List ℕ → Bool
has u l = list_any (λ v. eqb v u) l

-- two lists hold the same
abbrev pub alike : List ℕ → List ℕ → Bool
alike = bytes_eq

-- bytes laid over the start of a buffer, which keeps what is past them
abbrev pub laid : List ℕ → List ℕ → List ℕ
laid bytes buffer = bytes ++ drop (length bytes) buffer

module _ {A : Type 0} where
  -- how many of the list pass the test
  unfoldable pub count : (A → Bool) → List A → ℕ
  count p [] = 0
  count p (u ∷ us) = cond (p u) (suc (count p us)) (count p us)

  -- each of the list passes the test
  abbrev pub every : (A → Bool) → List A → Bool
  every = list_all

  -- those of the list that pass the test, in their order
  abbrev pub keep : (A → Bool) → List A → List A
  keep = filter
