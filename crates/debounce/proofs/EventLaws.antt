-- Laws of the events between two pictures, and of their bytes in a buffer. Assumes nothing.
use Prim.Native.Nat.{ℕ, zero, suc, ◌+◌, ◌*◌, ◌<◌}
use mathlib.Core.List.{List, [], ◌∷◌, ◌++◌, append_assoc, append-nil}
use mathlib.Core.Path.{◌≡◌, refl, sym, ap, ◌∙◌}
use native.Mathlib.Numerals.{add-one}
use Rattle.std.proofs.Common.{zero-add}
use native.Mathlib.Omega.{arith}
use borrow.Author.Tests.{eq-eqb, ne_eqb}
use lib.ListN.{length, take, drop, get_or, length-append}
use lib.Seq.{drop-drop, take_at, drop_at}
use Rattle.lists.specs.Lists.{laid}
use Rattle.event.specs.declared.Event.{Event}
use Rattle.event.specs.declared.Event.TheVariants.{Release, Press}
use Rattle.event.specs.Bytes.{bytes_of}
use Rattle.debounce.specs.Events.{event_at, change_at, changes, written}
use Rattle.debounce.specs.Inside.{WrittenTo}

-- the events of one place more
changes_more : (columns from n : ℕ) (before after : List ℕ) → n < length before → n < length after
    → changes columns from (take (suc n) before) (take (suc n) after)
    ≡ changes columns from (take n before) (take n after) ++ change_at columns (from + n) (get_or before n 0) (get_or after n 0)
unfolding changes
changes_more columns from n [] after h g = absurd (omega arith)
changes_more columns from n (was ∷ before) [] h g = absurd (omega arith)
changes_more columns from zero (was ∷ before) (is ∷ after) h g =
    let k : from + 0 ≡ from = omega arith in
    rw (k, append-nil) refl
changes_more columns from (suc n) (was ∷ before) (is ∷ after) h g =
    let k : from + 1 + n ≡ from + suc n = omega arith in
    rw (changes_more columns (from + 1) n before after (omega arith) (omega arith), k) (sym (append_assoc (change_at columns from was is) _ _))

written_append : (xs ys : List Event) → written (xs ++ ys) ≡ written xs ++ written ys
unfolding written
written_append [] ys = refl
written_append (e ∷ xs) ys = rw (written_append xs ys, append_assoc)

three_bytes : (e : Event) → length (bytes_of e) ≡ 3
three_bytes (Release i j) = refl
three_bytes (Press i j) = refl

length_written : (es : List Event) → length (written es) ≡ 3 * length es
unfolding written
length_written [] = refl
length_written (e ∷ es) = omega (arith, length-append (bytes_of e) (written es), three_bytes e, length_written es)

-- bytes behind those that are laid over a buffer
laid_more : (bytes more buffer : List ℕ) (k m : ℕ) → length bytes ≡ k → length more ≡ m
    → take k (laid bytes buffer) ++ more ++ drop (k + m) (laid bytes buffer) ≡ laid (bytes ++ more) buffer
laid_more bytes more buffer k m e f =
    let past : drop (k + m) (laid bytes buffer) ≡ drop (k + m) buffer =
    sym (drop-drop m k (laid bytes buffer)) ∙ ap (λ (l : List ℕ). drop m l) (drop_at bytes (drop (length bytes) buffer) k e ∙ ap (λ (n : ℕ). drop n buffer) e) ∙ drop-drop m k buffer in
    let long : length (bytes ++ more) ≡ k + m = omega (arith, length-append bytes more) in
    rw (past, take_at bytes (drop (length bytes) buffer) k e, long) refl

module _ (columns place count : ℕ) (before after buffer out : List ℕ) (h : place < length before) (g : place < length after) where
  -- the events up to a place stand in the buffer: with it, where the switch is as it was
  pub told_same : get_or before place 0 ≡ get_or after place 0
      → WrittenTo buffer (changes columns 0 (take place before) (take place after)) count out
      → WrittenTo buffer (changes columns 0 (take (place + 1) before) (take (place + 1) after)) count out
  unfolding change_at
  told_same e w = rw (add-one, changes_more columns 0 place before after h g, eq-eqb _ _ e, append-nil) w

  -- and where it differs, once its event stands behind the others
  pub told_more : (get_or before place 0 ≡ get_or after place 0 → ⊥)
      → WrittenTo buffer (changes columns 0 (take place before) (take place after)) count out
      → WrittenTo buffer (changes columns 0 (take (place + 1) before) (take (place + 1) after)) (count + 1)
      (take (3 * count) out ++ bytes_of (event_at columns place (get_or after place 0)) ++ drop (3 * count + 3) out)
  unfolding change_at written
  told_more n w =
      let es = changes columns 0 (take place before) (take place after) in
      let e = event_at columns place (get_or after place 0) in
      let now : changes columns 0 (take (place + 1) before) (take (place + 1) after) ≡ es ++ (e ∷ []) =
      rw (add-one, changes_more columns 0 place before after h g, zero-add, ne_eqb _ _ n) refl in
      let bytes : written (es ++ (e ∷ [])) ≡ written es ++ bytes_of e = written_append es (e ∷ []) ∙ rw append-nil refl in
      rw (now, bytes) (
        omega (arith, w.0, length-append es (e ∷ [])),
        rw w.1 (laid_more (written es) (bytes_of e) buffer (3 * count) 3 (omega (arith, length_written es, w.0)) (three_bytes e)),
      )
