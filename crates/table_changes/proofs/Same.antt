-- Two trees pass the test `same` just where they are equal without their record numbers; so it is an equivalence.
-- A tree without its numbers is known by what each action says by itself and by the actions that it names.
-- Assumes nothing.
use Prim.Native.Nat.{ℕ, zero, suc}
use mathlib.Core.Path.{◌≡◌, refl, ap, ap₂, sym, ◌∙◌}
use mathlib.Core.Bool.{Bool, true, false, not, ◌&&◌, and-true}
use mathlib.Core.List.{List, [], ◌∷◌}
use lib.Dec.{eqb}
use Rattle.lists.specs.Lists.{alike}
use Rattle.lists.proofs.Laws.{both_true, alike_is, alike_self}
use Rattle.image.specs.Tree.{Action, Actions, NoOp, Trans, KeyCode, MultipleKeyCodes, MultipleActions, Layer, DefaultLayer, HoldTap, end, ◌&◌}
use Rattle.table_changes.specs.Same.{unnumbered, unnumbered_all, own, parts, first_of, others_of, same, same_all, IgnoresNumbers, Equivalence}

-- the number of the kind, which is the first of what an action says by itself
abbrev kind_in : List ℕ → ℕ
kind_in [] = 0
kind_in (kind ∷ rest) = kind

-- a kind that names no action names none, and a HoldTap names two
abbrev leaf : ℕ → Bool
leaf kind = not (eqb kind 4) && not (eqb kind 7)

no_parts : (b : Action) → leaf (kind_in (own b)) ≡ true → parts b ≡ end
no_parts NoOp e = refl
no_parts Trans e = refl
no_parts (KeyCode code) e = refl
no_parts (MultipleKeyCodes codes) e = refl
no_parts (MultipleActions actions) e = cc
no_parts (Layer number) e = refl
no_parts (DefaultLayer number) e = refl
no_parts (HoldTap n timeout hold tap) e = cc

two_parts : (b : Action) → eqb (kind_in (own b)) 7 ≡ true → parts b ≡ first_of (parts b) & (first_of (others_of (parts b)) & end)
two_parts NoOp e = cc
two_parts Trans e = cc
two_parts (KeyCode code) e = cc
two_parts (MultipleKeyCodes codes) e = cc
two_parts (MultipleActions actions) e = cc
two_parts (Layer number) e = cc
two_parts (DefaultLayer number) e = cc
two_parts (HoldTap n timeout hold tap) e = refl

-- where what they say by themselves is alike, so are their kinds
leaf_parts : (says : List ℕ) (b : Action) → leaf (kind_in says) ≡ true → alike says (own b) ≡ (alike says (own b) && same_all end (parts b))
unfolding same
leaf_parts says b l = go (alike says (own b)) refl
  where
    go : (t : Bool) → alike says (own b) ≡ t → t ≡ (t && same_all end (parts b))
    go false e = refl
    go true e = rw (no_parts b (ap (λ (s : List ℕ). leaf (kind_in s)) (sym (alike_is says (own b) e)) ∙ l))

held_parts : (timeout : ℕ) (hold tap b : Action)
    → (alike (7 ∷ timeout ∷ []) (own b) && (same hold (first_of (parts b)) && same tap (first_of (others_of (parts b)))))
    ≡ (alike (7 ∷ timeout ∷ []) (own b) && same_all (hold & (tap & end)) (parts b))
unfolding same
held_parts timeout hold tap b = go (alike (7 ∷ timeout ∷ []) (own b)) refl
  where
    first : Action
    first = first_of (parts b)

    second : Action
    second = first_of (others_of (parts b))

    go : (t : Bool) → alike (7 ∷ timeout ∷ []) (own b) ≡ t → (t && (same hold first && same tap second)) ≡ (t && same_all (hold & (tap & end)) (parts b))
    go false e = refl
    go true e =
        let two = two_parts b (ap (λ (s : List ℕ). eqb (kind_in s) 7) (sym (alike_is (7 ∷ timeout ∷ []) (own b) e))) in
        ap (λ (t : Bool). same hold first && t) (sym (and-true (same tap second))) ∙ ap (same_all (hold & (tap & end))) (sym two)

-- the test by what both say by themselves and by the actions that they name
pub same_parts : (a b : Action) → same a b ≡ (alike (own a) (own b) && same_all (parts a) (parts b))
unfolding same
same_parts NoOp b = leaf_parts (own NoOp) b refl
same_parts Trans b = leaf_parts (own Trans) b refl
same_parts (KeyCode code) b = leaf_parts (own (KeyCode code)) b refl
same_parts (MultipleKeyCodes codes) b = leaf_parts (own (MultipleKeyCodes codes)) b refl
same_parts (MultipleActions actions) b = refl
same_parts (Layer number) b = leaf_parts (own (Layer number)) b refl
same_parts (DefaultLayer number) b = leaf_parts (own (DefaultLayer number)) b refl
same_parts (HoldTap n timeout hold tap) b = held_parts timeout hold tap b

-- an action without its number, from what it says by itself and the actions that it names
abbrev of_kind : ℕ → ℕ → List ℕ → Actions → Action
of_kind zero word codes actions = NoOp
of_kind (suc zero) word codes actions = Trans
of_kind (suc (suc zero)) word codes actions = KeyCode word
of_kind (suc (suc (suc zero))) word codes actions = MultipleKeyCodes codes
of_kind (suc (suc (suc (suc zero)))) word codes actions = MultipleActions actions
of_kind (suc (suc (suc (suc (suc zero))))) word codes actions = Layer word
of_kind (suc (suc (suc (suc (suc (suc zero)))))) word codes actions = DefaultLayer word
of_kind (suc (suc (suc (suc (suc (suc (suc kind))))))) word codes actions = HoldTap 0 word (first_of actions) (first_of (others_of actions))

abbrev built : List ℕ → Actions → Action
built [] actions = NoOp
built (kind ∷ []) actions = NoOp
built (kind ∷ word ∷ codes) actions = of_kind kind word codes actions

unnumbered_is : (a : Action) → unnumbered a ≡ built (own a) (unnumbered_all (parts a))
unfolding unnumbered
unnumbered_is NoOp = refl
unnumbered_is Trans = refl
unnumbered_is (KeyCode code) = refl
unnumbered_is (MultipleKeyCodes codes) = refl
unnumbered_is (MultipleActions actions) = refl
unnumbered_is (Layer number) = refl
unnumbered_is (DefaultLayer number) = refl
unnumbered_is (HoldTap n timeout hold tap) = refl

build : (a b : Action) → alike (own a) (own b) ≡ true → unnumbered_all (parts a) ≡ unnumbered_all (parts b) → unnumbered a ≡ unnumbered b
build a b e f = unnumbered_is a ∙ ap₂ built (alike_is (own a) (own b) e) f ∙ sym (unnumbered_is b)

no_others : (bs : Actions) → same_all end bs ≡ true → unnumbered_all end ≡ unnumbered_all bs
unfolding same
no_others end e = refl
no_others (b & bs) e = cc

leaf_equal : (a b : Action) → parts a ≡ end → same a b ≡ true → unnumbered a ≡ unnumbered b
leaf_equal a b none e =
    let h = both_true (alike (own a) (own b)) (same_all (parts a) (parts b)) (sym (same_parts a b) ∙ e) in
    build a b h.0 (ap unnumbered_all none ∙ no_others (parts b) (ap (λ (as' : Actions). same_all as' (parts b)) (sym none) ∙ h.1))

mutual
  unfolding unnumbered same

  equal : (a b : Action) → same a b ≡ true → unnumbered a ≡ unnumbered b
  equal NoOp b e = leaf_equal NoOp b refl e
  equal Trans b e = leaf_equal Trans b refl e
  equal (KeyCode code) b e = leaf_equal (KeyCode code) b refl e
  equal (MultipleKeyCodes codes) b e = leaf_equal (MultipleKeyCodes codes) b refl e
  equal (MultipleActions actions) b e =
      let h = both_true (alike (4 ∷ 0 ∷ []) (own b)) (same_all actions (parts b)) e in
      build (MultipleActions actions) b h.0 (equals actions (parts b) h.1)
  equal (Layer number) b e = leaf_equal (Layer number) b refl e
  equal (DefaultLayer number) b e = leaf_equal (DefaultLayer number) b refl e
  equal (HoldTap n timeout hold tap) b e =
      let first = first_of (parts b) in
      let second = first_of (others_of (parts b)) in
      let h = both_true (alike (7 ∷ timeout ∷ []) (own b)) (same hold first && same tap second) e in
      let g = both_true (same hold first) (same tap second) h.1 in
      let two = two_parts b (ap (λ (s : List ℕ). eqb (kind_in s) 7) (sym (alike_is (7 ∷ timeout ∷ []) (own b) h.0))) in
      build (HoldTap n timeout hold tap) b h.0
      (ap₂ (λ (x y : Action). x & (y & end)) (equal hold first g.0) (equal tap second g.1) ∙ ap unnumbered_all (sym two))

  equals : (as' bs : Actions) → same_all as' bs ≡ true → unnumbered_all as' ≡ unnumbered_all bs
  equals end end e = refl
  equals end (b & bs) e = cc
  equals (a & as') end e = cc
  equals (a & as') (b & bs) e =
      let h = both_true (same a b) (same_all as' bs) e in
      ap₂ ◌&◌ (equal a b h.0) (equals as' bs h.1)

-- the test does not see the numbers of the second tree
own_unnumbered : (b : Action) → own (unnumbered b) ≡ own b
unfolding unnumbered
own_unnumbered NoOp = refl
own_unnumbered Trans = refl
own_unnumbered (KeyCode code) = refl
own_unnumbered (MultipleKeyCodes codes) = refl
own_unnumbered (MultipleActions actions) = refl
own_unnumbered (Layer number) = refl
own_unnumbered (DefaultLayer number) = refl
own_unnumbered (HoldTap n timeout hold tap) = refl

parts_unnumbered : (b : Action) → parts (unnumbered b) ≡ unnumbered_all (parts b)
unfolding unnumbered
parts_unnumbered NoOp = refl
parts_unnumbered Trans = refl
parts_unnumbered (KeyCode code) = refl
parts_unnumbered (MultipleKeyCodes codes) = refl
parts_unnumbered (MultipleActions actions) = refl
parts_unnumbered (Layer number) = refl
parts_unnumbered (DefaultLayer number) = refl
parts_unnumbered (HoldTap n timeout hold tap) = refl

first_unnumbered : (bs : Actions) → first_of (unnumbered_all bs) ≡ unnumbered (first_of bs)
unfolding unnumbered
first_unnumbered end = refl
first_unnumbered (b & bs) = refl

others_unnumbered : (bs : Actions) → others_of (unnumbered_all bs) ≡ unnumbered_all (others_of bs)
unfolding unnumbered
others_unnumbered end = refl
others_unnumbered (b & bs) = refl

mutual
  unfolding unnumbered same

  unseen : (a b : Action) → same a (unnumbered b) ≡ same a b
  unseen NoOp b = rw (own_unnumbered b)
  unseen Trans b = rw (own_unnumbered b)
  unseen (KeyCode code) b = rw (own_unnumbered b)
  unseen (MultipleKeyCodes codes) b = rw (own_unnumbered b)
  unseen (MultipleActions actions) b = rw (own_unnumbered b, parts_unnumbered b, unseens actions (parts b))
  unseen (Layer number) b = rw (own_unnumbered b)
  unseen (DefaultLayer number) b = rw (own_unnumbered b)
  unseen (HoldTap n timeout hold tap) b =
      rw (own_unnumbered b, parts_unnumbered b, others_unnumbered (parts b), first_unnumbered (parts b), first_unnumbered (others_of (parts b)), unseen hold (first_of (parts b)), unseen tap (first_of (others_of (parts b))))

  unseens : (as' bs : Actions) → same_all as' (unnumbered_all bs) ≡ same_all as' bs
  unseens end end = refl
  unseens end (b & bs) = refl
  unseens (a & as') end = refl
  unseens (a & as') (b & bs) = rw (unseen a b, unseens as' bs)

mutual
  unfolding same

  itself : (a : Action) → same a a ≡ true
  itself NoOp = alike_self (own NoOp)
  itself Trans = alike_self (own Trans)
  itself (KeyCode code) = alike_self (own (KeyCode code))
  itself (MultipleKeyCodes codes) = alike_self (own (MultipleKeyCodes codes))
  itself (MultipleActions actions) = rw (alike_self (own (MultipleActions actions)), themselves actions)
  itself (Layer number) = alike_self (own (Layer number))
  itself (DefaultLayer number) = alike_self (own (DefaultLayer number))
  itself (HoldTap n timeout hold tap) = rw (alike_self (own (HoldTap n timeout hold tap)), itself hold, itself tap)

  themselves : (as' : Actions) → same_all as' as' ≡ true
  themselves end = refl
  themselves (a & as') = rw (itself a, themselves as')

equal_back : (a b : Action) → unnumbered a ≡ unnumbered b → same a b ≡ true
equal_back a b e = sym (unseen a b) ∙ ap (same a) (sym e) ∙ unseen a a ∙ itself a

pub ignores_numbers : IgnoresNumbers
unfolding IgnoresNumbers
ignores_numbers a b = (equal a b, equal_back a b)

pub equivalence : Equivalence
equivalence =
    record {
      reflexive = itself;
      symmetric = λ a b e. equal_back b a (sym (equal a b e));
      transitive = λ a b c e f. equal_back a c (equal a b e ∙ equal b c f);
    }
