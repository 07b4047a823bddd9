-- When two actions are the same: document 02, W-203. Whole trees are compared, every word of them. The record's number, which the
-- tree of a HoldTap carries, is left out, and nothing else.
--     same               the test that `compare` makes
--     IgnoresNumbers     it passes just where the trees with no numbers are equal
--     Equivalence        so it is reflexive, symmetric and transitive
-- Assumes nothing.
use Rattle.std.specs.Prelude.{ℕ, ◌≡◌, Bool, true, false, ◌&&◌, List, [], ◌∷◌}
use Rattle.lists.specs.Lists.{alike}
use Rattle.image.specs.Tree.{Action, Actions, NoOp, Trans, KeyCode, MultipleKeyCodes, MultipleActions, Layer, DefaultLayer, HoldTap, end, ◌&◌}

-- the tree with every record number put to 0
unfoldable mutual
  pub unnumbered : Action → Action
  unnumbered NoOp = NoOp
  unnumbered Trans = Trans
  unnumbered (KeyCode code) = KeyCode code
  unnumbered (MultipleKeyCodes codes) = MultipleKeyCodes codes
  unnumbered (MultipleActions actions) = MultipleActions (unnumbered_all actions)
  unnumbered (Layer number) = Layer number
  unnumbered (DefaultLayer number) = DefaultLayer number
  unnumbered (HoldTap n timeout hold tap) = HoldTap 0 timeout (unnumbered hold) (unnumbered tap)

  pub unnumbered_all : Actions → Actions
  unnumbered_all end = end
  unnumbered_all (action & actions) = unnumbered action & unnumbered_all actions

-- what an action says by itself: the number of its kind, its own word (a code, the number of a layer, a timeout; 0 where it has
-- none), and the codes of a MultipleKeyCodes
abbrev pub own : Action → List ℕ
own NoOp = 0 ∷ 0 ∷ []
own Trans = 1 ∷ 0 ∷ []
own (KeyCode code) = 2 ∷ code ∷ []
own (MultipleKeyCodes codes) = 3 ∷ 0 ∷ codes
own (MultipleActions actions) = 4 ∷ 0 ∷ []
own (Layer number) = 5 ∷ number ∷ []
own (DefaultLayer number) = 6 ∷ number ∷ []
own (HoldTap n timeout hold tap) = 7 ∷ timeout ∷ []

-- the actions that it names, in their order; the first of some, and the others
abbrev pub parts : Action → Actions
parts NoOp = end
parts Trans = end
parts (KeyCode code) = end
parts (MultipleKeyCodes codes) = end
parts (MultipleActions actions) = actions
parts (Layer number) = end
parts (DefaultLayer number) = end
parts (HoldTap n timeout hold tap) = hold & (tap & end)

abbrev pub first_of : Actions → Action
first_of end = NoOp
first_of (action & actions) = action

abbrev pub others_of : Actions → Actions
others_of end = end
others_of (action & actions) = actions

-- both say the same by themselves, and the actions that they name are the same one by one
unfoldable mutual
  pub same : Action → Action → Bool
  same NoOp b = alike (own NoOp) (own b)
  same Trans b = alike (own Trans) (own b)
  same (KeyCode code) b = alike (own (KeyCode code)) (own b)
  same (MultipleKeyCodes codes) b = alike (own (MultipleKeyCodes codes)) (own b)
  same (MultipleActions actions) b = alike (own (MultipleActions actions)) (own b) && same_all actions (parts b)
  same (Layer number) b = alike (own (Layer number)) (own b)
  same (DefaultLayer number) b = alike (own (DefaultLayer number)) (own b)
  same (HoldTap n timeout hold tap) b =
      alike (own (HoldTap n timeout hold tap)) (own b) && (same hold (first_of (parts b)) && same tap (first_of (others_of (parts b))))

  pub same_all : Actions → Actions → Bool
  same_all end end = true
  same_all end (b & bs) = false
  same_all (a & as') end = false
  same_all (a & as') (b & bs) = same a b && same_all as' bs

unfoldable pub IgnoresNumbers : Type 0
IgnoresNumbers =
    (a b : Action) → (same a b ≡ true → unnumbered a ≡ unnumbered b) × (unnumbered a ≡ unnumbered b → same a b ≡ true)

pub record Equivalence : Type 0 where
  pub reflexive : (a : Action) → same a a ≡ true
  pub symmetric : (a b : Action) → same a b ≡ true → same b a ≡ true
  pub transitive : (a b c : Action) → same a b ≡ true → same b c ≡ true → same a c ≡ true
