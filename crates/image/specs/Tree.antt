-- What a record means: the tree of actions that it stands for, with the open rule and the weight of document 01,
-- "The table image", as folds over trees.
-- Assumes nothing.
use Rattle.std.specs.Prelude.{ℕ, zero, suc, ◌+◌, max, List, [], ◌∷◌, ◌++◌, Bool, true, false, not, ◌&&◌, ◌||◌, length, get_or}
use Rattle.image.specs.Words.{entries}
use Rattle.image.specs.Record.{action_at}
use Rattle.image.specs.declared.record.Action.{Action as Coded}
use Rattle.image.specs.declared.record.Action.TheVariants as code

-- a HoldTap has its record's number, timeout, hold and tap
mutual
  pub data Action : Type 0 where
    NoOp Trans : Action
    KeyCode : ℕ → Action
    MultipleKeyCodes : List ℕ → Action
    MultipleActions : Actions → Action
    Layer : ℕ → Action
    DefaultLayer : ℕ → Action
    HoldTap : ℕ → ℕ → Action → Action → Action

  pub data Actions : Type 0 where
    end : Actions
    ◌&◌ : Action → Actions → Actions

infixr 60 ◌&◌
-- the trees that a list of record numbers names
unfoldable pub named : (ℕ → Action) → List ℕ → Actions
named lower [] = end
named lower (k ∷ ks) = lower k & named lower ks

-- what record n means, where `lower` gives the trees of the records that it names
unfoldable pub meaning : List ℕ → (ℕ → Action) → ℕ → Coded → Action
meaning img lower n code.NoOp = NoOp
meaning img lower n code.Trans = Trans
meaning img lower n (code.KeyCode key) = KeyCode key
meaning img lower n (code.MultipleKeyCodes first count) = MultipleKeyCodes (entries img first count)
meaning img lower n (code.MultipleActions first count) = MultipleActions (named lower (entries img first count))
meaning img lower n (code.Layer number) = Layer number
meaning img lower n (code.DefaultLayer number) = DefaultLayer number
meaning img lower n (code.HoldTap timeout hold tap) = HoldTap n timeout (lower hold) (lower tap)

-- the trees of the records below n, in their order
unfoldable pub trees : List ℕ → ℕ → List Action
trees img zero = []
trees img (suc n) = let ts = trees img n in ts ++ meaning img (λ k. get_or ts k NoOp) n (action_at img n) ∷ []

-- the tree that record n has for a number that it names: only a lower one counts
abbrev pub below : List ℕ → ℕ → ℕ → Action
below img n k = get_or (trees img n) k NoOp

-- the tree of record n
unfoldable pub tree : List ℕ → ℕ → Action
tree img n = meaning img (below img n) n (action_at img n)

-- open: a HoldTap, or a MultipleActions naming an open one
unfoldable mutual
  pub open? : Action → Bool
  open? NoOp = false
  open? Trans = false
  open? (KeyCode code) = false
  open? (MultipleKeyCodes codes) = false
  open? (MultipleActions actions) = some_open actions
  open? (Layer number) = false
  open? (DefaultLayer number) = false
  open? (HoldTap n timeout hold tap) = true

  pub some_open : Actions → Bool
  some_open end = false
  some_open (action & actions) = open? action || some_open actions

-- every entry that another follows is not open
unfoldable pub shut_but_last : Actions → Bool
shut_but_last end = true
shut_but_last (action & end) = true
shut_but_last (action & (next & actions)) = not (open? action) && shut_but_last (next & actions)

-- the open rule, at one action: hold and tap are not open, and only the last entry of a MultipleActions may be
unfoldable pub opens_last : Action → Bool
opens_last NoOp = true
opens_last Trans = true
opens_last (KeyCode code) = true
opens_last (MultipleKeyCodes codes) = true
opens_last (MultipleActions actions) = shut_but_last actions
opens_last (Layer number) = true
opens_last (DefaultLayer number) = true
opens_last (HoldTap n timeout hold tap) = not (open? hold) && not (open? tap)

-- the weight: 1, plus the count of a kind 3, plus the weights of every record named, repeated ones each time
unfoldable mutual
  pub weight : Action → ℕ
  weight NoOp = 1
  weight Trans = 1
  weight (KeyCode code) = 1
  weight (MultipleKeyCodes codes) = 1 + length codes
  weight (MultipleActions actions) = 1 + weights actions
  weight (Layer number) = 1
  weight (DefaultLayer number) = 1
  weight (HoldTap n timeout hold tap) = 1 + (weight hold + weight tap)

  pub weights : Actions → ℕ
  weights end = 0
  weights (action & actions) = weight action + weights actions

-- the longest hold time in a tree, 0 where it has none
unfoldable mutual
  pub longest : Action → ℕ
  longest NoOp = 0
  longest Trans = 0
  longest (KeyCode code) = 0
  longest (MultipleKeyCodes codes) = 0
  longest (MultipleActions actions) = longest_of actions
  longest (Layer number) = 0
  longest (DefaultLayer number) = 0
  longest (HoldTap n timeout hold tap) = max timeout (max (longest hold) (longest tap))

  pub longest_of : Actions → ℕ
  longest_of end = 0
  longest_of (action & actions) = max (longest action) (longest_of actions)
