-- What the check's own functions promise to each other, and no public promise speaks of: what is known of the image where they
-- are called, and what one pass over the children of a record finds for the rules 7 Child, 8 Nested and 9 Weight.
-- Assumes nothing.
use Rattle.std.specs.Prelude.{ℕ, ◌+◌, ◌*◌, ◌<◌, ◌≤◌, ◌≡◌, true, ◌||◌, List, length, ltb, Result}
use Rattle.refusal.specs.Verdict.{kept_or, granted}
use Rattle.refusal.specs.declared.Fault.{Fault}
use Rattle.refusal.specs.declared.Refusal.TheVariants.{Child}
use Rattle.lists.specs.Lists.{every}
use Rattle.image.specs.Words.{records_of, words_from}
use Rattle.image.specs.Tree.{Actions, named, tree, open?, some_open, weight, weights}
use Rattle.image.specs.Check.{form_good}
use Rattle.image.specs.Sound.{Good}
use Rattle.image.specs.declared.words.Shape.{Shape}
use Rattle.image.specs.declared.children.Child.{Child as Part}
use Rattle.image.specs.declared.children.Weighed.{Weighed}

-- the counts of a header that keeps their rules
pub record Counts (s : Shape) : Type 0 where
  pub layers : (1 ≤ s.layers) × (s.layers ≤ 8)
  pub rows : (1 ≤ s.rows) × (s.rows ≤ 8)
  pub columns : (1 ≤ s.columns) × (s.columns ≤ 16)
  pub records : (1 ≤ s.records) × (s.records ≤ 256)
  pub entries : s.entries ≤ 1024

-- what is known of record n when the check has passed its form
pub record Formed (img : List ℕ) (n : ℕ) : Type 0 where
  pub inside : n < records_of img
  pub form : form_good img n ≡ true
  pub before : (k : ℕ) → k < n → Good img k

-- such words are inside the image, and number records below n
pub record ChildWords (img : List ℕ) (n at count : ℕ) : Type 0 where
  pub inside : at + 2 * count ≤ length img
  pub few : count ≤ 1024
  pub lower : every (λ k. ltb k n) (words_from img at count) ≡ true

-- the records that they number
abbrev pub children_at : List ℕ → ℕ → ℕ → Actions
children_at img at count = named (tree img) (words_from img at count)

-- children with all that they name: what they weigh, and whether one is open
abbrev pub weighed_of : Actions → Weighed
weighed_of actions = record { weight = weights actions; opens = some_open actions }

-- the same of words that are asked whether all number records below n: where one does not, Child
abbrev pub lower_weighed : List ℕ → ℕ → ℕ → ℕ → Result Weighed Fault
lower_weighed img n at count = granted (kept_or (every (λ k. ltb k n) (words_from img at count)) Child n) (weighed_of (children_at img at count))

-- children with record k among them, counted as 1 before: it adds what it weighs more, and is open or not
pub record WithChild (img : List ℕ) (k : ℕ) (before after : Weighed) : Type 0 where
  pub weighs : 1 + after.weight ≡ before.weight + weight (tree img k)
  pub opens : after.opens ≡ (before.opens || open? (tree img k))

-- record n is what it is by itself, and its children: it weighs 1, its own weight, and what they weigh
pub record Parts (img : List ℕ) (n : ℕ) (it : Part) : Type 0 where
  pub words : ChildWords img n it.at it.count
  pub weighs : 1 + (it.own + weights (children_at img it.at it.count)) ≡ weight (tree img n)
  pub opens : (it.opens || some_open (children_at img it.at it.count)) ≡ open? (tree img n)
