-- Laws of a record's rules: its form, the rules that its kind can break, and what is known where all are kept.
-- Assumes nothing.
use mathlib.Core.Path.{◌≡◌, refl, sym, ap, subst, ◌∙◌}
use mathlib.Core.Bool.{true, false, not, ◌&&◌}
use mathlib.Core.List.{List, [], ◌∷◌, ◌++◌}
use mathlib.Core.Logic.{◌⊎◌, inl, inr}
use Prim.Native.Nat.{ℕ, ◌+◌, ◌-◌, ◌*◌, ◌<◌, ◌≤◌}
use native.Mathlib.Omega.{arith}
use borrow.Author.Tests.{leb-true}
use lib.ListN.{length}
use lib.Dec.{eqb, leb, ltb}
use Rattle.lists.specs.Lists.{every}
use Rattle.lists.proofs.Laws.{both_true}
use Rattle.codes.specs.Codes.{legal}
use Rattle.refusal.specs.declared.Refusal.TheVariants as refusal
use Rattle.image.specs.Inside.{Formed, children_at, weighed_of}
use Rattle.image.specs.Words.{records_of, entries_of, field_of, entries, word_at, words_from}
use Rattle.image.specs.Record.{action_of, action_at, codes_in, children_in, list_end}
use Rattle.image.specs.Tree.{Action, end, ◌&◌, named, meaning, tree, open?, some_open, shut_but_last, opens_last, weight, weights}
use Rattle.refusal.specs.Verdict.{Verdict, fine, refused, rule}
use Rattle.image.specs.Check.{form, form_good, record_fault}
use Rattle.image.specs.declared.children.Weighed.{Weighed}
use Rattle.image.specs.Sound.{Good}
use Rattle.image.specs.declared.record.Action.{Action as Coded}
use Rattle.image.specs.declared.record.Action.TheVariants as code
use Rattle.refusal.proofs.Verdicts.{rule_no, rule_yes, rule_fine, rule_with}
use Rattle.image.proofs.Tests.{and-true, or_false, not_or}
use Rattle.image.proofs.Entries.{length_entries, length_words, words_last, all_two}
use Rattle.image.proofs.Trees.{tree_step, action_inside, by_kind}
use Rattle.image.proofs.Weights.{Placed, few_weights, every_one, every_last, shut_last, weights_last, entries_at, pair_words}

-- the entries of a record whose form is good are in the list
form_lists : (e k a b c : ℕ) → form e k a b c ≡ true → ((k ≡ 3) ⊎ (k ≡ 4)) → a + b ≤ e
unfolding form
form_lists e k a b c f (inl h) = leb-true (a + b) e (both_true _ (eqb c 0) (rw h at f)).0
form_lists e k a b c f (inr h) = leb-true (a + b) e (both_true _ (eqb c 0) (rw h at f)).0

form_listed : (e k a b c : ℕ) → form e k a b c ≡ true → list_end (action_of k a b c) ≤ e
unfolding list_end
form_listed e k a b c f =
    let z : 0 ≤ e = omega arith in
    by_kind (λ r. list_end r ≤ e) k a b c (λ _. z) (λ _. z) (λ _. z) (λ h. form_lists e k a b c f (inl h)) (λ h. form_lists e k a b c f (inr h)) (λ _. z) (λ _. z) (λ _. z)

pub listed_inside : (img : List ℕ) (n : ℕ) → n < records_of img → form_good img n ≡ true → list_end (action_at img n) ≤ entries_of img
unfolding form_good
listed_inside img n h f = rw (action_inside img n h) (form_listed _ _ _ _ _ f)

-- record n by four words that were read
module _ (img : List ℕ) (n : ℕ) {k a b c : ℕ} (kind : k ≡ field_of img n 0) (first : a ≡ field_of img n 2) (second : b ≡ field_of img n 4) (third : c ≡ field_of img n 6) where
  pub form_read : (l : ℕ) → l ≡ entries_of img → form l k a b c ≡ form_good img n
  unfolding form_good
  form_read l e = rw (kind, first, second, third, e)

  pub action_read : n < records_of img → action_at img n ≡ action_of k a b c
  action_read h = rw (kind, first, second, third) (action_inside img n h)

-- the rules past the form of record n with the action x, whose tree speaks of the trees of the records it names
abbrev rules_past : List ℕ → ℕ → Coded → Verdict
rules_past img n x =
    rule (every legal (codes_in img x)) refusal.Code n
    (rule (every (λ k. ltb k n) (children_in img x)) refusal.Child n
    (rule (opens_last (meaning img (tree img) n x)) refusal.Nested n (rule (leb (weight (meaning img (tree img) n x)) 64) refusal.Weight n fine)))

-- the form of record n is bad
pub form_bad : (img : List ℕ) (n : ℕ) → form_good img n ≡ false → refused refusal.Record n ≡ record_fault img n
unfolding record_fault
form_bad img n f = rule_no _ _ _ _ f

-- its form is good: the rules past it are those of its action, and each kind can break only some of them
module _ (img : List ℕ) (n : ℕ) (f : Formed img n) where
  rules_past_lem : (x : Coded) → action_at img n ≡ x → rules_past img n x ≡ record_fault img n
  unfolding record_fault
  rules_past_lem x e = rw (← e) (rule_yes _ _ _ _ f.form (rule_with _ refusal.Code n _ _ (λ _. rule_with _ refusal.Child n _ _ (λ l. ap (λ t. rule (opens_last t) refusal.Nested n (rule (leb (weight t) 64) refusal.Weight n fine)) (sym (tree_step img n l))))))

  pub code_rules : (k : ℕ) → action_at img n ≡ code.KeyCode k → rule (legal k) refusal.Code n fine ≡ record_fault img n
  unfolding rule codes_in children_in meaning opens_last weight
  code_rules k e = rw (← and-true (legal k)) (rules_past_lem (code.KeyCode k) e)

  pub codes_rules : (a b : ℕ) → action_at img n ≡ code.MultipleKeyCodes a b → rule (every legal (entries img a b)) refusal.Code n (rule (leb (1 + b) 64) refusal.Weight n fine) ≡ record_fault img n
  unfolding rule codes_in children_in meaning opens_last weight
  codes_rules a b e = ap (λ k. rule (every legal (entries img a b)) refusal.Code n (rule (leb (1 + k) 64) refusal.Weight n fine)) (sym (length_entries img a b)) ∙ rules_past_lem (code.MultipleKeyCodes a b) e

  actions_rules : (a b : ℕ) → action_at img n ≡ code.MultipleActions a b → rule (every (λ k. ltb k n) (entries img a b)) refusal.Child n (rule (shut_but_last (named (tree img) (entries img a b))) refusal.Nested n (rule (leb (1 + weights (named (tree img) (entries img a b))) 64) refusal.Weight n fine)) ≡ record_fault img n
  unfolding rule codes_in children_in meaning opens_last weight
  actions_rules a b e = rules_past_lem (code.MultipleActions a b) e

  pub empty_rules : (a b : ℕ) → action_at img n ≡ code.MultipleActions a b → b ≡ 0 → fine ≡ record_fault img n
  unfolding rule entries named shut_but_last weight
  empty_rules a b e z = rw z at (actions_rules a b e)

  hold_tap_rules : (t h p : ℕ) → action_at img n ≡ code.HoldTap t h p → rule (ltb h n && ltb p n) refusal.Child n (rule (not (open? (tree img h)) && not (open? (tree img p))) refusal.Nested n (rule (leb (1 + (weight (tree img h) + weight (tree img p))) 64) refusal.Weight n fine)) ≡ record_fault img n
  unfolding rule codes_in children_in meaning opens_last weight
  hold_tap_rules t h p e = rw (← and-true (ltb p n)) (rules_past_lem (code.HoldTap t h p) e)

  pub no_rules : (field_of img n 0 ≡ 2 → ⊥) → (field_of img n 0 ≡ 3 → ⊥) → (field_of img n 0 ≡ 4 → ⊥) → (field_of img n 0 ≡ 7 → ⊥) → fine ≡ record_fault img n
  unfolding rule codes_in children_in meaning opens_last weight
  no_rules h2 h3 h4 h7 =
      by_kind (λ x. fine ≡ rules_past img n x) (field_of img n 0) (field_of img n 2) (field_of img n 4) (field_of img n 6)
      (λ _. refl) (λ _. refl) (λ e. absurd (h2 e)) (λ e. absurd (h3 e)) (λ e. absurd (h4 e)) (λ _. refl) (λ _. refl) (λ e. absurd (h7 e))
      ∙ rules_past_lem _ (action_inside img n f.inside)

-- a record with no fault
pub good : (img : List ℕ) (n : ℕ) → n < records_of img → record_fault img n ≡ fine → Good img n
unfolding record_fault
good img n h e =
    let e1 = rule_fine _ refusal.Record n _ e in
    let e2 = rule_fine _ refusal.Code n _ e1.1 in
    let e3 = rule_fine _ refusal.Child n _ e2.1 in
    let e4 = rule_fine _ refusal.Nested n _ e3.1 in
    let e5 = rule_fine _ refusal.Weight n _ e4.1 in
    record { form = e1.0; listed = listed_inside img n h e1.0; codes = e2.0; lower = e3.0; settles = e4.0; light = leb-true (weight (tree img n)) 64 e5.0 }

-- the records that a MultipleActions names, as the check reads them: all, all but the last, and the last
abbrev pub all_of : List ℕ → ℕ → ℕ → ℕ → List ℕ
all_of img l first count = words_from img (l + 2 * first) count

abbrev most_of : List ℕ → ℕ → ℕ → ℕ → List ℕ
most_of img l first count = words_from img (l + 2 * first) (count - 1)

abbrev last_of : List ℕ → ℕ → ℕ → ℕ → ℕ
last_of img l first count = word_at img (l + 2 * first + 2 * (count - 1))

-- a MultipleActions that has entries, by what these come to
module _ (img : List ℕ) (r l n first count : ℕ) (p : Placed img r l) (f : Formed img n) (is : action_at img n ≡ code.MultipleActions first count) (some : 0 < count) where
  few : length (most_of img l first count) ≤ 1023
  unfolding list_end
  few =
      let listed : first + count ≤ entries_of img = subst (λ x. list_end x ≤ entries_of img) is (listed_inside img n f.inside f.form) in
      omega (arith, listed, length_words img (l + 2 * first) (count - 1), p.framed.entries)

  parted : all_of img l first count ≡ most_of img l first count ++ last_of img l first count ∷ []
  parted = words_last img (l + 2 * first) count some

  pub all_rules : rule (every (λ k. ltb k n) (all_of img l first count)) refusal.Child n (rule (shut_but_last (named (tree img) (all_of img l first count))) refusal.Nested n (rule (leb (1 + weights (named (tree img) (all_of img l first count))) 64) refusal.Weight n fine)) ≡ record_fault img n
  all_rules = rw (entries_at img r l first count p) at (actions_rules img n f first count is)

  -- all are lower where all but the last are, and the last is; where one of them is not, not all are
  pub all_low : every (λ k. ltb k n) (all_of img l first count) ≡ (every (λ k. ltb k n) (most_of img l first count) && every (λ k. ltb k n) (words_from img (l + 2 * first + 2 * (count - 1)) 1))
  unfolding words_from
  all_low = ap (every (λ k. ltb k n)) parted ∙ every_last (λ k. ltb k n) (most_of img l first count) (last_of img l first count) ∙ ap (λ b. every (λ k. ltb k n) (most_of img l first count) && b) (sym (every_one (λ k. ltb k n) (last_of img l first count)))

  module _ (low : every (λ k. ltb k n) (all_of img l first count) ≡ true) where
    both : (every (λ k. ltb k n) (most_of img l first count) ≡ true) × (ltb (last_of img l first count) n ≡ true)
    both = both_true _ _ (sym (every_last (λ k. ltb k n) (most_of img l first count) (last_of img l first count)) ∙ ap (every (λ k. ltb k n)) (sym parted) ∙ low)

    pub most_low : every (λ k. ltb k n) (most_of img l first count) ≡ true
    most_low = both.0

    pub last_low : every (λ k. ltb k n) (words_from img (l + 2 * first + 2 * (count - 1)) 1) ≡ true
    unfolding words_from
    last_low = every_one (λ k. ltb k n) (last_of img l first count) ∙ both.1

    module _ {most last : Weighed} (em : most ≡ weighed_of (children_at img (l + 2 * first) (count - 1))) (el : last ≡ weighed_of (children_at img (l + 2 * first + 2 * (count - 1)) 1)) where
      pub sums_shut : not most.opens ≡ shut_but_last (named (tree img) (all_of img l first count))
      sums_shut = ap (λ (w : Weighed). not w.opens) em ∙ sym (shut_last (tree img) (most_of img l first count) (last_of img l first count)) ∙ ap (λ ks. shut_but_last (named (tree img) ks)) (sym parted)

      pub sums_are : most.weight + last.weight ≡ weights (named (tree img) (all_of img l first count))
      unfolding named weight words_from
      sums_are = rw parted (omega (arith, weights_last (tree img) (most_of img l first count) (last_of img l first count), ap (λ (w : Weighed). w.weight) em, ap (λ (w : Weighed). w.weight) el))

      pub sums_small : (most.weight ≤ 65536) × (last.weight ≤ 64)
      unfolding words_from
      sums_small =
          (omega (arith, few, few_weights img n f (most_of img l first count) most_low, ap (λ (w : Weighed). w.weight) em), omega (arith, few_weights img n f (last_of img l first count ∷ []) last_low, ap (λ (w : Weighed). w.weight) el))

-- a HoldTap, by what hold and tap come to
shut_two : (h p : Action) → (not (open? h) && not (open? p)) ≡ not (some_open (h & (p & end)))
unfolding open?
shut_two h p = rw (or_false (open? p)) (sym (not_or (open? h) (open? p)))

module _ (img : List ℕ) (r l n : ℕ) (p : Placed img r l) (f : Formed img n) (is : field_of img n 0 ≡ 7) where
  two : words_from img (r + 8 * n + 4) 2 ≡ field_of img n 4 ∷ field_of img n 6 ∷ []
  two = pair_words img r l n p

  pub pair_rules : rule (every (λ k. ltb k n) (words_from img (r + 8 * n + 4) 2)) refusal.Child n (rule (not (some_open (children_at img (r + 8 * n + 4) 2))) refusal.Nested n (rule (leb (1 + weights (children_at img (r + 8 * n + 4) 2)) 64) refusal.Weight n fine)) ≡ record_fault img n
  unfolding action_of named weight
  pair_rules =
      let hold = tree img (field_of img n 4) in
      let tap = tree img (field_of img n 6) in
      let sum : weights (hold & (tap & end)) ≡ weight hold + weight tap = omega arith in
      rw (two, all_two (λ k. ltb k n) (field_of img n 4) (field_of img n 6), ← shut_two hold tap, sum)
      (hold_tap_rules img n f (field_of img n 2) (field_of img n 4) (field_of img n 6) (action_inside img n f.inside ∙ rw is))

  pub pair_small : every (λ k. ltb k n) (words_from img (r + 8 * n + 4) 2) ≡ true → weights (children_at img (r + 8 * n + 4) 2) ≤ 128
  pair_small low = omega (arith, few_weights img n f (words_from img (r + 8 * n + 4) 2) low, length_words img (r + 8 * n + 4) 2)
