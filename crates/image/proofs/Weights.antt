-- Laws of the children of a record: what a record is by itself and its children, and what one pass over them says.
-- Assumes nothing.
use mathlib.Core.Path.{◌≡◌, refl, sym, ap, ◌∙◌}
use mathlib.Core.Bool.{Bool, true, false, cond, not, ◌&&◌, ◌||◌}
use mathlib.Core.List.{List, [], ◌∷◌, ◌++◌}
use Prim.Native.Nat.{ℕ, ◌+◌, ◌*◌, ◌<◌, ◌≤◌}
use native.Mathlib.Omega.{arith}
use borrow.Author.Tests.{leb-true, leb-false, eqb-true, eqb-false, ltb-true, lt-leb, ne_eqb}
use lib.ListN.{length}
use lib.Dec.{eqb, leb, ltb}
use Rattle.std.specs.Prelude.{Ok, Err}
use Rattle.lists.specs.Lists.{every}
use Rattle.refusal.specs.Verdict.{Verdict, fine, granted}
use Rattle.refusal.specs.declared.Fault.{Fault}
use Rattle.lists.proofs.Laws.{every_head}
use Rattle.image.specs.Inside.{Formed, WithChild, children_at, weighed_of, Parts}
use Rattle.image.specs.declared.body.Body.{Body}
use Rattle.image.specs.declared.words.Shape.{Shape}
use Rattle.image.specs.Sound.{Framed}
use Rattle.image.specs.Words.{list_start, records_start, word_at, field_of, entries, words_from}
use Rattle.image.specs.Record.{action_of, children_in, list_end}
use Rattle.image.specs.Tree.{Action, Actions, named, meaning, tree, open?, some_open, shut_but_last, weight, weights}
use Rattle.image.specs.Check.{form, form_good}
use Rattle.image.specs.declared.children.Child.{Child}
use Rattle.image.specs.declared.children.Weighed.{Weighed}
use Rattle.image.specs.Sound.{Good, Meant}
use Rattle.image.specs.declared.record.Action.TheVariants as code
use Rattle.image.proofs.Tests.{and-true, and_assoc, or_false, not_or}
use Rattle.image.proofs.Entries.{length_entries, entries_words, words_after, words_head, words_none, words_on}
use Rattle.image.proofs.Trees.{action_inside, meant, by_kind}

-- lower records are good: each weighs at most 64
module _ (img : List ℕ) (n : ℕ) (f : Formed img n) where
  pub few_weights : (ks : List ℕ) → every (λ k. ltb k n) ks ≡ true → weights (named (tree img) ks) ≤ 64 * length ks
  unfolding weight named
  few_weights [] e = omega arith
  few_weights (k ∷ ks) e =
      let both = every_head (λ k. ltb k n) k ks e in
      omega (arith, (f.before k (ltb-true k n both.0)).light, few_weights ks both.1)

-- children one at a time: of so many those after the first i, and what is found of the first of these and of the rest
abbrev pub children_after : List ℕ → ℕ → ℕ → ℕ → Actions
children_after img at n i = named (tree img) (words_after img at n i)

or_assoc : (a b c : Bool) → ((a || b) || c) ≡ (a || (b || c))
or_assoc true b c = refl
or_assoc false b c = refl

-- what is left falls by the first
pub children_step : (img : List ℕ) (at n i k : ℕ) → i < n → k ≡ word_at img (at + 2 * i)
    → (weights (children_after img at n i) ≡ weight (tree img k) + weights (children_after img at n (i + 1))) × (some_open (children_after img at n i) ≡ (open? (tree img k) || some_open (children_after img at n (i + 1))))
unfolding weight open?
children_step img at n i k p e =
    let r = words_on img at n i (tree img) p in
    (ap weights r ∙ rw e refl, ap some_open r ∙ rw e refl)

pub children_end : (img : List ℕ) (at left : ℕ) → left ≤ 0 → (weights (children_at img at left) ≡ 0) × (some_open (children_at img at left) ≡ false)
unfolding weight open?
children_end img at left h = let r = words_none img at left (tree img) h in (ap weights r, ap some_open r)

pub opens_on : (o b rest : Bool) {e both all : Bool} → e ≡ (o || b) → both ≡ (b || rest) → (o || both) ≡ all → (e || rest) ≡ all
opens_on o b rest p q r = ap (λ z. z || rest) p ∙ or_assoc o b rest ∙ ap (λ z. o || z) (sym q) ∙ r

pub opens_end : {o rest all : Bool} → rest ≡ false → (o || rest) ≡ all → o ≡ all
opens_end {o} q r = sym (or_false o) ∙ ap (λ z. o || z) (sym q) ∙ r

pub weighed_is : {w : ℕ} {o : Bool} (actions : Actions) → w ≡ weights actions → o ≡ some_open actions → record { weight = w; opens = o } ≡ weighed_of actions
weighed_is actions p q = λ i. record { weight = p i; opens = q i }

-- children asked whether all are lower, by what is asked: one is not, and all are
pub weighed_no : (v : Verdict) (w : Weighed) {a : Fault} → v ≡ Err a → Err a ≡ granted v w
weighed_no v w e = rw e refl

pub weighed_yes : (v : Verdict) {s w : Weighed} → v ≡ fine → s ≡ w → Ok s ≡ granted v w
weighed_yes v e f = rw (e, f) refl

-- and what it was, by what is answered
pub weighed_err : (v : Verdict) (w : Weighed) {a : Fault} → Err a ≡ granted v w → v ≡ Err a
weighed_err (Ok u) w e = cc
weighed_err (Err f) w e = cc

pub weighed_ok : (v : Verdict) (w : Weighed) {s : Weighed} → Ok s ≡ granted v w → (v ≡ fine) × (s ≡ w)
weighed_ok (Ok u) w e = (refl, cc)
weighed_ok (Err f) w e = (cc, cc)

-- a child that has no children of its own, and one that has, when these are weighed
pub leaf : (img : List ℕ) (k : ℕ) (it : Child) (before : Weighed) → Parts img k it → it.count ≡ 0 → WithChild img k before (record { weight = before.weight + it.own; opens = before.opens || it.opens })
leaf img k it before p e =
    let none = children_end img it.at it.count (omega (arith, e)) in
    record {
      weighs = omega (arith, p.weighs, none.0);
      opens = ap (λ z. before.opens || z) (opens_end none.1 p.opens);
    }

pub parent : (img : List ℕ) (k : ℕ) (it : Child) (before s : Weighed) → Parts img k it → s ≡ weighed_of (children_at img it.at it.count)
    → WithChild img k before (record { weight = before.weight + it.own + s.weight; opens = (before.opens || it.opens) || s.opens })
parent img k it before s p e =
    record {
      weighs = omega (arith, ap (λ (s : Weighed). s.weight) e, p.weighs);
      opens = or_assoc before.opens it.opens s.opens ∙ ap (λ z. before.opens || z) (ap (λ (s : Weighed). it.opens || s.opens) e ∙ p.opens);
    }

-- a list and one more: lower, open, weight
pub every_one : (t : ℕ → Bool) (z : ℕ) → every t (z ∷ []) ≡ t z
every_one t z = and-true (t z)

pub every_last : (t : ℕ → Bool) (ks : List ℕ) (z : ℕ) → every t (ks ++ z ∷ []) ≡ (every t ks && t z)
every_last t [] z = and-true (t z)
every_last t (k ∷ ks) z = rw (every_last t ks z) (and_assoc (t k) (every t ks) (t z))

module _ (t : ℕ → Action) where
  pub shut_last : (ks : List ℕ) (z : ℕ) → shut_but_last (named t (ks ++ z ∷ [])) ≡ not (some_open (named t ks))
  unfolding named shut_but_last open?
  shut_last [] z = refl
  shut_last (k ∷ []) z = and-true (not (open? (t k))) ∙ ap not (sym (or_false (open? (t k))))
  shut_last (k ∷ (j ∷ ks)) z = ap (λ b. not (open? (t k)) && b) (shut_last (j ∷ ks) z) ∙ sym (not_or (open? (t k)) (some_open (named t (j ∷ ks))))

  pub weights_last : (ks : List ℕ) (z : ℕ) → weights (named t (ks ++ z ∷ [])) ≡ weights (named t ks) + weight (t z)
  unfolding named weight
  weights_last [] z = omega arith
  weights_last (k ∷ ks) z = omega (arith, weights_last ks z)

-- the entries of a MultipleActions as words one after the other

-- the two offsets that a header tells
pub record Placed (img : List ℕ) (records_at list_at : ℕ) : Type 0 where
  pub framed : Framed img
  pub first : records_at ≡ records_start img
  pub second : list_at ≡ list_start img

pub placed : (b : Body) → Placed b.image.now b.shape.records_at b.shape.list_at
placed b =
    record { framed = b.framed; first = ap (λ (s : Shape). s.records_at) b.told; second = ap (λ (s : Shape). s.list_at) b.told }

pub entries_at : (img : List ℕ) (r l first count : ℕ) → Placed img r l → entries img first count ≡ words_from img (l + 2 * first) count
entries_at img r l first count p = entries_words img first count ∙ ap (λ k. words_from img (k + 2 * first) count) (sym p.second)

-- a HoldTap's hold and tap are its last two words
pub pair_words : (img : List ℕ) (r l n : ℕ) → Placed img r l → words_from img (r + 8 * n + 4) 2 ≡ field_of img n 4 ∷ field_of img n 6 ∷ []
unfolding words_from field_of
pair_words img r l n p =
    let s : records_start img + 8 * n + 4 + 2 ≡ records_start img + 8 * n + 6 = omega arith in
    rw (p.first, s)

-- a good record by itself and its children: a MultipleActions, a HoldTap, and one that has none
module _ (img : List ℕ) (r l n : ℕ) (p : Placed img r l) (f : Formed img n) (g : Good img n) where
  pub many_parts : {first count : ℕ} → field_of img n 0 ≡ 4 → first ≡ field_of img n 2 → count ≡ field_of img n 4 → Parts img n (record { own = 0; opens = false; at = l + 2 * first; count = count })
  unfolding action_of list_end children_in meaning weight open?
  many_parts e a b =
      let m : Meant img n (code.MultipleActions (field_of img n 2) (field_of img n 4)) = meant img n g (sym (action_inside img n f.inside)) (rw e) in
      let w = entries_at img r l (field_of img n 2) (field_of img n 4) p in
      let s : 1 + weights (children_at img (l + 2 * field_of img n 2) (field_of img n 4)) ≡ weight (tree img n) = rw (← w) (sym (ap weight m.is)) in
      rw (a, b)
      (record {
        words = record { inside = omega (arith, m.listed, p.second, p.framed.whole); few = omega (arith, m.listed, p.framed.entries); lower = rw (← w) m.lower };
        weighs = omega (arith, s);
        opens = rw (← w) (sym (ap open? m.is));
      })

  pub pair_parts : field_of img n 0 ≡ 7 → Parts img n (record { own = 0; opens = true; at = r + 8 * n + 4; count = 2 })
  unfolding action_of children_in meaning named weight open?
  pair_parts e =
      let m : Meant img n (code.HoldTap (field_of img n 2) (field_of img n 4) (field_of img n 6)) = meant img n g (sym (action_inside img n f.inside)) (rw e) in
      let w = pair_words img r l n p in
      record {
        words = record { inside = omega (arith, f.inside, p.first, p.framed.whole, p.framed.list_at); few = omega arith; lower = rw w m.lower };
        weighs = rw w (omega (arith, ap weight m.is));
        opens = sym (ap open? m.is);
      }

pub words_lower : (img : List ℕ) (n at count i : ℕ) → i < count → every (λ k. ltb k n) (words_after img at count i) ≡ true → word_at img (at + 2 * i) < n
words_lower img n at count i h e = ltb-true _ n (words_head img at count i (λ k. ltb k n) h e)

-- the words of any other kind: b counts the codes of a MultipleKeyCodes, and is 0 else
unused : (e k a b c : ℕ) → form e k a b c ≡ true → k < 7 → (k ≡ 3 → ⊥) → (k ≡ 4 → ⊥) → b ≡ 0
unfolding form
unused e k a b c f h h3 h4 = go (leb k 1) (eqb k 2) (leb k 4) (leb k 6) refl refl refl refl f
  where
    go : (p q r s : Bool) → leb k 1 ≡ p → eqb k 2 ≡ q → leb k 4 ≡ r → leb k 6 ≡ s → cond p (eqb (a + b + c) 0) (cond q (eqb (b + c) 0) (cond r (leb (a + b) e && eqb c 0) (cond s (eqb (b + c) 0) (eqb k 7)))) ≡ true → b ≡ 0
    go true q r s ep eq er es t = omega (arith, eqb-true (a + b + c) 0 t)
    go false true r s ep eq er es t = omega (arith, eqb-true (b + c) 0 t)
    go false false true s ep eq er es t = absurd (omega (arith, leb-false k 1 ep, eqb-false k 2 eq, leb-true k 4 er, h3, h4))
    go false false false true ep eq er es t = omega (arith, eqb-true (b + c) 0 t)
    go false false false false ep eq er es t = absurd (omega (arith, eqb-true k 7 t))

-- no kind is above 7
pub seven : (e k a b c : ℕ) → form e k a b c ≡ true → 7 ≤ k → k ≡ 7
unfolding form
seven e k a b c f h = eqb-true k 7 (rw (lt-leb k 1 (omega arith), ne_eqb k 2 (λ t. absurd (omega arith)), lt-leb k 4 (omega arith), lt-leb k 6 (omega arith)) at f)

plain : (img : List ℕ) (n : ℕ) → Formed img n → Good img n → field_of img n 0 < 7 → (field_of img n 0 ≡ 4 → ⊥) → (weight (tree img n) ≡ 1 + field_of img n 4) × (open? (tree img n) ≡ false)
unfolding form_good meaning open? weight
plain img n f g h h4 =
    let none : (field_of img n 0 ≡ 3 → ⊥) → (1 ≡ 1 + field_of img n 4) × (false ≡ false) = λ h3. (omega (arith, unused _ _ _ _ _ f.form h h3 h4), refl) in
    rw (meant img n g (sym (action_inside img n f.inside)) refl).is
    (by_kind (λ x. (weight (meaning img (tree img) n x) ≡ 1 + field_of img n 4) × (open? (meaning img (tree img) n x) ≡ false)) (field_of img n 0) (field_of img n 2) (field_of img n 4) (field_of img n 6)
    none (λ e. none (λ t. absurd (omega arith))) (λ e. none (λ t. absurd (omega arith))) (λ e. (omega (arith, length_entries img (field_of img n 2) (field_of img n 4)), refl)) (λ e. absurd (h4 e)) (λ e. none (λ t. absurd (omega arith))) (λ e. none (λ t. absurd (omega arith))) (λ e. absurd (omega arith)))

pub plain_parts : (img : List ℕ) (n w : ℕ) → Formed img n → Good img n → field_of img n 0 < 7 → (field_of img n 0 ≡ 4 → ⊥) → w ≡ field_of img n 4 → Parts img n (record { own = w; opens = false; at = 0; count = 0 })
unfolding words_from named weight open?
plain_parts img n w f g h h4 e =
    let both = plain img n f g h h4 in
    record { words = record { inside = omega arith; few = omega arith; lower = refl }; weighs = omega (arith, e, both.0); opens = sym both.1 }
