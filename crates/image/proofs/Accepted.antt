-- What acceptance gives: the laws through which the crates above see an accepted image. Nothing above opens `check_of`.
--     accepted       an accepted image is `Sound`, and the answer holds the header's numbers
--     operator-sound, built-in-sound     the stretch in use lies in its area and is `Sound`
--     tells          a record that was looked up: what it means one step on, and what its words keep to. Every number is a
--                    record: past the last it is NoOp
--     cell-place, cell-named     where a cell stands, and that what it names is a record
--     entry-is, entry-not     an entry that was looked up, and where there is none
--     hold-lower, entry-lower, key-legal, entry-legal, code-byte     the parts of `tells`, a word at a time
--     entries-step, all_head, all_tail, named_step, named_none     a loop over the entries of a record, one step along it
--     settles, light          the open rule and the weight, of every tree
--     proper-table, times-word     every action of the table is proper with the image's longest hold time, which is a word
-- Assumes nothing.
use mathlib.Core.Path.{◌≡◌, refl, sym, ap, subst, ◌∙◌}
use mathlib.Core.Bool.{Bool, true, false, cond, not, ◌&&◌, ◌||◌}
use mathlib.Core.List.{List, [], ◌∷◌}
use mathlib.Core.Logic.{⊎_elim}
use Prim.Native.Nat.{ℕ, zero, suc, ◌+◌, ◌*◌, ◌<◌, ◌≤◌, max}
use native.Mathlib.Decide.{dec_lt}
use native.Mathlib.Nat.{mul-le-mul_right, not-suc-le-zero, le_of_suc-le-suc, eq-or-lt_of_le}
use native.Mathlib.Omega.{arith}
use borrow.Author.Tests.{ltb-true, ltb-false, le-ltb, le-leb}
use lib.ListN.{length, get_or, take}
use lib.Dec.{eqb, leb, ltb, T}
use Rattle.codes.specs.Codes.{legal as legal_code}
use Rattle.refusal.specs.declared.Refusal.TheVariants as refusal
use Rattle.image.specs.Words.{word_at, layers_of, rows_of, columns_of, records_of, entries_of, shape_of, cells_of, size_of, cell_of, field_of, entry_of, entries}
use Rattle.image.specs.Record.{record_of, action_at, codes_in, children_in, list_end, cell_place, is_inside, cell_at, entry_at, action_words}
use Rattle.image.specs.Tree.{Action, Actions, NoOp, Trans, KeyCode, MultipleKeyCodes, MultipleActions, Layer, DefaultLayer, HoldTap, end, ◌&◌, named, meaning, tree, open?, some_open, shut_but_last, opens_last, weight, longest, longest_of}
use Rattle.image.specs.Proper.{closed, closed_all, Times, holdable, proper, proper_all}
use Rattle.image.specs.Table.{table_of, tree_in, longest_below, times_of}
use Rattle.lists.specs.Lists.{every}
use Rattle.lists.proofs.Laws.{both_true, every_head}
use Rattle.std.specs.Prelude.{Option, Some, None, Ok}
use Rattle.refusal.specs.Verdict.{fine, first_fault}
use Rattle.image.specs.Check.{head_fault, cell_fault, record_fault, body_fault, fault_of, check_of}
use Rattle.image.specs.Sound.{Sound, Meant}
use Rattle.image.specs.Use.{area_of, source_of}
use Rattle.image.specs.declared.words.Shape.{Shape}
use Rattle.image.specs.declared.record.Action.{Action as Coded}
use Rattle.image.specs.declared.record.Action.TheVariants as code
use Rattle.image.specs.declared.areas.Source.TheVariants.{Operator, BuiltIn}
use Rattle.refusal.proofs.Verdicts.{rule_fine, or_fine, fine_all}
use Rattle.image.proofs.Said.{action_one}
use Rattle.image.proofs.Tests.{not_or}
use Rattle.image.proofs.Faults.{fault_fine}
use Rattle.image.proofs.HeaderRules.{framed, cell_kept}
use Rattle.image.proofs.Entries.{all_at, two_of, below_byte}
use Rattle.image.proofs.Trees.{meant, either, by_kind}
use Rattle.image.proofs.RecordRules.{good}
use Rattle.image.proofs.Chosen.{area_accepted, operator_chosen, built_in_chosen}
pub use Rattle.image.proofs.Entries.{entries_step, length_entries, all_head, all_tail, named_step, named_none}

sound : (img : List ℕ) → fault_of img ≡ fine → Sound img
unfolding fault_of body_fault
sound img e =
    let p = or_fine (head_fault img (eqb (length img) (size_of img))) (body_fault img) (rule_fine _ refusal.Short 0 _ e).1 in
    let q = or_fine (first_fault (cell_fault img) 0 (cells_of img)) (first_fault (record_fault img) 0 (records_of img)) p.1 in
    record {
      framed = framed img p.0;
      cells = λ i l. cell_kept img i (fine_all (cell_fault img) (cells_of img) q.0 i l);
      records = λ n l. good img n l (fine_all (record_fault img) (records_of img) q.1 n l);
    }

pub accepted : (img : List ℕ) (s : Shape) → check_of img ≡ Ok s → (s ≡ shape_of img) × Sound img
accepted img s e =
    let h = fault_fine img s e in
    (h.1, sound img h.0)

area_sound : (area : List ℕ) (s : Shape) → area_of area ≡ Ok s → (size_of area ≤ length area) × Sound (take (size_of area) area)
area_sound area s e =
    let h = area_accepted area s e in
    (h.0, (accepted (take (size_of area) area) s h.1).1)

pub operator_sound : (o b : List ℕ) (k : ℕ) → source_of o b ≡ Ok (Operator k) → (k ≤ length o) × Sound (take k o)
operator_sound o b k e =
    let h = operator_chosen o b k e in
    rw h.long (area_sound o h.shape h.is)

pub built_in_sound : (o b : List ℕ) (k : ℕ) → source_of o b ≡ Ok (BuiltIn k) → (k ≤ length b) × Sound (take k b)
built_in_sound o b k e =
    let h = built_in_chosen o b k e in
    rw h.long (area_sound b h.shape h.is)

-- past the last record there is NoOp
past : (img : List ℕ) (n : ℕ) → records_of img ≤ n → action_at img n ≡ code.NoOp
unfolding action_at
past img n h = rw (le-ltb n (records_of img) h)

past_meant : (img : List ℕ) (n : ℕ) → action_at img n ≡ code.NoOp → Meant img n code.NoOp
unfolding tree meaning list_end codes_in children_in
past_meant img n e = record { is = rw e; listed = omega arith; codes = refl; lower = refl }

pub tells : (img : List ℕ) (n : ℕ) {r x : Coded} → Sound img → action_words r ≡ action_words (action_at img n) → r ≡ x → Meant img n x
tells img n {r} {x} s told f = go (dec_lt n (records_of img))
  where
    e : r ≡ action_at img n
    e = action_one r (action_at img n) told

    go : Dec (n < records_of img) → Meant img n x
    go (yes l) = meant img n (s.records n l) e f
    go (no g) =
        let p = past img n (omega arith) in
        subst (λ x. Meant img n x) (sym p ∙ sym e ∙ f) (past_meant img n p)

-- the records that a record names are lower
module _ (img : List ℕ) (n a b : ℕ) where
  pub hold_lower : (t : ℕ) → Meant img n (code.HoldTap t a b) → (a < n) × (b < n)
  unfolding children_in
  hold_lower t m =
      let two = two_of (λ k. ltb k n) a b m.lower in
      (ltb-true a n two.0, ltb-true b n two.1)

  pub entry_lower : (i : ℕ) → Meant img n (code.MultipleActions a b) → i < b → entry_of img (a + i) < n
  unfolding children_in
  entry_lower i m h = ltb-true _ n (all_at (λ k. ltb k n) img a b i h m.lower)

  pub entry_legal : (i : ℕ) → Meant img n (code.MultipleKeyCodes a b) → i < b → legal_code (entry_of img (a + i)) ≡ true
  unfolding codes_in
  entry_legal i m h = all_at legal_code img a b i h m.codes

pub key_legal : (img : List ℕ) (n k : ℕ) → Meant img n (code.KeyCode k) → legal_code k ≡ true
unfolding codes_in
key_legal img n k m = (every_head legal_code k [] m.codes).0

-- a legal code fits a byte
pub code_byte : (k : ℕ) → legal_code k ≡ true → k < 256
code_byte k e = below_byte k e

-- a digit below b after one below a is below a * b
mixed : (x a y b : ℕ) → x < a → y < b → x * b + y < a * b
mixed x a y b h k = omega (arith, mul-le-mul_right b h)

is_record : (t : Bool) (m n : ℕ) → cond t (Some m) None ≡ Some n → (t ≡ true) × (n ≡ m)
is_record true m n e = (refl, cc)
is_record false m n e = (cc, cc)

-- where a cell of the table stands
pub cell_place_lem : (img : List ℕ) (l r c n : ℕ) → cell_at img l r c ≡ Some n → (cell_place img l r c < cells_of img) × (n ≡ cell_of img (cell_place img l r c))
unfolding cell_at
cell_place_lem img l r c n e =
    let h = is_record (is_inside img l r c) (cell_of img (cell_place img l r c)) n e in
    let in-layers = both_true (ltb l (layers_of img)) _ h.0 in
    let in_rows = both_true (ltb r (rows_of img)) _ in-layers.1 in
    let hl = ltb-true l (layers_of img) in-layers.0 in
    let hr = ltb-true r (rows_of img) in_rows.0 in
    let hc = ltb-true c (columns_of img) in_rows.1 in
    (mixed (l * rows_of img + r) (layers_of img * rows_of img) c (columns_of img) (mixed l (layers_of img) r (rows_of img) hl hr) hc, h.1)

pub cell_named : (img : List ℕ) (l r c n : ℕ) → Sound img → cell_at img l r c ≡ Some n → n < records_of img
cell_named img l r c n s e =
    let h = cell_place_lem img l r c n e in
    omega (arith, h.1, s.cells (cell_place img l r c) h.0)

is_word : (t : Bool) (m n : ℕ) → cond t (Some m) None ≡ Some n → (t ≡ true) × (n ≡ m)
is_word true m n e = (refl, cc)
is_word false m n e = (cc, cc)

is_none : (t : Bool) (m : ℕ) → cond t (Some m) None ≡ None → t ≡ false
is_none true m e = cc
is_none false m e = refl

pub entry_is : (img : List ℕ) (e k : ℕ) → entry_at img e ≡ Some k → (e < entries_of img) × (k ≡ entry_of img e)
unfolding entry_at
entry_is img e k h =
    let p = is_word (ltb e (entries_of img)) (entry_of img e) k h in
    (ltb-true e (entries_of img) p.0, p.1)

pub entry_not : (img : List ℕ) (e : ℕ) → entry_at img e ≡ None → entries_of img ≤ e
unfolding entry_at
entry_not img e h = ltb-false e (entries_of img) (is_none (ltb e (entries_of img)) (entry_of img e) h)

-- every tree keeps the open rule, and weighs at most 64
pub settles : (img : List ℕ) (n : ℕ) → Sound img → opens_last (tree img n) ≡ true
unfolding opens_last meaning
settles img n s = go (dec_lt n (records_of img))
  where
    go : Dec (n < records_of img) → opens_last (tree img n) ≡ true
    go (yes l) = (s.records n l).settles
    go (no g) = ap opens_last (past_meant img n (past img n (omega arith))).is

pub light : (img : List ℕ) (n : ℕ) → Sound img → weight (tree img n) ≤ 64
unfolding weight meaning
light img n s = go (dec_lt n (records_of img))
  where
    go : Dec (n < records_of img) → weight (tree img n) ≤ 64
    go (yes l) = (s.records n l).light
    go (no g) = rw (past_meant img n (past img n (omega arith))).is (omega arith)

-- closed is the other of open
mutual
  unfolding open? closed

  pub open_closed : (a : Action) → closed a ≡ not (open? a)
  open_closed NoOp = refl
  open_closed Trans = refl
  open_closed (KeyCode k) = refl
  open_closed (MultipleKeyCodes ks) = refl
  open_closed (MultipleActions as') = open_closed_all as'
  open_closed (Layer k) = refl
  open_closed (DefaultLayer k) = refl
  open_closed (HoldTap n t h p) = refl

  open_closed_all : (as' : Actions) → closed_all as' ≡ not (some_open as')
  open_closed_all end = refl
  open_closed_all (a & as') = rw (open_closed a, open_closed_all as') (sym (not_or (open? a) (some_open as')))

-- what holds of n where it holds of every lower number holds of all
by_lower : (P : ℕ → Type 0) → ((n : ℕ) → ((k : ℕ) → k < n → P k) → P n) → (n : ℕ) → P n
by_lower P f n = f n (under n)
  where
    under : (m k : ℕ) → k < m → P k
    under zero k h = absurd (not-suc-le-zero h)
    under (suc m) k h = f k (λ j l. under m j (omega arith))

and_both : (a b : Bool) → a ≡ true → b ≡ true → (a && b) ≡ true
and_both a b e f = rw (e, f)

or_left : (a b : Bool) → a ≡ true → (a || b) ≡ true
or_left a b e = rw e

or_right : (a : Bool) → (a || true) ≡ true
or_right true = refl
or_right false = refl

-- a list of trees is proper where each is, and the open rule holds of the list
proper_named : (t : ℕ → Action) (n : ℕ) (m : Times) → ((k : ℕ) → k < n → longest (t k) ≤ m.first → proper (t k) m ≡ true) → (ks : List ℕ) → every (λ k. ltb k n) ks ≡ true → shut_but_last (named t ks) ≡ true → longest_of (named t ks) ≤ m.first → proper_all (named t ks) m ≡ true
unfolding named shut_but_last longest proper
proper_named t n m f [] l s w = refl
proper_named t n m f (k ∷ []) l s w =
    and_both ((closed (t k) || true) && proper (t k) m) true
    (and_both (closed (t k) || true) (proper (t k) m) (or_right (closed (t k))) (f k (ltb-true k n (every_head (λ k. ltb k n) k [] l).0) (omega arith)))
    refl
proper_named t n m f (k ∷ (j ∷ ks)) l s w =
    let low = every_head (λ k. ltb k n) k (j ∷ ks) l in
    let shut = both_true (not (open? (t k))) _ s in
    and_both ((closed (t k) || false) && proper (t k) m) (proper_all (t j & named t ks) m)
    (and_both (closed (t k) || false) (proper (t k) m) (or_left (closed (t k)) false (open_closed (t k) ∙ shut.0)) (f k (ltb-true k n low.0) (omega arith)))
    (proper_named t n m f (j ∷ ks) low.1 shut.1 (omega arith))

proper_means : (img : List ℕ) (n : ℕ) (m : Times) (x : Coded) → ((k : ℕ) → k < n → longest (tree img k) ≤ m.first → proper (tree img k) m ≡ true) → every (λ k. ltb k n) (children_in img x) ≡ true → opens_last (meaning img (tree img) n x) ≡ true → longest (meaning img (tree img) n x) ≤ m.first → proper (meaning img (tree img) n x) m ≡ true
unfolding meaning children_in opens_last longest proper holdable
proper_means img n m code.NoOp f l s w = refl
proper_means img n m code.Trans f l s w = refl
proper_means img n m (code.KeyCode k) f l s w = refl
proper_means img n m (code.MultipleKeyCodes a b) f l s w = refl
proper_means img n m (code.MultipleActions a b) f l s w = proper_named (tree img) n m f (entries img a b) l s w
proper_means img n m (code.Layer k) f l s w = refl
proper_means img n m (code.DefaultLayer k) f l s w = refl
proper_means img n m (code.HoldTap t h p) f l s w =
    let shut = both_true (not (open? (tree img h))) (not (open? (tree img p))) s in
    and_both (leb t m.first) (closed (tree img h) && closed (tree img p)) (le-leb t m.first (omega arith))
    (and_both (closed (tree img h)) (closed (tree img p)) (open_closed (tree img h) ∙ shut.0) (open_closed (tree img p) ∙ shut.1))

-- every tree is proper with times that its own do not pass
proper_tree : (img : List ℕ) (m : Times) → Sound img → (n : ℕ) → longest (tree img n) ≤ m.first → proper (tree img n) m ≡ true
proper_tree img m s =
    by_lower (λ n. longest (tree img n) ≤ m.first → proper (tree img n) m ≡ true) (λ n f w.
    let e = tells img n s refl refl in
    rw e.is (proper_means img n m (action_at img n) f e.lower (rw e.is at (settles img n s)) (rw e.is at w)))

longest_under : (f : ℕ → ℕ) (n k : ℕ) → k < n → f k ≤ longest_below f n
unfolding longest_below
longest_under f zero k h = absurd (not-suc-le-zero h)
longest_under f (suc n) k h = ⊎_elim (λ e. rw e (omega arith)) (λ l. omega (arith, longest_under f n k l)) (eq-or-lt_of_le (le_of_suc-le-suc h))

proper_in : (img : List ℕ) (x : Option ℕ) → Sound img → ((n : ℕ) → x ≡ Some n → longest (tree img n) ≤ (times_of img).first) → proper (tree_in img x) (times_of img) ≡ true
unfolding tree_in proper
proper_in img (Some n) s f = proper_tree img (times_of img) s n (f n refl)
proper_in img None s f = refl

longest_cell : (img : List ℕ) (l r c n : ℕ) → cell_at img l r c ≡ Some n → longest (tree img n) ≤ (times_of img).first
unfolding times_of
longest_cell img l r c n e =
    let h = cell_place_lem img l r c n e in
    rw h.1 (longest_under (λ i. longest (tree img (cell_of img i))) (cells_of img) (cell_place img l r c) h.0)

pub proper_table : (img : List ℕ) (l r c : ℕ) → Sound img → T (proper ((table_of img).cell l r c) (times_of img))
proper_table img l r c s = subst T (sym (proper_in img (cell_at img l r c) s (λ n e. longest_cell img l r c n e))) tt

-- the longest hold time of an image of bytes is a word
word_bound : (img : List ℕ) (at : ℕ) → ((i : ℕ) → get_or img i 0 < 256) → word_at img at ≤ 65535
unfolding word_at
word_bound img at b = omega (arith, b at, b (at + 1))

longest_named : (t : ℕ → Action) (n : ℕ) → ((k : ℕ) → k < n → longest (t k) ≤ 65535) → (ks : List ℕ) → every (λ k. ltb k n) ks ≡ true → longest_of (named t ks) ≤ 65535
unfolding named longest
longest_named t n f [] l = omega arith
longest_named t n f (k ∷ ks) l =
    let low = every_head (λ k. ltb k n) k ks l in
    omega (arith, f k (ltb-true k n low.0), longest_named t n f ks low.1)

-- each hold time is a record's word a
longest_record : (img : List ℕ) (n : ℕ) → ((i : ℕ) → get_or img i 0 < 256) → ((k : ℕ) → k < n → longest (tree img k) ≤ 65535) → every (λ k. ltb k n) (children_in img (action_at img n)) ≡ true → longest (meaning img (tree img) n (action_at img n)) ≤ 65535
unfolding action_at meaning children_in longest field_of
longest_record img n b f =
    let P : Coded → Type 0 = λ x. every (λ k. ltb k n) (children_in img x) ≡ true → longest (meaning img (tree img) n x) ≤ 65535 in
    let many = longest_named (tree img) n f in
    let held : (t h p : ℕ) → t ≤ 65535 → every (λ k. ltb k n) (h ∷ p ∷ []) ≡ true → max t (max (longest (tree img h)) (longest (tree img p))) ≤ 65535
    = λ t h p w l. let two = two_of (λ k. ltb k n) h p l in omega (arith, f h (ltb-true h n two.0), f p (ltb-true p n two.1)) in
    either P (ltb n (records_of img)) (record_of img n) code.NoOp
    (λ _. by_kind P _ _ _ _ (λ _ l. omega arith) (λ _ l. omega arith) (λ _ l. omega arith) (λ _ l. omega arith) (λ _ l. many _ l) (λ _ l. omega arith) (λ _ l. omega arith) (λ _ l. held _ _ _ (word_bound img _ b) l))
    (λ _ l. omega arith)

longest_word : (img : List ℕ) → Sound img → ((i : ℕ) → get_or img i 0 < 256) → (n : ℕ) → longest (tree img n) ≤ 65535
longest_word img s b = by_lower (λ n. longest (tree img n) ≤ 65535) (λ n f. let e = tells img n s refl refl in rw e.is (longest_record img n b f e.lower))

longest_all : (f : ℕ → ℕ) (w : ℕ) → ((k : ℕ) → f k ≤ w) → (n : ℕ) → longest_below f n ≤ w
unfolding longest_below
longest_all f w h zero = omega arith
longest_all f w h (suc n) = omega (arith, h n, longest_all f w h n)

pub times_word : (img : List ℕ) → Sound img → ((i : ℕ) → get_or img i 0 < 256) → (times_of img).first ≤ 65535
unfolding times_of
times_word img s b = longest_all (λ i. longest (tree img (cell_of img i))) 65535 (λ i. longest_word img s b (cell_of img i)) (cells_of img)
