-- Where no cell differs, every call is answered alike: the tables are equal without record numbers, each step leaves layouts that are,
-- and no answer tells a number of a record.
-- Assumes nothing.
use Rattle.refusal.specs.Verdict.{Verdict}
use Rattle.std.specs.Prelude.{Ok, Err}
use Prim.Native.Nat.{ℕ}
use mathlib.Core.Path.{◌≡◌, refl, ap, ap₂, sym, ◌∙◌}
use mathlib.Core.Bool.{Bool, true, false, ◌&&◌}
use mathlib.Core.List.{List, [], ◌∷◌, map}
use native.Mathlib.Omega.{arith}
use lib.Dec.{eqb}
use lib.ListN.{length, take}
use Rattle.lists.specs.Lists.{has, every}
use Rattle.image.specs.Words.{shape_of}
use Rattle.image.specs.Record.{cell_place, is_inside, cell_at}
use Rattle.image.specs.Check.{check_of}
use Rattle.image.specs.Table.{Table, tree_in, table_of}
use Rattle.image.specs.declared.words.Shape.{Shape}
use Rattle.table_changes.specs.Same.{unnumbered}
use Rattle.table_changes.specs.Changes.{changed}
use Rattle.table_changes.specs.Listed.{Listing, Listed}
use Rattle.table_changes.proofs.Verdicts.{Compares, compares}
use Rattle.table_changes.proofs.Listed.{listed}
use Rattle.layout.specs.Model.{Model, Done, fresh, still}
use Rattle.layout.specs.Packed.{pack}
use Rattle.layout.specs.Notes.{acted_in, made_in}
use Rattle.layout.specs.Reach.{FreshStarts}
use Rattle.layout.specs.Calls.{Reply, answer_of, layout_after, buffered, keycodes_reply}
use Rattle.refusal.specs.Said.{Said}
use Rattle.layout.specs.declared.answer.Answer.{Answer}
use Rattle.layout.specs.declared.layout.Layout.{Layout}
use Rattle.layout.proofs.Lawful.{Lawful}
use Rattle.layout.proofs.Reach.{fresh_starts, starts_lawful}
use Rattle.demands.specs.Runs.{Call, call}
use Rattle.demands.specs.Public.{Lent, replies, last_layout, NoneRefused}
use Rattle.demands.specs.Bench.{Says, says}
use Rattle.demands.specs.Unchanged.{answered, NoKeyChanges, NoCodesChange, SameAnswers}
use Rattle.demands.proofs.Replies.{room_for, reply_with, stays_lawful, replied_so, reply_so}
use Rattle.demands.proofs.Unnumbered.{bare, bare_done, bare_table, call_bare}

-- the lists of the layout after a verdict on a call whose step did so
abbrev model_after : Verdict → Done → Model → Model
model_after (Ok u) done l = done.layout
model_after (Err f) done l = l

layout_after_lem : (j : Verdict) (done : Done) (l : Model) → layout_after j done (pack l) ≡ pack (model_after j done l)
unfolding layout_after
layout_after_lem (Ok u) done l = refl
layout_after_lem (Err f) done l = refl

module _ (img : List ℕ) (shape : Shape) (e : check_of img ≡ Ok shape) where
  next_lawful : (j : Verdict) (k : Call) (l : Model) → Lawful img l → Lawful img (model_after j (call (table_of img) k l) l)
  next_lawful (Ok u) k l w = stays_lawful img shape e k l w
  next_lawful (Err f) k l w = w

-- an answer tells no record number, nor does a buffer hold one
bare_answer : (j : Verdict) (done : Done) (was lay : Layout) (buffer : List ℕ) → answered (reply_with j done was buffer) ≡ answered (reply_with j (bare_done done) lay buffer)
unfolding answer_of buffered
bare_answer (Ok u) done was lay buffer = refl
bare_answer (Err f) done was lay buffer = refl

same_answer : (j : Verdict) (x y : Done) (was lay : Layout) (buffer : List ℕ) → bare_done x ≡ bare_done y → answered (reply_with j x was buffer) ≡ answered (reply_with j y lay buffer)
same_answer j x y was lay buffer e =
    bare_answer j x was was buffer ∙ ap (λ (done : Done). answered (reply_with j done was buffer)) e ∙ sym (bare_answer j y lay was buffer)

same_after : (j : Verdict) (x y : Done) (l m : Model) → bare_done x ≡ bare_done y → bare l ≡ bare m → bare (model_after j x l) ≡ bare (model_after j y m)
same_after (Ok u) x y l m e k = ap (λ (done : Done). done.layout) e
same_after (Err f) x y l m e k = k

-- calls, and `keycodes` after them, are answered alike
abbrev keycodes_after : List ℕ → List Lent → Layout → List ℕ → Said Answer × List ℕ
keycodes_after image ks layout buffer = answered (keycodes_reply image (last_layout layout (replies image ks layout)) buffer)

abbrev AnswerAlike : List ℕ → List ℕ → List Lent → Layout → Layout → Type 0
AnswerAlike first second ks one other =
    (map answered (replies first ks one) ≡ map answered (replies second ks other))
    × ((buffer : List ℕ) → keycodes_after first ks one buffer ≡ keycodes_after second ks other buffer)

-- a list that counts none has none
none_in : (i : ℕ) (cells : List ℕ) → length cells ≡ 0 → has i cells ≡ false
none_in i [] e = refl
none_in i (cell ∷ cells) e = absurd (omega arith)

module _ (first second : List ℕ) (c : Compares first second 0) (listing : Listing first second) where
  -- inside the table no cell is listed, and outside it both do nothing
  cells_same : (layer row column : ℕ) → unnumbered ((table_of first).cell layer row column) ≡ unnumbered ((table_of second).cell layer row column)
  unfolding tree_in cell_at
  cells_same layer row column = go (is_inside first layer row column) refl
    where
      inside : is_inside first layer row column ≡ is_inside second layer row column
      inside = rw (c.layers, c.rows, c.columns)

      go : (t : Bool) → is_inside first layer row column ≡ t → unnumbered ((table_of first).cell layer row column) ≡ unnumbered ((table_of second).cell layer row column)
      go true t =
          let i = cell_place first layer row column in
          listing.whole layer row column i (record { inside = t; number = refl }) (none_in i (changed first second) c.count)
      go false t = rw (t, sym inside ∙ t)

  tables : bare_table (table_of first) ≡ bare_table (table_of second)
  tables = λ i. record { layers = c.layers i; rows = c.rows i; columns = c.columns i; cell = λ layer row column. cells_same layer row column i }

  steps : (k : Call) (l m : Model) → bare l ≡ bare m → bare_done (call (table_of first) k l) ≡ bare_done (call (table_of second) k m)
  steps k l m e =
      sym (call_bare (table_of first) k l)
      ∙ ap₂ (λ (T : Table) (x : Model). call T k x) tables e
      ∙ call_bare (table_of second) k m

  runs : (ks : List Lent) (l m : Model) → Lawful first l → Lawful second m → bare l ≡ bare m → AnswerAlike first second ks (pack l) (pack m)
  unfolding replies last_layout
  runs [] l m w v e = (
    refl,
    λ buffer.
        ap answered (replied_so first (shape_of first) c.first_good still l buffer w)
        ∙ same_answer (room_for buffer) (still l) (still m) (pack l) (pack m) buffer (ap still e)
        ∙ sym (ap answered (replied_so second (shape_of second) c.second_good still m buffer v)),
  )
  runs (k ∷ ks) l m w v e =
      let j = room_for k.buffer in
      let x = call (table_of first) k.call l in
      let y = call (table_of second) k.call m in
      let both = steps k.call l m e in
      let here = reply_so first (shape_of first) c.first_good k.call l k.buffer w in
      let there = reply_so second (shape_of second) c.second_good k.call m k.buffer v in
      let next = ap (λ (r : Reply). r.layout) here ∙ layout_after_lem j x l in
      let next' = ap (λ (r : Reply). r.layout) there ∙ layout_after_lem j y m in
      let w' = next_lawful first (shape_of first) c.first_good j k.call l w in
      let v' = next_lawful second (shape_of second) c.second_good j k.call m v in
      let rest = runs ks (model_after j x l) (model_after j y m) w' v' (same_after j x y l m both e) in (
        ap₂ ◌∷◌
            (ap answered here ∙ same_answer j x y (pack l) (pack m) k.buffer both ∙ sym (ap answered there))
            (ap (λ (lay : Layout). map answered (replies first ks lay)) next
            ∙ rest.0
            ∙ sym (ap (λ (lay : Layout). map answered (replies second ks lay)) next')),
        λ buffer.
            ap (λ (lay : Layout). keycodes_after first ks lay buffer) next
            ∙ rest.1 buffer
            ∙ sym (ap (λ (lay : Layout). keycodes_after second ks lay buffer) next'),
      )

  fresh_runs : (ks : List Lent) → AnswerAlike first second ks (pack fresh) (pack fresh)
  unfolding FreshStarts
  fresh_runs ks =
      runs ks fresh fresh
      (starts_lawful first fresh (fresh_starts first (shape_of first) c.first_good))
      (starts_lawful second fresh (fresh_starts second (shape_of second) c.second_good))
      refl

pub no_key_changes : NoKeyChanges
unfolding NoKeyChanges Listed
no_key_changes first second out e calls = (fresh_runs first second (compares first second out 0 e) (listed first second out 0 e) calls).0

pub no_codes_change : NoCodesChange
unfolding NoCodesChange Listed
no_codes_change first second out e calls buffer = (fresh_runs first second (compares first second out 0 e) (listed first second out 0 e) calls).1 buffer

-- what an answer says, and that it is no refusal, is in what was handed back beside the layout
abbrev says_of : Said Answer × List ℕ → Says
says_of (told, buffer) =
    record {
      number = told.number;
      place = told.place;
      codes = take told.values.codes buffer;
      acted = acted_in told.values.notes.acted;
      decided = made_in told.values.notes;
      dropped = told.values.notes.dropped;
    }

says_all : (rs : List Reply) → map says rs ≡ map says_of (map answered rs)
unfolding says
says_all [] = refl
says_all (r ∷ rs) = ap (λ (x : List Says). says r ∷ x) (says_all rs)

refused_none : (rs : List Reply) → every (λ (r : Reply). eqb r.told.number 0) rs ≡ every (λ (a : Said Answer × List ℕ). eqb a.0.number 0) (map answered rs)
refused_none [] = refl
refused_none (r ∷ rs) = ap (λ (t : Bool). eqb r.told.number 0 && t) (refused_none rs)

pub same_answers : SameAnswers
unfolding SameAnswers NoneRefused Listed
same_answers first second out e calls none =
    let all = (fresh_runs first second (compares first second out 0 e) (listed first second out 0 e) calls).0 in
    let one = replies first calls (pack fresh) in
    let other = replies second calls (pack fresh) in (
      refused_none other ∙ ap (every (λ (a : Said Answer × List ℕ). eqb a.0.number 0)) (sym all) ∙ sym (refused_none one) ∙ none,
      says_all one ∙ ap (map says_of) all ∙ sym (says_all other),
    )
