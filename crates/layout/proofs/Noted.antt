-- Laws of notes: one step after another; and the notes of a call that acts on at most one event and makes at most two decisions
-- name them all. Assumes nothing.
use mathlib.Core.Path.{◌≡◌, refl, sym, ap, ◌∙◌}
use mathlib.Core.List.{List, [], ◌∷◌, ◌++◌}
use Prim.Native.Nat.{ℕ, zero, suc, ◌+◌, ◌≤◌}
use native.Mathlib.Omega.{arith}
use lib.ListN.{length}
use Rattle.event.specs.declared.Coord.{Coord}
use Rattle.event.specs.declared.Event.{Event}
use Rattle.layout.specs.Model.{Mark, Acted, Begun, Decided, Done, after}
use Rattle.layout.specs.Notes.{no_notes, note_acted, decision_at, note_decision, noted_marks, counted, note_dropped, noted, acted_on, acted_in, decisions, made_in}
use Rattle.layout.specs.declared.notes.Way.{Way}
use Rattle.layout.specs.declared.notes.Decision.{Decision}
use Rattle.std.specs.Prelude.{Option, Some, None}
use Rattle.layout.specs.declared.notes.Notes.{Notes}

-- a decision of a key
abbrev decided : Coord → Way → Decision
decided c way = record { coord = c; way = way }

noted_append : (n : Notes) (a b : List Mark) → noted_marks n (a ++ b) ≡ noted_marks (noted_marks n a) b
unfolding noted_marks
noted_append n [] b = refl
noted_append n (Acted e ∷ a) b = noted_append (note_acted n e) a b
noted_append n (Begun c ∷ a) b = noted_append n a b
noted_append n (Decided c w ∷ a) b = noted_append (note_decision n c w) a b

-- a count goes on from where it stands
counted_more : (k a b : ℕ) → counted k (a + b) ≡ counted (counted k a) b
counted_more k zero b =
    let e : 0 + b ≡ b = omega arith in
    ap (counted k) e
counted_more k (suc a) zero =
    let e : suc a + 0 ≡ suc a = omega arith in
    ap (counted k) e
counted_more k (suc a) (suc b) =
    let e : suc a + suc b ≡ suc (a + suc b) = omega arith in
    ap (counted k) e ∙ omega arith

decision_dropped : (made k : ℕ) (d : Option Decision) (n : Notes) → decision_at made d (note_dropped n k) ≡ note_dropped (decision_at made d n) k
decision_dropped zero k d n = refl
decision_dropped (suc zero) k d n = refl
decision_dropped (suc (suc made)) k d n = refl

-- what was dropped does not touch what marks are noted
marks_dropped : (ms : List Mark) (n : Notes) (k : ℕ) → noted_marks (note_dropped n k) ms ≡ note_dropped (noted_marks n ms) k
unfolding noted_marks
marks_dropped [] n k = refl
marks_dropped (Acted e ∷ ms) n k = marks_dropped ms (note_acted n e) k
marks_dropped (Begun c ∷ ms) n k = marks_dropped ms n k
marks_dropped (Decided c w ∷ ms) n k =
    ap (λ (x : Notes). noted_marks x ms) (decision_dropped n.made k (Some (decided c w)) n) ∙ marks_dropped ms (note_decision n c w) k

pub noted_after : (n : Notes) (r s : Done) → noted n (after r s) ≡ noted (noted n r) s
noted_after n r s =
    let mid = noted_marks n r.marks in
    let last = noted_marks mid s.marks in
    ap (λ (x : Notes). note_dropped x (r.dropped + s.dropped)) (noted_append n r.marks s.marks)
    ∙ ap (λ (k : ℕ). record { acted = last.acted; made = last.made; first = last.first; second = last.second; dropped = k }) (counted_more last.dropped r.dropped s.dropped)
    ∙ ap (λ (x : Notes). note_dropped x s.dropped) (sym (marks_dropped s.marks mid r.dropped))

pub acted_append : (a b : List Mark) → acted_on (a ++ b) ≡ acted_on a ++ acted_on b
unfolding acted_on
acted_append [] b = refl
acted_append (Acted e ∷ a) b = ap (λ (x : List Event). e ∷ x) (acted_append a b)
acted_append (Begun c ∷ a) b = acted_append a b
acted_append (Decided c w ∷ a) b = acted_append a b

pub decisions_append : (a b : List Mark) → decisions (a ++ b) ≡ decisions a ++ decisions b
unfolding decisions
decisions_append [] b = refl
decisions_append (Acted e ∷ a) b = decisions_append a b
decisions_append (Begun c ∷ a) b = decisions_append a b
decisions_append (Decided c w ∷ a) b = ap (λ (x : List (Coord × Way)). (c, w) ∷ x) (decisions_append a b)

-- a decision leaves the event that the notes name
decision_at_acted : (k : ℕ) (d : Option Decision) (n : Notes) → (decision_at k d n).acted ≡ n.acted
decision_at_acted zero d n = refl
decision_at_acted (suc zero) d n = refl
decision_at_acted (suc (suc k)) d n = refl

-- marks that name no event leave it too
noted_none : (ms : List Mark) (n : Notes) → length (acted_on ms) ≤ 0 → (noted_marks n ms).acted ≡ n.acted
unfolding noted_marks acted_on
noted_none [] n h = refl
noted_none (Acted e ∷ ms) n h = absurd (omega arith)
noted_none (Begun c ∷ ms) n h = noted_none ms n h
noted_none (Decided c w ∷ ms) n h = noted_none ms (note_decision n c w) h ∙ decision_at_acted n.made (Some (decided c w)) n

noted_one : (ms : List Mark) (n : Notes) → n.acted ≡ None → length (acted_on ms) ≤ 1 → acted_in (noted_marks n ms).acted ≡ acted_on ms
unfolding noted_marks acted_on
noted_one [] n e h = ap acted_in e
noted_one (Acted x ∷ ms) n e h = ap acted_in (noted_none ms (note_acted n x) (omega arith)) ∙ ap (λ (l : List Event). x ∷ l) (sym (empty (acted_on ms) (omega arith)))
  where
    empty : (l : List Event) → length l ≤ 0 → l ≡ []
    empty [] h = refl
    empty (y ∷ l) h = absurd (omega arith)
noted_one (Begun c ∷ ms) n e h = noted_one ms n e h
noted_one (Decided c w ∷ ms) n e h = noted_one ms (note_decision n c w) (decision_at_acted n.made (Some (decided c w)) n ∙ e) h

pub noted_acted : (ms : List Mark) → length (acted_on ms) ≤ 1 → acted_in (noted_marks no_notes ms).acted ≡ acted_on ms
noted_acted ms h = noted_one ms no_notes refl h

-- notes with room for the decisions that marks name take them all, each at its position
module _ (c : Coord) (v : Way) where
  two_made : (ms : List Mark) (a : Option Event) (d : Coord) (w : Way) (k : ℕ) → length (decisions ms) ≤ 0
      → made_in (noted_marks (record { acted = a; made = 2; first = Some (decided c v); second = Some (decided d w); dropped = k }) ms) ≡ (c, v) ∷ (d, w) ∷ decisions ms
  unfolding noted_marks decisions
  two_made [] a d w k h = refl
  two_made (Acted x ∷ ms) a d w k h = two_made ms (Some x) d w k h
  two_made (Begun x ∷ ms) a d w k h = two_made ms a d w k h
  two_made (Decided x u ∷ ms) a d w k h = absurd (omega arith)

  one_made : (ms : List Mark) (a : Option Event) (k : ℕ) → length (decisions ms) ≤ 1
      → made_in (noted_marks (record { acted = a; made = 1; first = Some (decided c v); second = None; dropped = k }) ms) ≡ (c, v) ∷ decisions ms
  unfolding noted_marks decisions
  one_made [] a k h = refl
  one_made (Acted x ∷ ms) a k h = one_made ms (Some x) k h
  one_made (Begun x ∷ ms) a k h = one_made ms a k h
  one_made (Decided d w ∷ ms) a k h = two_made ms a d w k (omega arith)

none_made : (ms : List Mark) (a : Option Event) (k : ℕ) → length (decisions ms) ≤ 2
    → made_in (noted_marks (record { acted = a; made = 0; first = None; second = None; dropped = k }) ms) ≡ decisions ms
unfolding noted_marks decisions
none_made [] a k h = refl
none_made (Acted x ∷ ms) a k h = none_made ms (Some x) k h
none_made (Begun x ∷ ms) a k h = none_made ms a k h
none_made (Decided c v ∷ ms) a k h = one_made c v ms a k (omega arith)

pub noted_all : (ms : List Mark) → length (decisions ms) ≤ 2 → made_in (noted_marks no_notes ms) ≡ decisions ms
noted_all ms h = none_made ms None 0 h
