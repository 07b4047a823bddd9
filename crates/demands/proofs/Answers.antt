-- The answers of a run name just the events acted on and the decisions made. Document 01, Layout, its last paragraph.
-- Assumes nothing.
use Prim.Native.Nat.{ℕ}
use mathlib.Core.Path.{◌≡◌, refl, ap₂, sym, ◌∙◌}
use mathlib.Core.List.{List, [], ◌∷◌, ◌++◌}
use Rattle.layout.specs.Notes.{acted_on, decisions}
use Rattle.layout.specs.declared.layout.Layout.{Layout}
use Rattle.layout.proofs.Noted.{acted_append, decisions_append}
use Rattle.demands.specs.Answers.{named_events, named_decisions}
use Rattle.demands.specs.Public.{Lent, did_by, reply, replies, marks_of, notes_of}
use Rattle.demands.specs.Limits.{Names, OfCalls}
use Rattle.demands.proofs.Limits.{of_calls}

module _ (image : List ℕ) where
  names : (k : Lent) (layout : Layout) → Names (did_by image k.call layout k.buffer) (reply image k.call layout k.buffer)
  unfolding OfCalls
  names k layout = (of_calls image k.call layout k.buffer).1

  pub names_events : (ks : List Lent) (layout : Layout) → named_events (notes_of (replies image ks layout)) ≡ acted_on (marks_of image ks layout)
  unfolding named_events replies marks_of acted_on
  names_events [] layout = refl
  names_events (k ∷ ks) layout =
      let next = (reply image k.call layout k.buffer).layout in
      ap₂ ◌++◌ (names k layout).acted (names_events ks next) ∙ sym (acted_append (did_by image k.call layout k.buffer) (marks_of image ks next))

  pub names_decisions : (ks : List Lent) (layout : Layout) → named_decisions (notes_of (replies image ks layout)) ≡ decisions (marks_of image ks layout)
  unfolding named_decisions replies marks_of decisions
  names_decisions [] layout = refl
  names_decisions (k ∷ ks) layout =
      let next = (reply image k.call layout k.buffer).layout in
      ap₂ ◌++◌ (names k layout).decided (names_decisions ks next) ∙ sym (decisions_append (did_by image k.call layout k.buffer) (marks_of image ks next))
