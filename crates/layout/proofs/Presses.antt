-- Laws of a press: which action it runs, and what running it comes to; and of a release. Assumes nothing.
use mathlib.Core.Path.{◌≡◌, sym, ap, subst, ◌∙◌}
use mathlib.Core.List.{List}
use Prim.Native.Nat.{ℕ}
use Rattle.event.specs.declared.Coord.{Coord}
use Rattle.event.specs.declared.Event.{Event}
use Rattle.event.specs.declared.Event.TheVariants.{Release, Press}
use Rattle.image.specs.Words.{layers_of}
use Rattle.image.specs.Record.{cell_at}
use Rattle.image.specs.Tree.{Action, Trans, tree}
use Rattle.image.specs.Table.{table_of, tree_in}
use Rattle.std.specs.Prelude.{Option, Some, None}
use Rattle.layout.specs.Model.{Queued, Model, still, with_states}
use Rattle.layout.specs.Actions.{find, do_action}
use Rattle.layout.specs.Steps.{held, current, or_default, pressed, release, act}
use Rattle.layout.specs.Packed.{states_in, model_of}
use Rattle.layout.specs.Inside.{Did}
use Rattle.layout.specs.Notes.{note_acted}
use Rattle.layout.specs.declared.active.Active.{Active}
use Rattle.layout.specs.declared.notes.Notes.{Notes}
use Rattle.layout.specs.declared.progress.Progress.{Progress}
use Rattle.layout.proofs.Moves.{did_acted}

-- the cell of the current layer was looked up
module _ (img : List ℕ) (c : Coord) (l : Model) (k : ℕ) (cell : Option ℕ) (e : k ≡ current l.base (held l.states)) (f : cell ≡ cell_at img k c.i c.j) where
  found_there : or_default (tree_in img cell) (tree_in img (cell_at img l.base c.i c.j)) ≡ pressed (table_of img) c l
  unfolding pressed
  found_there = rw (f, e)

  -- outside the table a press does NoOp
  pub press_outside : cell ≡ None → tree_in img None ≡ pressed (table_of img) c l
  unfolding tree_in
  press_outside h = ap (λ (x : Option ℕ). or_default (tree_in img x) (tree_in img (cell_at img l.base c.i c.j))) (sym h) ∙ found_there

  -- Trans takes the default layer's cell
  pub press_trans : (n : ℕ) → cell ≡ Some n → tree img n ≡ Trans → tree_in img (cell_at img l.base c.i c.j) ≡ pressed (table_of img) c l
  unfolding tree_in
  press_trans n h t = ap (λ (x : Action). or_default x (tree_in img (cell_at img l.base c.i c.j))) (sym (ap (tree_in img) h ∙ t)) ∙ found_there

  -- another action is the press's own
  pub press_own : (n : ℕ) → cell ≡ Some n → or_default (tree img n) (tree_in img (cell_at img l.base c.i c.j)) ≡ tree img n → tree_in img (Some n) ≡ pressed (table_of img) c l
  unfolding tree_in
  press_own n h t = sym t ∙ ap (λ (x : Option ℕ). or_default (tree_in img x) (tree_in img (cell_at img l.base c.i c.j))) (sym h) ∙ found_there

-- a press is acted on: that is noted, and its action runs
module _ (img : List ℕ) (active : Active) (notes noting : Notes) (end : Progress) (q : List Queued) (event : Event) (i j age : ℕ) (en : noting ≡ note_acted notes event) where
  pub press_acts : (cell : Option ℕ) → event ≡ Press i j → tree_in img cell ≡ pressed (table_of img) (record { i = i; j = j }) (model_of img active q)
      → Did img noting end q (do_action (tree_in img cell) (layers_of img) (record { i = i; j = j }) age (find (record { i = i; j = j }) q) (model_of img active q))
      → Did img notes end q (act (table_of img) event age (model_of img active q))
  unfolding act
  press_acts cell ee there d =
      subst (λ (e : Event). Did img notes end q (act (table_of img) e age (model_of img active q))) (sym ee)
      (did_acted img notes noting end q (Press i j) _ (en ∙ ap (note_acted notes) ee) (rw (← there) d))

  -- a release: the states of its key are dropped
  pub release_acts : event ≡ Release i j → Did img noting end q (still (with_states (release (record { i = i; j = j }) (states_in active)) (model_of img active q)))
      → Did img notes end q (act (table_of img) event age (model_of img active q))
  unfolding act
  release_acts ee d =
      subst (λ (e : Event). Did img notes end q (act (table_of img) e age (model_of img active q))) (sym ee)
      (did_acted img notes noting end q (Release i j) _ (en ∙ ap (note_acted notes) ee) d)
