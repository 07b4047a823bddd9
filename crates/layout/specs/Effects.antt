-- What the private functions that run an action promise: how its effect, with what the states that it added hold, and the
-- layout that it stands for go together.
-- Assumes nothing.
use Rattle.std.specs.Prelude.{◌≡◌, Bool, true, false, List, ◌++◌, map, ℕ, ◌+◌, ◌≤◌, ltb, length, take}
use Rattle.lists.specs.Lists.{every}
use Rattle.codes.specs.Codes.{legal}
use Rattle.event.specs.declared.Coord.{Coord}
use Rattle.image.specs.Words.{entries, entries_of, layers_of}
use Rattle.image.specs.Tree.{tree}
use Rattle.layout.specs.Model.{Queued, Model, Done}
use Rattle.layout.specs.Actions.{push, push_codes, do_action, decided}
use Rattle.layout.specs.Packed.{states_in, waiting_of, hold_of, tap_of}
use Rattle.layout.specs.Notes.{noted}
use Rattle.layout.specs.declared.active.State.{State}
use Rattle.layout.specs.declared.active.State.TheVariants.{NormalKey, LayerModifier}
use Rattle.layout.specs.declared.active.Active.{Active}
use Rattle.layout.specs.declared.notes.Notes.{Notes}
use Rattle.layout.specs.declared.notes.Way.{Way}
use Rattle.layout.specs.declared.effect.Holds.{Holds}
use Rattle.layout.specs.declared.effect.Holds.TheVariants.{Code, Layer}
use Rattle.layout.specs.declared.effect.Effect.{Effect}
use Rattle.layout.specs.declared.progress.Progress.{Progress}
use Rattle.layout.specs.declared.action.Setting.{Setting}

-- the state that holds a code or a layer, at the coordinates c
unfoldable pub state_of : Coord → Holds → State
state_of c (Code code) = NormalKey code c
state_of c (Layer value) = LayerModifier value c

-- before an action runs
pub record Begun (active : Active) (notes : Notes) (effect : Effect) : Type 0 where
  pub base : effect.default_layer ≡ active.default_layer
  pub held : effect.held ≡ active.len
  pub none : effect.added ≡ 0
  pub waiting : effect.waiting ≡ active.waiting
  pub noted : effect.notes ≡ notes

-- the layout that an effect stands for, where s are the states held before, and q is the queue
abbrev pub effect_in : List ℕ → Coord → Effect → List State → List Queued → Model
effect_in img c effect s q =
    record { base = effect.default_layer; states = s ++ map (state_of c) (take effect.added effect.holds); waiting = waiting_of img effect.waiting; queue = q }

-- one effect comes from another by a step, whatever states were held and whatever is queued
pub record Effected (img : List ℕ) (c : Coord) (start end : Effect) (step : Model → Done) : Type 0 where
  pub held : end.held ≡ start.held
  pub is : (s : List State) → length s ≡ start.held → (q : List Queued) → effect_in img c end s q ≡ (step (effect_in img c start s q)).layout
  pub notes : (s : List State) → length s ≡ start.held → (q : List Queued) → end.notes ≡ noted start.notes (step (effect_in img c start s q))

-- what a call has come to, with what an effect left
pub record Grown (active : Active) (effect : Effect) (c : Coord) (end : Progress) : Type 0 where
  pub base : end.active.default_layer ≡ effect.default_layer
  pub states : states_in end.active ≡ states_in active ++ map (state_of c) (take effect.added effect.holds)
  pub waiting : end.active.waiting ≡ effect.waiting
  pub notes : end.notes ≡ effect.notes

-- one state is pushed; and a step that adds no state
abbrev pub Pushes : Effect → Effect → (Coord → State) → Type 0
Pushes start end state = (img : List ℕ) (c : Coord) → Effected img c start end (push (state c))

abbrev pub Leaves : Effect → Effect → (List ℕ → Model → Done) → Type 0
Leaves start end step = (img : List ℕ) (c : Coord) → Effected img c start end (step img)

-- a state is added where there is room, and whether it was kept; where it was not, nothing is changed
pub record Added (start end : Effect) (holds : Holds) (kept : Bool) : Type 0 where
  pub told : kept ≡ ltb (start.held + start.added) 64
  pub yes : kept ≡ true → Pushes start end (λ c. state_of c holds)
  pub no : kept ≡ false → end ≡ start

-- legal codes that the list has; and pushed, one after the other
abbrev pub Listed : List ℕ → ℕ → ℕ → Type 0
Listed img first count = (every legal (entries img first count) ≡ true) × (first + count ≤ entries_of img)

abbrev pub CodesPushed : List ℕ → ℕ → ℕ → Effect → Effect → Type 0
CodesPushed img first count start end = (c : Coord) → Effected img c start end (push_codes (entries img first count) c)

-- record n has run, and the HoldTap of record n is decided, in a setting
abbrev pub ActionRan : List ℕ → ℕ → Setting → Effect → Effect → Type 0
ActionRan img n s start end = Effected img s.coord start end (do_action (tree img n) (layers_of img) s.coord s.delay s.found)

abbrev pub Settled : List ℕ → ℕ → Setting → Way → Effect → Effect → Type 0
Settled img n s way start end =
    Effected img s.coord start end (decided way (hold_of (tree img n)) (tap_of (tree img n)) (layers_of img) s.coord s.found)
