-- What a record says: document 01, "The table image", the table of kinds. And what the lookups answer.
-- Assumes nothing.
use Rattle.std.specs.Prelude.{ℕ, ◌+◌, ◌*◌, List, [], ◌∷◌, Bool, cond, ◌&&◌, eqb, ltb, Option, Some, None}
use Rattle.image.specs.Words.{layers_of, rows_of, columns_of, records_of, entries_of, cell_of, field_of, entry_of, entries}
use Rattle.image.specs.declared.record.Action.{Action}
use Rattle.image.specs.declared.record.Action.TheVariants.{NoOp, Trans, KeyCode, MultipleKeyCodes, MultipleActions, Layer, DefaultLayer, HoldTap}

-- the action of a kind with the words a, b, c; a kind above 7 is none
unfoldable pub action_of : ℕ → ℕ → ℕ → ℕ → Action
action_of kind a b c =
    cond (eqb kind 1) Trans
    (cond (eqb kind 2) (KeyCode a)
    (cond (eqb kind 3) (MultipleKeyCodes a b)
    (cond (eqb kind 4) (MultipleActions a b)
    (cond (eqb kind 5) (Layer a)
    (cond (eqb kind 6) (DefaultLayer a)
    (cond (eqb kind 7) (HoldTap a b c) NoOp))))))

-- record n by its four words
abbrev pub record_of : List ℕ → ℕ → Action
record_of img n = action_of (field_of img n 0) (field_of img n 2) (field_of img n 4) (field_of img n 6)

-- the action of record n; past the last record it is NoOp
unfoldable pub action_at : List ℕ → ℕ → Action
action_at img n = cond (ltb n (records_of img)) (record_of img n) NoOp

-- the codes in a record
unfoldable pub codes_in : List ℕ → Action → List ℕ
codes_in img NoOp = []
codes_in img Trans = []
codes_in img (KeyCode code) = code ∷ []
codes_in img (MultipleKeyCodes first count) = entries img first count
codes_in img (MultipleActions first count) = []
codes_in img (Layer number) = []
codes_in img (DefaultLayer number) = []
codes_in img (HoldTap timeout hold tap) = []

-- the records that a record names
unfoldable pub children_in : List ℕ → Action → List ℕ
children_in img NoOp = []
children_in img Trans = []
children_in img (KeyCode code) = []
children_in img (MultipleKeyCodes first count) = []
children_in img (MultipleActions first count) = entries img first count
children_in img (Layer number) = []
children_in img (DefaultLayer number) = []
children_in img (HoldTap timeout hold tap) = hold ∷ tap ∷ []

-- where the entries of a record end in the list
unfoldable pub list_end : Action → ℕ
list_end NoOp = 0
list_end Trans = 0
list_end (KeyCode code) = 0
list_end (MultipleKeyCodes first count) = first + count
list_end (MultipleActions first count) = first + count
list_end (Layer number) = 0
list_end (DefaultLayer number) = 0
list_end (HoldTap timeout hold tap) = 0

-- the record that a cell names, by layer, row and column; outside the table there is none
abbrev pub cell_place : List ℕ → ℕ → ℕ → ℕ → ℕ
cell_place img layer row column = (layer * rows_of img + row) * columns_of img + column

abbrev pub is_inside : List ℕ → ℕ → ℕ → ℕ → Bool
is_inside img layer row column = ltb layer (layers_of img) && (ltb row (rows_of img) && ltb column (columns_of img))

unfoldable pub cell_at : List ℕ → ℕ → ℕ → ℕ → Option ℕ
cell_at img layer row column =
    cond (is_inside img layer row column) (Some (cell_of img (cell_place img layer row column))) None

-- an entry of the list; past its end there is none
unfoldable pub entry_at : List ℕ → ℕ → Option ℕ
entry_at img e = cond (ltb e (entries_of img)) (Some (entry_of img e)) None

-- what an action holds, case by case: the number of its kind, and its words a, b, c, zero where unused
pub record RecordWords : Type 0 where
  pub kind : ℕ
  pub a : ℕ
  pub b : ℕ
  pub c : ℕ

abbrev pub action_words : Action → RecordWords
action_words NoOp = record { kind = 0; a = 0; b = 0; c = 0 }
action_words Trans = record { kind = 1; a = 0; b = 0; c = 0 }
action_words (KeyCode code) = record { kind = 2; a = code; b = 0; c = 0 }
action_words (MultipleKeyCodes first count) = record { kind = 3; a = first; b = count; c = 0 }
action_words (MultipleActions first count) = record { kind = 4; a = first; b = count; c = 0 }
action_words (Layer number) = record { kind = 5; a = number; b = 0; c = 0 }
action_words (DefaultLayer number) = record { kind = 6; a = number; b = 0; c = 0 }
action_words (HoldTap timeout hold tap) = record { kind = 7; a = timeout; b = hold; c = tap }

-- the values of a lookup: the number of the record that a cell names, or the word of an entry; or none
abbrev pub cell_value : Option ℕ → List ℕ
cell_value (Some n) = n ∷ []
cell_value None = []

abbrev pub entry_value : Option ℕ → List ℕ
entry_value = cell_value
