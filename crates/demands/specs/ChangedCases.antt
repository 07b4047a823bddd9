-- Cases of document 02, W-203, computed as those of specs/Bench.antt are: two images and the length of the buffer go in; the
-- number, the place, the count of changed cells and the whole buffer come out. And that specs/Unchanged.antt says something: two
-- images of other bytes meet what it asks for (`asked` is its NoneChanged), and a layout keeps other numbers over them
-- (`other_number`).
-- Assumes nothing.
use Rattle.std.specs.Prelude.{ℕ, ◌+◌, ◌*◌, ◌-◌, ◌/◌, ◌≡◌, length, take, replicate}
use mathlib.Core.List.{List, [], ◌∷◌, ◌++◌, flatten}
use Rattle.event.specs.declared.Coord.{Coord}
use Rattle.event.specs.declared.Event.TheVariants.{Press}
use Rattle.refusal.specs.Said.{said}
use Rattle.table_changes.specs.Changes.{compare_reply}
use Rattle.std.specs.Prelude.{Ok, Option}
use Rattle.layout.specs.Model.{fresh}
use Rattle.layout.specs.Packed.{waits_at}
use Rattle.layout.specs.Reach.{waits_in}
use Rattle.layout.specs.declared.active.WaitingState.{WaitingState}
use Rattle.demands.specs.Runs.{Tick, Enter}
use Rattle.demands.specs.Public.{lent_all, after_calls}
use Rattle.demands.specs.Z.{z_of, z, lent}

-- words below 256, low byte first
unfoldable pub bytes : List ℕ → List ℕ
bytes [] = []
bytes (word ∷ words) = word ∷ 0 ∷ bytes words

-- the image of a table of so many layers, rows and columns: the record of each cell, the records, and the list
unfoldable pub image_of : ℕ → ℕ → ℕ → List ℕ → List (List ℕ) → List ℕ → List ℕ
image_of layers rows columns cells records entries =
    let records_start = 16 + 2 * length cells in
    let list_start = records_start + 8 * length records in
    bytes
    (1 ∷ layers ∷ rows ∷ columns ∷ length records ∷ length entries ∷ records_start ∷ list_start ∷ cells ++ (flatten records ++ entries))

-- the records, by kind
abbrev pub no_op : List ℕ
no_op = 0 ∷ 0 ∷ 0 ∷ 0 ∷ []

abbrev pub trans : List ℕ
trans = 1 ∷ 0 ∷ 0 ∷ 0 ∷ []

abbrev pub key_code : ℕ → List ℕ
key_code code = 2 ∷ code ∷ 0 ∷ 0 ∷ []

abbrev pub multiple_key_codes : ℕ → ℕ → List ℕ
multiple_key_codes first count = 3 ∷ first ∷ count ∷ 0 ∷ []

abbrev pub multiple_actions : ℕ → ℕ → List ℕ
multiple_actions first count = 4 ∷ first ∷ count ∷ 0 ∷ []

abbrev pub layer : ℕ → List ℕ
layer number = 5 ∷ number ∷ 0 ∷ 0 ∷ []

abbrev pub default_layer : ℕ → List ℕ
default_layer number = 6 ∷ number ∷ 0 ∷ 0 ∷ []

abbrev pub hold_tap : ℕ → ℕ → ℕ → List ℕ
hold_tap timeout hold tap = 7 ∷ timeout ∷ hold ∷ tap ∷ []

-- a table of one key, which has the last of these records
abbrev pub one_key : List (List ℕ) → List ℕ → List ℕ
one_key records entries = image_of 1 1 1 ((length records - 1) ∷ []) records entries

-- of one record with no list; and of a MultipleKeyCodes that starts so and counts so many, with this list
abbrev pub key : List ℕ → List ℕ
key action = one_key (action ∷ []) []

abbrev pub codes_key : ℕ → ℕ → List ℕ → List ℕ
codes_key first count codes = one_key (multiple_key_codes first count ∷ []) codes

-- Z: a HoldTap of E0 and 2C, and 2C alone; nothing reaches its first record. Here without that record, and the two codes in
-- the other order; with another unreached record; and with hold and tap exchanged
unfoldable pub z_renumbered : List ℕ
z_renumbered = image_of 1 1 2 (2 ∷ 1 ∷ []) (key_code 0xE0 ∷ key_code 0x2C ∷ hold_tap 3 0 1 ∷ []) []

unfoldable pub z_unreached : List ℕ
z_unreached = image_of 1 1 2 (3 ∷ 1 ∷ []) (key_code 0x04 ∷ key_code 0x2C ∷ key_code 0xE0 ∷ hold_tap 3 2 1 ∷ []) []

unfoldable pub z_exchanged : List ℕ
z_exchanged = image_of 1 1 2 (3 ∷ 1 ∷ []) (no_op ∷ key_code 0x2C ∷ key_code 0xE0 ∷ hold_tap 3 1 2 ∷ []) []

-- Z's keys in one column of two rows, and three of them in a row
unfoldable pub z_upright : List ℕ
z_upright = image_of 1 2 1 (3 ∷ 1 ∷ []) (no_op ∷ key_code 0x2C ∷ key_code 0xE0 ∷ hold_tap 3 2 1 ∷ []) []

unfoldable pub z_wider : List ℕ
z_wider = image_of 1 1 3 (3 ∷ 1 ∷ 1 ∷ []) (no_op ∷ key_code 0x2C ∷ key_code 0xE0 ∷ hold_tap 3 2 1 ∷ []) []

-- two layers of two rows and three columns, with NoOp and 04 at these cells
unfoldable pub twelve : List ℕ → List ℕ
twelve cells = image_of 2 2 3 cells (no_op ∷ key_code 0x04 ∷ []) []

-- the answer: number, place, count of cells, and the whole buffer, in which every byte was FF
pub record Answer : Type 0 where
  pub number : ℕ
  pub place : ℕ
  pub count : ℕ
  pub buffer : List ℕ

unfoldable pub compared : List ℕ → List ℕ → ℕ → Answer
compared first second room =
    let r = compare_reply first second (replicate room 0xFF) in
    let s = said 0 r.compared in
    record { number = s.number; place = s.place; count = s.values; buffer = r.buffer }

-- these bytes are listed, three a cell, and so many more are as they were; or it is refused, and all are
abbrev pub listed : List ℕ → ℕ → Answer
listed cells others = record { number = 0; place = 0; count = length cells / 3; buffer = cells ++ replicate others 0xFF }

abbrev pub refused : ℕ → ℕ → ℕ → Answer
refused number place room = record { number = number; place = place; count = 0; buffer = replicate room 0xFF }

-- of tables of one key: it is not listed, or it is
abbrev pub key_same : Answer
key_same = listed [] 3

abbrev pub key_listed : Answer
key_listed = listed (0 ∷ 0 ∷ 0 ∷ []) 0

-- what waits after a press of Z's HoldTap and a tick
unfoldable pub waits_over : List ℕ → Option WaitingState
waits_over image = waits_in (after_calls image fresh (lent_all lent (Enter (Press 0 0) ∷ Tick ∷ [])))

pub record Cases : Type 0 where
  -- other record numbers, a record fewer: no cell differs, though what waits is kept by another number
  pub renumbered : compared z z_renumbered 6 ≡ listed [] 6
  pub asked : (compare_reply z z_renumbered (replicate 6 0xFF)).compared ≡ Ok 0
  pub other_length : (length z ≡ 52) × (length z_renumbered ≡ 44)
  pub other_number :
      let c : Coord = record { i = 0; j = 0 } in
      (waits_over z ≡ waits_at c 2 3) × (waits_over z_renumbered ≡ waits_at c 2 2)
  -- of no action: a record and an entry that no cell reaches, where a list stands, and where an empty one would start
  pub unreached : compared z z_unreached 6 ≡ listed [] 6
  pub unreached_entry : compared (codes_key 0 1 (4 ∷ 5 ∷ [])) (codes_key 0 1 (4 ∷ 6 ∷ [])) 3 ≡ key_same
  pub moved_list : compared (codes_key 0 2 (4 ∷ 5 ∷ [])) (codes_key 1 2 (6 ∷ 4 ∷ 5 ∷ [])) 3 ≡ key_same
  pub empty_list : compared (codes_key 0 0 (4 ∷ [])) (codes_key 1 0 (4 ∷ [])) 3 ≡ key_same
  -- a timeout; hold and tap exchanged; the cell alone is listed whose action it is
  pub timeout : compared z (z_of 4) 6 ≡ listed (0 ∷ 0 ∷ 0 ∷ []) 3
  pub exchanged : compared z z_exchanged 6 ≡ listed (0 ∷ 0 ∷ 0 ∷ []) 3
  -- the last entry of a list, of codes and of actions; a timeout two records down
  pub last_code : compared (codes_key 0 2 (4 ∷ 5 ∷ [])) (codes_key 0 2 (4 ∷ 6 ∷ [])) 3 ≡ key_listed
  pub last_action :
      let records = key_code 4 ∷ key_code 5 ∷ multiple_actions 0 2 ∷ [] in
      compared (one_key records (0 ∷ 1 ∷ [])) (one_key records (0 ∷ 0 ∷ [])) 3 ≡ key_listed
  pub deeper :
      let records : ℕ → List (List ℕ) = λ timeout. key_code 4 ∷ hold_tap timeout 0 0 ∷ multiple_actions 0 1 ∷ multiple_actions 1 1 ∷ [] in
      compared (one_key (records 5) (1 ∷ 2 ∷ [])) (one_key (records 6) (1 ∷ 2 ∷ [])) 3 ≡ key_listed
  -- a list with an entry more, and with one fewer
  pub longer : compared (codes_key 0 1 (4 ∷ 5 ∷ [])) (codes_key 0 2 (4 ∷ 5 ∷ [])) 3 ≡ key_listed
  pub shorter : compared (codes_key 0 2 (4 ∷ 5 ∷ [])) (codes_key 0 1 (4 ∷ 5 ∷ [])) 3 ≡ key_listed
  -- layers past the table; a layer that is held and one that is set
  pub layers : compared (key (layer 9)) (key (layer 10)) 3 ≡ key_listed
  pub layer_set : compared (key (layer 0)) (key (default_layer 0)) 3 ≡ key_listed
  -- trees that are not the same, though here a press of them does the same
  pub one_code : compared (key (key_code 4)) (codes_key 0 1 (4 ∷ [])) 3 ≡ key_listed
  pub alone : compared (key (key_code 4)) (one_key (key_code 4 ∷ multiple_actions 0 1 ∷ []) (0 ∷ [])) 3 ≡ key_listed
  pub both_empty : compared (key (multiple_key_codes 0 0)) (key (multiple_actions 0 0)) 3 ≡ key_listed
  pub transparent : compared (key trans) (key no_op) 3 ≡ key_listed
  -- code 0 is a code
  pub code_zero : compared (key (key_code 0)) (key no_op) 3 ≡ key_listed
  -- by layer, row and column: on the first layer the last of the first row and the middle of the second; on the second layer the
  -- first of the second row
  pub order :
      compared (twelve (replicate 12 0)) (twelve (0 ∷ 0 ∷ 1 ∷ 0 ∷ 1 ∷ 0 ∷ 0 ∷ 0 ∷ 0 ∷ 1 ∷ 0 ∷ 0 ∷ [])) 36
      ≡ listed (0 ∷ 0 ∷ 2 ∷ 0 ∷ 1 ∷ 1 ∷ 1 ∷ 1 ∷ 0 ∷ []) 27
  -- 16 Shape: another C; R and C exchanged
  pub wider : compared z z_wider 9 ≡ refused 16 0 9
  pub upright : compared z z_upright 6 ≡ refused 16 0 6
  -- an image's own refusal comes before it, and the first image's before the second's: 3 Length, 1 Short
  pub second_cut : compared z (take 53 z_wider) 9 ≡ refused 3 0 9
  pub both_cut : compared (take 51 z) (take 15 z) 6 ≡ refused 3 0 6
  pub both_cut_back : compared (take 15 z) (take 51 z) 6 ≡ refused 1 0 6
  -- with its own place: record 1 of the second names itself, 7 Child
  pub second_child : compared z (image_of 1 1 2 (1 ∷ 0 ∷ []) (key_code 0x2C ∷ hold_tap 3 0 1 ∷ []) []) 6 ≡ refused 7 1 6
  -- 12 Room for a byte under 3LRC, even where nothing is to be listed; 16 comes before it
  pub short : compared z (z_of 4) 5 ≡ refused 12 0 5
  pub short_for_none : compared z z 5 ≡ refused 12 0 5
  pub shape_first : compared z z_wider 0 ≡ refused 16 0 0
