-- The facts of an accepted table's actions on which the whole runs of a layout rest: what is not open, and that every
-- HoldTap in a tree keeps the open rule of document 01, "The table image", and no hold time passes the longest.
-- Assumes nothing.
use Rattle.std.specs.Prelude.{ℕ, Bool, true, false, ◌&&◌, ◌||◌, leb}
use Rattle.image.specs.Tree.{Action, Actions, NoOp, Trans, KeyCode, MultipleKeyCodes, MultipleActions, Layer, DefaultLayer, HoldTap, end, ◌&◌}

-- not open: `open_closed` of proofs/Accepted.antt says that it is the other of `open?`
unfoldable mutual
  pub closed : Action → Bool
  closed NoOp = true
  closed Trans = true
  closed (KeyCode code) = true
  closed (MultipleKeyCodes codes) = true
  closed (MultipleActions actions) = closed_all actions
  closed (Layer number) = true
  closed (DefaultLayer number) = true
  closed (HoldTap n timeout hold tap) = false

  pub closed_all : Actions → Bool
  closed_all end = true
  closed_all (action & actions) = closed action && closed_all actions

-- the longest hold times of a table
pub record Times : Type 0 where
  pub first : ℕ

-- what may be a hold
unfoldable pub holdable : Action → Times → Bool
holdable action times = closed action

abbrev pub is_end : Actions → Bool
is_end end = true
is_end (action & actions) = false

-- everywhere in a tree: hold and tap are not open, only the last entry of a MultipleActions may be, and no hold time passes the longest
unfoldable mutual
  pub proper : Action → Times → Bool
  proper NoOp times = true
  proper Trans times = true
  proper (KeyCode code) times = true
  proper (MultipleKeyCodes codes) times = true
  proper (MultipleActions actions) times = proper_all actions times
  proper (Layer number) times = true
  proper (DefaultLayer number) times = true
  proper (HoldTap n timeout hold tap) times = leb timeout times.first && (holdable hold times && closed tap)

  pub proper_all : Actions → Times → Bool
  proper_all end times = true
  proper_all (action & actions) times = ((closed action || is_end actions) && proper action times) && proper_all actions times
