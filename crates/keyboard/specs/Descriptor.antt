-- What the device says of itself: document 01, "Report and keyboard". Assumes nothing.
use Rattle.std.specs.Prelude.{ℕ, List, [], ◌∷◌}

-- the report descriptor's 71 bytes, an item a line
unfoldable pub descriptor : List ℕ
descriptor =
    0x05 ∷ 0x01 ∷  -- Usage Page: generic desktop
    0x09 ∷ 0x06 ∷  -- Usage: keyboard
    0xA1 ∷ 0x01 ∷  -- Collection: application
    0x05 ∷ 0x07 ∷  -- Usage Page: keyboard
    0x19 ∷ 0xE0 ∷  -- Usage Minimum: Left Control
    0x29 ∷ 0xE7 ∷  -- Usage Maximum: Right GUI
    0x15 ∷ 0x00 ∷  -- Logical Minimum 0
    0x25 ∷ 0x01 ∷  -- Logical Maximum 1
    0x75 ∷ 0x01 ∷  -- Report Size 1
    0x95 ∷ 0x08 ∷  -- Report Count 8
    0x81 ∷ 0x02 ∷  -- Input: the modifiers
    0x95 ∷ 0x01 ∷  -- Report Count 1
    0x75 ∷ 0x08 ∷  -- Report Size 8
    0x81 ∷ 0x03 ∷  -- Input: the constant byte
    0x95 ∷ 0x05 ∷  -- Report Count 5
    0x75 ∷ 0x01 ∷  -- Report Size 1
    0x05 ∷ 0x08 ∷  -- Usage Page: LEDs
    0x19 ∷ 0x01 ∷  -- Usage Minimum: Num Lock
    0x29 ∷ 0x05 ∷  -- Usage Maximum: Kana
    0x91 ∷ 0x02 ∷  -- Output: the lights
    0x95 ∷ 0x01 ∷  -- Report Count 1
    0x75 ∷ 0x03 ∷  -- Report Size 3
    0x91 ∷ 0x03 ∷  -- Output: padding
    0x95 ∷ 0x06 ∷  -- Report Count 6
    0x75 ∷ 0x08 ∷  -- Report Size 8
    0x15 ∷ 0x00 ∷  -- Logical Minimum 0
    0x25 ∷ 0xFB ∷  -- Logical Maximum 0xFB
    0x05 ∷ 0x07 ∷  -- Usage Page: keyboard
    0x19 ∷ 0x00 ∷  -- Usage Minimum 0
    0x29 ∷ 0xFB ∷  -- Usage Maximum 0xFB
    0x81 ∷ 0x00 ∷  -- Input: the array of six
    0x09 ∷ 0x03 ∷  -- Usage 3
    0x75 ∷ 0x08 ∷  -- Report Size 8
    0x95 ∷ 0x40 ∷  -- Report Count 64
    0xB1 ∷ 0x02 ∷  -- Feature
    0xC0 ∷  -- End Collection
    []

-- boot interface, keyboard
abbrev pub subclass_number : ℕ
subclass_number = 1

abbrev pub protocol_number : ℕ
protocol_number = 1
