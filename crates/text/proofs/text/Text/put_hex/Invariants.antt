-- `text::Text::put_hex` meets its contract. The loop's invariant: the text has the digits of the bytes so far. Assumes nothing.
use mathlib.Core.Path.{◌≡◌}
use lib.ListN.{take}
use Rattle.text.specs.Text.{put_all, hex_of}
use Rattle.text.proofs.text.Text.put_hex.Given as goal

abbrev pub invariant-loop-byte : goal.invariant-loop-byte
invariant-loop-byte l = l.out ≡ put_all l.initial.out (hex_of (take l.byte-index l.bytes))
