-- `number::decimal` meets its contract. The loop's invariant: what the bytes that are left come to behind `n` is the whole answer.
-- Assumes nothing.
use Prim.Native.Nat.{◌≤◌}
use mathlib.Core.Path.{◌≡◌}
use lib.ListN.{drop}
use Rattle.number.specs.Number.{read_behind, read_decimal}
use Rattle.number.proofs.decimal.Given as goal

abbrev pub invariant-loop-c : goal.invariant-loop-c
invariant-loop-c l = record { fits : l.n ≤ 65535; whole : read_decimal l.word ≡ read_behind l.n (drop l.c-index l.word) }
