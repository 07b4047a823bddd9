-- The cases of `specs/Cases.antt` hold: each is computed from its bytes. Assumes nothing.
use mathlib.Core.Path.{refl}
use Rattle.number.specs.Number.{is_digit, comes_to, read_behind, read_decimal, read_within}
use Rattle.panel_line.specs.Line.{coords_of, starts_with, line_of}
use Rattle.panel_line.specs.Cases.{cases, Cases}

pub all_said : Cases
unfolding is_digit comes_to read_behind read_decimal read_within coords_of starts_with line_of cases Cases
all_said = refl
