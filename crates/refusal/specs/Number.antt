-- The numbers of document 01, "Refusal numbers", and behind them those of document 02: 15 is of W-201, 16 of W-203.
-- Assumes nothing.
use Rattle.std.specs.Prelude.{ℕ}
use Rattle.refusal.specs.declared.Refusal.{Refusal}
use Rattle.refusal.specs.declared.Refusal.TheVariants.{Short, Header, Length, Cell, Record, Code, Child, Nested, Weight, Scan, Bounce, Room, State, Request, Text, Shape}

abbrev pub number_of : Refusal → ℕ
number_of Short = 1
number_of Header = 2
number_of Length = 3
number_of Cell = 4
number_of Record = 5
number_of Code = 6
number_of Child = 7
number_of Nested = 8
number_of Weight = 9
number_of Scan = 10
number_of Bounce = 11
number_of Room = 12
number_of State = 13
number_of Request = 14
number_of Text = 15
number_of Shape = 16
