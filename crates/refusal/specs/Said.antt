-- What document 01 says of an answer: its number, 0 where nothing is refused; its place; and its values, which of a refused
-- answer are those of none. The promise of every answer that can be refused uses this definition.
-- Assumes nothing.
use Rattle.std.specs.Prelude.{ℕ, Result, Ok, Err}
use Rattle.refusal.specs.Number.{number_of}
use Rattle.refusal.specs.declared.Fault.{Fault}

pub record Said (A : Type 0) : Type 0 where
  pub number : ℕ
  pub place : ℕ
  pub values : A

abbrev pub said : {A : Type 0} → A → Result A Fault → Said A
said none (Ok values) = record { number = 0; place = 0; values = values }
said none (Err fault) = record { number = number_of fault.refusal; place = fault.place; values = none }
