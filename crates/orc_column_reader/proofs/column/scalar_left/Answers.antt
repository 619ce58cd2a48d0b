use Rattle.std.proofs.Common.{inl}
use Rattle.orc_column_reader.proofs.column.scalar_left.Goals as goal

pub returns-in-Short : goal.returns-in-Short
returns-in-Short c = rw c.in-Short.is (inl c.data_left.ensures)

pub returns-in-Int : goal.returns-in-Int
returns-in-Int c = rw c.in-Int.is (inl c.data_left-in-Int.ensures)

pub returns-in-Long : goal.returns-in-Long
returns-in-Long c = rw c.in-Long.is c.data_left-in-Long.ensures

pub returns-in-Date : goal.returns-in-Date
returns-in-Date c = rw c.in-Date.is (inl c.data_left-in-Date.ensures)

pub returns-in-Some : goal.returns-in-Some
returns-in-Some c = rw (c.in-String.is, c.in-Some.is) (inl c.data_left-in-Some.ensures)
