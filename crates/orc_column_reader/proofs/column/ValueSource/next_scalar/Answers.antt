use Rattle.orc_column_reader.proofs.column.ValueSource.next_scalar.Goals as goal

pub returns-in-Boolean-clause-found : goal.returns-in-Boolean-clause-found
returns-in-Boolean-clause-found c = rw c.in-Boolean.is c.next_bool.ensures.found

pub returns-in-Byte-clause-found : goal.returns-in-Byte-clause-found
returns-in-Byte-clause-found c = rw c.in-Byte.is c.next_byte.ensures.found

pub returns-in-Short-clause-found : goal.returns-in-Short-clause-found
returns-in-Short-clause-found c = rw c.in-Short.is c.next_int.ensures.found

pub returns-in-Int-clause-found : goal.returns-in-Int-clause-found
returns-in-Int-clause-found c = rw c.in-Int.is c.next_int-in-Int.ensures.found

pub returns-in-Long-clause-found : goal.returns-in-Long-clause-found
returns-in-Long-clause-found c = rw c.in-Long.is c.next_long.ensures.found

pub returns-in-Date-clause-found : goal.returns-in-Date-clause-found
returns-in-Date-clause-found c = rw c.in-Date.is c.next_date.ensures.found

pub returns-in-Binary-clause-found : goal.returns-in-Binary-clause-found
returns-in-Binary-clause-found c = rw c.in-Binary.is c.next_binary.ensures.found

pub returns-in-None-clause-found : goal.returns-in-None-clause-found
returns-in-None-clause-found c = rw (c.in-String.is, c.in-None.is) c.next_text.ensures.found

pub returns-in-Some-clause-found : goal.returns-in-Some-clause-found
returns-in-Some-clause-found c = let e = c.next_entry.ensures.found in rw (c.in-String.is, c.in-Some.is) (rw c.deref.ensures.value at e)

pub returns-in-Some-clause-none : goal.returns-in-Some-clause-none
returns-in-Some-clause-none c = let e = c.next_entry.ensures.none in rw (c.in-String.is, c.in-Some.is) (rw c.deref.ensures.value at e)

pub returns-in-Boolean-clause-before : goal.returns-in-Boolean-clause-before
returns-in-Boolean-clause-before c = rw c.in-Boolean.is c.next_bool.ensures.before

pub returns-in-Byte-clause-before : goal.returns-in-Byte-clause-before
returns-in-Byte-clause-before c = rw c.in-Byte.is c.next_byte.ensures.before

pub returns-in-Short-clause-before : goal.returns-in-Short-clause-before
returns-in-Short-clause-before c = rw c.in-Short.is c.next_int.ensures.before

pub returns-in-Int-clause-before : goal.returns-in-Int-clause-before
returns-in-Int-clause-before c = rw c.in-Int.is c.next_int-in-Int.ensures.before

pub returns-in-Long-clause-before : goal.returns-in-Long-clause-before
returns-in-Long-clause-before c = rw c.in-Long.is c.next_long.ensures.before

pub returns-in-Date-clause-before : goal.returns-in-Date-clause-before
returns-in-Date-clause-before c = rw c.in-Date.is c.next_date.ensures.before

pub returns-in-Binary-clause-before : goal.returns-in-Binary-clause-before
returns-in-Binary-clause-before c = rw c.in-Binary.is c.next_binary.ensures.before

pub returns-in-None-clause-before : goal.returns-in-None-clause-before
returns-in-None-clause-before c = rw (c.in-String.is, c.in-None.is) c.next_text.ensures.before

pub returns-in-Some-clause-before : goal.returns-in-Some-clause-before
returns-in-Some-clause-before c = let e = c.next_entry.ensures.before in rw (c.in-String.is, c.in-Some.is) (rw c.deref.ensures.value at e)

pub returns-in-Some-clause-fault : goal.returns-in-Some-clause-fault
returns-in-Some-clause-fault c = let e = c.next_entry.ensures.fault in rw (c.in-String.is, c.in-Some.is) (rw c.deref.ensures.value at e)

pub returns-in-Boolean-clause-fault : goal.returns-in-Boolean-clause-fault
returns-in-Boolean-clause-fault c = rw c.in-Boolean.is c.next_bool.ensures.fault

pub returns-in-Byte-clause-fault : goal.returns-in-Byte-clause-fault
returns-in-Byte-clause-fault c = rw c.in-Byte.is c.next_byte.ensures.fault

pub returns-in-Short-clause-fault : goal.returns-in-Short-clause-fault
returns-in-Short-clause-fault c = rw c.in-Short.is c.next_int.ensures.fault

pub returns-in-Int-clause-fault : goal.returns-in-Int-clause-fault
returns-in-Int-clause-fault c = rw c.in-Int.is c.next_int-in-Int.ensures.fault

pub returns-in-Long-clause-fault : goal.returns-in-Long-clause-fault
returns-in-Long-clause-fault c = rw c.in-Long.is c.next_long.ensures.fault

pub returns-in-Date-clause-fault : goal.returns-in-Date-clause-fault
returns-in-Date-clause-fault c = rw c.in-Date.is c.next_date.ensures.fault

pub returns-in-Binary-clause-fault : goal.returns-in-Binary-clause-fault
returns-in-Binary-clause-fault c = rw c.in-Binary.is c.next_binary.ensures.fault

pub returns-in-None-clause-fault : goal.returns-in-None-clause-fault
returns-in-None-clause-fault c = rw (c.in-String.is, c.in-None.is) c.next_text.ensures.fault

pub returns-in-Boolean-clause-kind : goal.returns-in-Boolean-clause-kind
returns-in-Boolean-clause-kind c = rw c.in-Boolean.is c.next_bool.ensures.kind

pub returns-in-Byte-clause-kind : goal.returns-in-Byte-clause-kind
returns-in-Byte-clause-kind c = rw c.in-Byte.is c.next_byte.ensures.kind

pub returns-in-Short-clause-kind : goal.returns-in-Short-clause-kind
returns-in-Short-clause-kind c = rw c.in-Short.is c.next_int.ensures.kind

pub returns-in-Int-clause-kind : goal.returns-in-Int-clause-kind
returns-in-Int-clause-kind c = rw c.in-Int.is c.next_int-in-Int.ensures.kind

pub returns-in-Long-clause-kind : goal.returns-in-Long-clause-kind
returns-in-Long-clause-kind c = rw c.in-Long.is c.next_long.ensures.kind

pub returns-in-Date-clause-kind : goal.returns-in-Date-clause-kind
returns-in-Date-clause-kind c = rw c.in-Date.is c.next_date.ensures.kind

pub returns-in-Binary-clause-kind : goal.returns-in-Binary-clause-kind
returns-in-Binary-clause-kind c = rw c.in-Binary.is c.next_binary.ensures.kind

pub returns-in-None-clause-kind : goal.returns-in-None-clause-kind
returns-in-None-clause-kind c = rw c.in-String.is c.next_text.ensures.kind

pub returns-in-Some-clause-kind : goal.returns-in-Some-clause-kind
returns-in-Some-clause-kind c = rw c.in-String.is c.next_entry.ensures.kind
