use Rattle.std.proofs.Common.{rules, suc, false, ◌≡◌, [], ◌∷◌, subst, ◌-◌, refl, arith, inl, w64, to_z, of_z}
use Rattle.std.proofs.lemmas.Int.{to_z-of_z}
use Rattle.std.proofs.lemmas.Result.{err_from_is_err_and}
use Rattle.orc_column_reader.specs.Fronts.{Leaves}
use Rattle.orc_column_reader.specs.Spellings.{Within}
use Rattle.orc_column_reader.specs.Numbers.{NumbersLeft}
use Rattle.orc_column_reader.specs.Columns.{CellsLeft, PairsLeft}
use Rattle.orc_column_reader.proofs.Fronts.{grouped_lacks_sizes, no_room}
use Rattle.orc_column_reader.proofs.ReaderLemmas.{no_size, group_lacks}
use Rattle.orc_column_reader.proofs.Sizes.{sized, negative}
use Rattle.orc_column_reader.specs.declared.column.ValueSource.{ValueSource}
use Rattle.orc_column_reader.specs.Fronts.{Precedes}
use Rattle.orc_column_reader.specs.Numbers.{NumbersFirst}
use Rattle.orc_column_reader.proofs.MetLemmas.{lists_before, lists_over, lists_negative}
use Rattle.orc_column_reader.proofs.column.next_size.Goals as goal

pub returns-in_default-clause-none : goal.returns-in_default-clause-none
returns-in_default-clause-none c =
    λ s below.
    let z : to_z w64 (of_z w64 c.in_ok-number.number) ≡ c.in_ok-number.number = to_z-of_z w64 c.in_ok-number.number (search rules) in
    let e = c.in_default.ensures in
    let none = rw z at e in
    let k = negative c.in_ok-number.number (search rules) none in
    no_size (NumbersLeft c.args.source.now.numbers) (NumbersLeft c.next_number.new.numbers) (Within c.args.source.now.room (CellsLeft s below)) k.0
    (subst (λ k. Leaves (NumbersLeft c.args.source.now.numbers) (NumbersLeft c.next_number.new.numbers) (k ∷ [])) k.1 c.in_ok-number.ensures.found)

pub returns-then-size-source-clause-none : goal.returns-then-size-source-clause-none
returns-then-size-source-clause-none c =
    λ s below.
    let z : to_z w64 (of_z w64 c.in_ok-number.number) ≡ c.in_ok-number.number = to_z-of_z w64 c.in_ok-number.number (search rules) in
    let e = c.in-Ok.ensures in
    let n = sized (to_z w64 (of_z w64 c.in_ok-number.number)) c.in_ok-number.number c.in-Ok.size z e.0 e.1 in
    group_lacks (NumbersLeft c.args.source.now.numbers) (NumbersLeft c.next_number.new.numbers) (Within c.args.source.now.room (CellsLeft s below)) c.in-Ok.size
    (subst (λ k. Leaves (NumbersLeft c.args.source.now.numbers) (NumbersLeft c.next_number.new.numbers) (k ∷ [])) n c.in_ok-number.ensures.found)
    (no_room c.args.source.now.room c.in-Ok.size (CellsLeft s below) c.if-size-source.true)

pub returns-clause-found : goal.returns-clause-found
returns-clause-found c =
    let z : to_z w64 (of_z w64 c.in_ok-number.number) ≡ c.in_ok-number.number = to_z-of_z w64 c.in_ok-number.number (search rules) in
    let e = c.in-Ok.ensures in
    let n = sized (to_z w64 (of_z w64 c.in_ok-number.number)) c.in_ok-number.number c.in-Ok.size z e.0 e.1 in
    subst (λ k. Leaves (NumbersLeft c.args.source.now.numbers) (NumbersLeft c.next_number.new.numbers) (k ∷ [])) n c.in_ok-number.ensures.found

pub returns-in_err-number-clause-none : goal.returns-in_err-number-clause-none
returns-in_err-number-clause-none c =
    let p = err_from_is_err_and c.from_residual.result c.from_residual.ensures.1 in
    rw p.1 (λ s below. grouped_lacks_sizes (NumbersLeft c.args.source.now.numbers) (Within c.args.source.now.room (CellsLeft s below)) 1 c.in_err-number.ensures.none)

pub returns-in_default-clause-fault : goal.returns-in_default-clause-fault
returns-in_default-clause-fault c =
    λ memory m.
    let z : to_z w64 (of_z w64 c.in_ok-number.number) ≡ c.in_ok-number.number = to_z-of_z w64 c.in_ok-number.number (search rules) in
    let e = c.in_default.ensures in
    let none = rw z at e in
    let k = negative c.in_ok-number.number (search rules) none in
    lists_negative c.args.source.now c.next_number.new.numbers false (suc m) k.0 (subst (λ k. Precedes (NumbersFirst c.args.source.now.numbers) (NumbersFirst c.next_number.new.numbers) (k ∷ [])) k.1 c.in_ok-number.ensures.first)

pub returns-then-size-source-clause-fault : goal.returns-then-size-source-clause-fault
returns-then-size-source-clause-fault c =
    λ memory m.
    let z : to_z w64 (of_z w64 c.in_ok-number.number) ≡ c.in_ok-number.number = to_z-of_z w64 c.in_ok-number.number (search rules) in
    let e = c.in-Ok.ensures in
    let n = sized (to_z w64 (of_z w64 c.in_ok-number.number)) c.in_ok-number.number c.in-Ok.size z e.0 e.1 in
    lists_over c.args.source.now c.next_number.new.numbers false (suc m) c.in-Ok.size (subst (λ k. Precedes (NumbersFirst c.args.source.now.numbers) (NumbersFirst c.next_number.new.numbers) (k ∷ [])) n c.in_ok-number.ensures.first) c.if-size-source.true

pub returns-clause-before : goal.returns-clause-before
returns-clause-before c =
    λ all m f.
    let z : to_z w64 (of_z w64 c.in_ok-number.number) ≡ c.in_ok-number.number = to_z-of_z w64 c.in_ok-number.number (search rules) in
    let e = c.in-Ok.ensures in
    let n = sized (to_z w64 (of_z w64 c.in_ok-number.number)) c.in_ok-number.number c.in-Ok.size z e.0 e.1 in
    let r = c.args.source.now in
    let after : ValueSource = record { column = r.column; numbers = c.next_number.new.numbers; bytes = r.bytes; bits = r.bits; octets = r.octets; entries = r.entries; room = r.room - c.in-Ok.size } in
    lists_before c.args.source.now after all m c.in-Ok.size f refl c.in_ok-number.ensures.before (subst (λ k. Precedes (NumbersFirst c.args.source.now.numbers) (NumbersFirst c.next_number.new.numbers) (k ∷ [])) n c.in_ok-number.ensures.first) (omega (arith, c.if-size-source.false))

pub returns-in_err-number-clause-fault : goal.returns-in_err-number-clause-fault
returns-in_err-number-clause-fault c =
    let p = err_from_is_err_and c.from_residual.result c.from_residual.ensures.1 in
    rw (p.1, p.2) (λ memory m. inl (c.in_err-number.ensures.fault memory m))

pub returns-clause-first : goal.returns-clause-first
returns-clause-first c =
    let z : to_z w64 (of_z w64 c.in_ok-number.number) ≡ c.in_ok-number.number = to_z-of_z w64 c.in_ok-number.number (search rules) in
    let e = c.in-Ok.ensures in
    let n = sized (to_z w64 (of_z w64 c.in_ok-number.number)) c.in_ok-number.number c.in-Ok.size z e.0 e.1 in
    subst (λ k. Precedes (NumbersFirst c.args.source.now.numbers) (NumbersFirst c.next_number.new.numbers) (k ∷ [])) n c.in_ok-number.ensures.first

pub returns-in_default-clause-no_map : goal.returns-in_default-clause-no_map
returns-in_default-clause-no_map c =
    λ k v below.
    let z : to_z w64 (of_z w64 c.in_ok-number.number) ≡ c.in_ok-number.number = to_z-of_z w64 c.in_ok-number.number (search rules) in
    let e = c.in_default.ensures in
    let none = rw z at e in
    let n = negative c.in_ok-number.number (search rules) none in
    no_size (NumbersLeft c.args.source.now.numbers) (NumbersLeft c.next_number.new.numbers) (Within c.args.source.now.room (PairsLeft k v below)) n.0
    (subst (λ m. Leaves (NumbersLeft c.args.source.now.numbers) (NumbersLeft c.next_number.new.numbers) (m ∷ [])) n.1 c.in_ok-number.ensures.found)

pub returns-then-size-source-clause-no_map : goal.returns-then-size-source-clause-no_map
returns-then-size-source-clause-no_map c =
    λ k v below.
    let z : to_z w64 (of_z w64 c.in_ok-number.number) ≡ c.in_ok-number.number = to_z-of_z w64 c.in_ok-number.number (search rules) in
    let e = c.in-Ok.ensures in
    let n = sized (to_z w64 (of_z w64 c.in_ok-number.number)) c.in_ok-number.number c.in-Ok.size z e.0 e.1 in
    group_lacks (NumbersLeft c.args.source.now.numbers) (NumbersLeft c.next_number.new.numbers) (Within c.args.source.now.room (PairsLeft k v below)) c.in-Ok.size
    (subst (λ m. Leaves (NumbersLeft c.args.source.now.numbers) (NumbersLeft c.next_number.new.numbers) (m ∷ [])) n c.in_ok-number.ensures.found)
    (no_room c.args.source.now.room c.in-Ok.size (PairsLeft k v below) c.if-size-source.true)

pub returns-in_err-number-clause-no_map : goal.returns-in_err-number-clause-no_map
returns-in_err-number-clause-no_map c =
    let p = err_from_is_err_and c.from_residual.result c.from_residual.ensures.1 in
    rw p.1 (λ k v below. grouped_lacks_sizes (NumbersLeft c.args.source.now.numbers) (Within c.args.source.now.room (PairsLeft k v below)) 1 c.in_err-number.ensures.none)
