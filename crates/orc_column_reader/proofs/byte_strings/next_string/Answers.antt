use Rattle.std.proofs.Common.{◌≡◌, suc, false, [], ◌∷◌, subst, pos, sym, ap, ◌∙◌, inl, rules, w64, to_z, of_z}
use Rattle.std.proofs.lemmas.Int.{to_z-of_z}
use Rattle.std.proofs.lemmas.Result.{err_from_is_err_and}
use Rattle.orc_column_reader.specs.Fronts.{Leaves}
use Rattle.orc_column_reader.specs.Numbers.{NumbersLeft}
use Rattle.orc_column_reader.specs.Octets.{OctetsLeft}
use Rattle.orc_column_reader.proofs.Fronts.{grouped_lacks_sizes}
use Rattle.orc_column_reader.proofs.ReaderLemmas.{group_leaves, group_lacks, no_size}
use Rattle.orc_column_reader.proofs.Sizes.{sized, negative}
use Rattle.orc_column_reader.specs.Fronts.{Precedes}
use Rattle.orc_column_reader.specs.Numbers.{NumbersFirst}
use Rattle.orc_column_reader.proofs.MetLemmas.{octets_front, groups_before, groups_short, groups_negative}
use Rattle.orc_column_reader.proofs.byte_strings.next_string.Goals as goal

pub returns-in_default-clause-none : goal.returns-in_default-clause-none
returns-in_default-clause-none c =
    let z : to_z w64 (of_z w64 c.in_ok-number.number) ≡ c.in_ok-number.number = to_z-of_z w64 c.in_ok-number.number (search rules) in
    let e = c.in_default.ensures in
    let none = rw z at e in
    let k = negative c.in_ok-number.number (search rules) none in
    no_size (NumbersLeft c.args.numbers.now) (NumbersLeft c.next_number.new.numbers) (OctetsLeft c.args.octets.now) k.0 (subst (λ n. Leaves (NumbersLeft c.args.numbers.now) (NumbersLeft c.next_number.new.numbers) (n ∷ [])) k.1 c.in_ok-number.ensures.found)

pub returns-in-Some-clause-found : goal.returns-in-Some-clause-found
returns-in-Some-clause-found c =
    let z : to_z w64 (of_z w64 c.in_ok-number.number) ≡ c.in_ok-number.number = to_z-of_z w64 c.in_ok-number.number (search rules) in
    let e = c.in-Ok.ensures in
    let s = sized (to_z w64 (of_z w64 c.in_ok-number.number)) c.in_ok-number.number c.in-Ok.size z e.0 e.1 in
    group_leaves (NumbersLeft c.args.numbers.now) (NumbersLeft c.next_number.new.numbers) (OctetsLeft c.args.octets.now) (OctetsLeft c.take.new.self) c.in-Ok.size c.in-Some.bytes.now c.in-Some.ensures.found.0
    (subst (λ n. Leaves (NumbersLeft c.args.numbers.now) (NumbersLeft c.next_number.new.numbers) (n ∷ [])) s c.in_ok-number.ensures.found) c.in-Some.ensures.found.1

pub returns-in-None-clause-none : goal.returns-in-None-clause-none
returns-in-None-clause-none c =
    let z : to_z w64 (of_z w64 c.in_ok-number.number) ≡ c.in_ok-number.number = to_z-of_z w64 c.in_ok-number.number (search rules) in
    let e = c.in-Ok.ensures in
    let s = sized (to_z w64 (of_z w64 c.in_ok-number.number)) c.in_ok-number.number c.in-Ok.size z e.0 e.1 in
    group_lacks (NumbersLeft c.args.numbers.now) (NumbersLeft c.next_number.new.numbers) (OctetsLeft c.args.octets.now) c.in-Ok.size
    (subst (λ n. Leaves (NumbersLeft c.args.numbers.now) (NumbersLeft c.next_number.new.numbers) (n ∷ [])) s c.in_ok-number.ensures.found) c.in-None.ensures.none

pub returns-in_err-number-clause-none : goal.returns-in_err-number-clause-none
returns-in_err-number-clause-none c =
    let p = err_from_is_err_and c.from_residual.result c.from_residual.ensures.1 in
    rw p.1 (grouped_lacks_sizes (NumbersLeft c.args.numbers.now) (OctetsLeft c.args.octets.now) 1 c.in_err-number.ensures.none)

pub returns-in-Some-clause-first : goal.returns-in-Some-clause-first
returns-in-Some-clause-first c =
    let z : to_z w64 (of_z w64 c.in_ok-number.number) ≡ c.in_ok-number.number = to_z-of_z w64 c.in_ok-number.number (search rules) in
    let e = c.in-Ok.ensures in
    let s = sized (to_z w64 (of_z w64 c.in_ok-number.number)) c.in_ok-number.number c.in-Ok.size z e.0 e.1 in
    let k = s ∙ ap pos (sym c.in-Some.ensures.found.0) in
    subst (λ n. Precedes (NumbersFirst c.args.numbers.now) (NumbersFirst c.next_number.new.numbers) (n ∷ [])) k c.in_ok-number.ensures.first

pub returns-in-Some-clause-bytes : goal.returns-in-Some-clause-bytes
returns-in-Some-clause-bytes c = octets_front c.args.octets.now c.take.new.self c.in-Some.bytes.now c.in-Some.ensures.found.1

pub returns-in-Some-clause-before : goal.returns-in-Some-clause-before
returns-in-Some-clause-before c =
    λ all m f.
    let z : to_z w64 (of_z w64 c.in_ok-number.number) ≡ c.in_ok-number.number = to_z-of_z w64 c.in_ok-number.number (search rules) in
    let e = c.in-Ok.ensures in
    let s = sized (to_z w64 (of_z w64 c.in_ok-number.number)) c.in_ok-number.number c.in-Ok.size z e.0 e.1 in
    let k = s ∙ ap pos (sym c.in-Some.ensures.found.0) in
    groups_before c.args.kind c.args.numbers.now c.next_number.new.numbers c.args.octets.now c.take.new.self all m c.args.column c.in-Some.bytes.now f c.in_ok-number.ensures.before
    (subst (λ n. Precedes (NumbersFirst c.args.numbers.now) (NumbersFirst c.next_number.new.numbers) (n ∷ [])) k c.in_ok-number.ensures.first)
    (subst (λ n. Leaves (NumbersLeft c.args.numbers.now) (NumbersLeft c.next_number.new.numbers) (n ∷ [])) k c.in_ok-number.ensures.found)
    (octets_front c.args.octets.now c.take.new.self c.in-Some.bytes.now c.in-Some.ensures.found.1)

pub returns-in-None-clause-fault : goal.returns-in-None-clause-fault
returns-in-None-clause-fault c =
    λ memory m.
    let z : to_z w64 (of_z w64 c.in_ok-number.number) ≡ c.in_ok-number.number = to_z-of_z w64 c.in_ok-number.number (search rules) in
    let e = c.in-Ok.ensures in
    let s = sized (to_z w64 (of_z w64 c.in_ok-number.number)) c.in_ok-number.number c.in-Ok.size z e.0 e.1 in
    groups_short c.args.kind c.args.numbers.now c.next_number.new.numbers c.args.octets.now false (suc m) c.args.column c.in-Ok.size
    (subst (λ n. Precedes (NumbersFirst c.args.numbers.now) (NumbersFirst c.next_number.new.numbers) (n ∷ [])) s c.in_ok-number.ensures.first) c.in-None.ensures.short

pub returns-in_default-clause-fault : goal.returns-in_default-clause-fault
returns-in_default-clause-fault c =
    λ memory m.
    let z : to_z w64 (of_z w64 c.in_ok-number.number) ≡ c.in_ok-number.number = to_z-of_z w64 c.in_ok-number.number (search rules) in
    let e = c.in_default.ensures in
    let none = rw z at e in
    let k = negative c.in_ok-number.number (search rules) none in
    groups_negative c.args.kind c.args.numbers.now c.next_number.new.numbers c.args.octets.now false (suc m) c.args.column k.0
    (subst (λ n. Precedes (NumbersFirst c.args.numbers.now) (NumbersFirst c.next_number.new.numbers) (n ∷ [])) k.1 c.in_ok-number.ensures.first)

pub returns-in_err-number-clause-fault : goal.returns-in_err-number-clause-fault
returns-in_err-number-clause-fault c =
    let p = err_from_is_err_and c.from_residual.result c.from_residual.ensures.1 in
    rw (p.1, p.2) (λ memory m. inl (c.in_err-number.ensures.fault memory m))
