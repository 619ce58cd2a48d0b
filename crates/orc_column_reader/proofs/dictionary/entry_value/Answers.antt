use Rattle.std.proofs.Common.{inr, refl, rules, ◌≡◌, ap, sym, map, length, ltb-true, w64, to_z, of_z}
use Rattle.std.proofs.lemmas.Int.{to_z-of_z}
use Rattle.orc_values.specs.Cells.{leaf, text}
use Rattle.orc_column_reader.specs.Columns.{entry_bytes}
use Rattle.orc_column_reader.proofs.OwnKinds.{text_kind}
use Rattle.orc_column_reader.proofs.TextLemmas.{entry_text, entry_no_text}
use Rattle.orc_column_reader.proofs.Sizes.{sized, negative, is_word, no_word, no_text, no_index, names_none, true_false}
use Rattle.orc_column_reader.proofs.dictionary.entry_value.Goals as goal

pub returns-in-Some-text-clause-found : goal.returns-in-Some-text-clause-found
returns-in-Some-text-clause-found c =
    let z : to_z w64 (of_z w64 c.args.number) ≡ c.args.number = to_z-of_z w64 c.args.number (search rules) in
    let e = c.in-Ok.ensures in
    let l = c.in-Some.ensures.lookup in
    let is = entry_text c.in-Some.entry.now c.in-Some-text.text c.in-Some-text.is in
    is_word c.args.entries.now c.args.number c.in-Ok.index c.in-Some.entry.now _ (sized (to_z w64 (of_z w64 c.args.number)) c.args.number c.in-Ok.index z e.0 e.1) (ltb-true c.in-Ok.index (length c.args.entries.now) (sym l.0)) l.1
    (is.1, ap (λ t. leaf (text t)) is.0)

pub returns-in-None-clause-none : goal.returns-in-None-clause-none
returns-in-None-clause-none c =
    let z : to_z w64 (of_z w64 c.args.number) ≡ c.args.number = to_z-of_z w64 c.args.number (search rules) in
    let e = c.in-Ok.ensures in
    let l = c.in-Some.ensures.lookup in
    no_text c.args.entries.now c.args.number c.in-Ok.index c.in-Some.entry.now (sized (to_z w64 (of_z w64 c.args.number)) c.args.number c.in-Ok.index z e.0 e.1) (ltb-true c.in-Ok.index (length c.args.entries.now) (sym l.0)) l.1
    (entry_no_text c.in-Some.entry.now c.in-None.is)

pub returns-in_default-clause-none : goal.returns-in_default-clause-none
returns-in_default-clause-none c =
    let z : to_z w64 (of_z w64 c.args.number) ≡ c.args.number = to_z-of_z w64 c.args.number (search rules) in
    let e = c.in_default.ensures in
    let none = rw z at e in
    let k = negative c.args.number (search rules) none in
    no_index (map entry_bytes c.args.entries.now) c.args.number k.0 k.1

pub returns-in_default-get-clause-none : goal.returns-in_default-get-clause-none
returns-in_default-get-clause-none c =
    let z : to_z w64 (of_z w64 c.args.number) ≡ c.args.number = to_z-of_z w64 c.args.number (search rules) in
    let e = c.in-Ok.ensures in
    let l = c.in_default-get.ensures in
    no_word c.args.entries.now c.args.number c.in-Ok.index (sized (to_z w64 (of_z w64 c.args.number)) c.args.number c.in-Ok.index z e.0 e.1) (λ lt. true_false (sym (l.lookup.2 lt)))

pub returns-in-None-clause-fault : goal.returns-in-None-clause-fault
returns-in-None-clause-fault c =
    let z : to_z w64 (of_z w64 c.args.number) ≡ c.args.number = to_z-of_z w64 c.args.number (search rules) in
    let e = c.in-Ok.ensures in
    let l = c.in-Some.ensures.lookup in
    inr (
      refl,
      names_none c.args.entries.now c.args.number c.in-Ok.index c.in-Some.entry.now (sized (to_z w64 (of_z w64 c.args.number)) c.args.number c.in-Ok.index z e.0 e.1) (ltb-true c.in-Ok.index (length c.args.entries.now) (sym l.0)) l.1
          (entry_no_text c.in-Some.entry.now c.in-None.is),
    )

pub returns-in-Some-text-clause-kind : goal.returns-in-Some-text-clause-kind
returns-in-Some-text-clause-kind c =
    let is = entry_text c.in-Some.entry.now c.in-Some-text.text c.in-Some-text.is in
    text_kind c.in-Some.entry.now.bytes.now _ (is.1, ap (λ t. leaf (text t)) is.0)
