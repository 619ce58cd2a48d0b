use Rattle.std.proofs.Common.{◌≡◌, ◌∙◌, ap, sym, arith, true, false, string_bytes}
use Rattle.std.proofs.lemmas.Str.{IsUtf8-string_bytes}
use Rattle.orc_trees.specs.SchemaText.{is_plain_name}
use Rattle.orc_trees.proofs.NameFronts.{plain_front, ticked_front, no_front_name, no_end_inside, plain_inside}
use Rattle.orc_trees.proofs.name_text.name_from.Goals as goal

pub returns-in-Some-clause-found : goal.returns-in-Some-clause-found
returns-in-Some-clause-found c = rw c.in_ok-from_str.ensures.ok (plain_front c.args.text.now c.in-Some.name.now c.in-Some.rest.now c.in-Some.ensures.plain c.in-Some.ensures.found)

pub returns-in_default-text_behind-clause-fault : goal.returns-in_default-text_behind-clause-fault
returns-in_default-text_behind-clause-fault c = (omega arith, no_front_name c.args.text.now (c.in_default.ensures.none) (λ name rest is other h. c.in_default-text_behind.ensures _ h))

pub returns-in_default-2-clause-fault : goal.returns-in_default-2-clause-fault
returns-in_default-2-clause-fault c =
    let none = c.in_ok-name.ensures.none in
    (omega arith, no_front_name c.args.text.now (c.in_default.ensures.none) (no_end_inside c.args.text.now c.in-Some-text_behind.inner.now c.in-Some-text_behind.ensures (rw c.in_default-2.is at none)))

pub returns-then-is_plain-clause-fault : goal.returns-then-is_plain-clause-fault
returns-then-is_plain-clause-fault c =
    let found = c.in_ok-name.ensures.found in
    let plain : is_plain_name (string_bytes c.in-Some-2.name) ≡ true = ap is_plain_name (sym c.as_str.ensures.value) ∙ sym c.is_plain.ensures ∙ c.if-is_plain.true in (
      omega arith,
      no_front_name c.args.text.now (c.in_default.ensures.none)
          (plain_inside c.args.text.now c.in-Some-text_behind.inner.now (string_bytes c.in-Some-2.name) c.in-Some-2.rest.now (IsUtf8-string_bytes c.in-Some-2.name) c.in-Some-text_behind.ensures (rw c.in-Some-2.is at found) plain),
    )

pub returns-clause-found : goal.returns-clause-found
returns-clause-found c =
    let found = c.in_ok-name.ensures.found in
    let other : is_plain_name (string_bytes c.in-Some-2.name) ≡ false = ap is_plain_name (sym c.as_str.ensures.value) ∙ sym c.is_plain.ensures ∙ c.if-is_plain.false in
    ticked_front c.args.text.now c.in-Some-text_behind.inner.now (string_bytes c.in-Some-2.name) c.in-Some-2.rest.now other c.in-Some-text_behind.ensures (rw c.in-Some-2.is at found)
