use Rattle.std.proofs.Common.{◌≡◌, ◌∷◌, ◌+◌, suc, drop, ap, ◌∙◌, sym, add-one}
use Rattle.serde_json.specs.Data.{put}
use Rattle.serde_json.specs.View.{members_view}
use Rattle.orc_values.specs.Shapes.{names_of}
use Rattle.orc_json_rows.specs.FieldNames.{all_differ}
use Rattle.orc_values.specs.Views.{fields}
use Rattle.orc_json_rows.proofs.Names.{view-Null, differ_after, differ_after-none, differ_stop, differ_more}
use Rattle.orc_json_rows.proofs.field_names.all_differ.Goals as goal
use Rattle.orc_values.proofs.Listed.{names_from}

pub loop-field-init : goal.loop-field-init
loop-field-init c =
    ap (λ es. differ_after (members_view es) (names_of (fields c.args.fields.now))) c.new-seen.ensures.empty ∙ differ_after-none (names_of (fields c.args.fields.now))

pub returns-then-has_key : goal.returns-then-has_key
returns-then-has_key c =
    let fs = c.args.fields.now in
    let i = c.loop-field.field-index in
    let later = names_of (fields (drop (i + 1) fs)) in
    let left : names_of (fields (drop i fs)) ≡ c.as_str-name.result.now ∷ later =
    rw add-one (names_from fs i c.field-item.result c.loop-field-test.true c.field-item.is ∙ ap (λ n. n ∷ names_of (fields (drop (suc i) fs))) (sym c.as_str-name.ensures.value)) in
    differ_stop (members_view c.loop-field.seen.entries) c.as_str-name.result.now later (names_of (fields (drop i fs))) (all_differ (names_of (fields fs))) left (sym c.has_key.ensures ∙ c.if-has_key.true) c.loop-field.invariant

pub loop-field-preserved : goal.loop-field-preserved
loop-field-preserved c =
    let fs = c.args.fields.now in
    let i = c.loop-field.field-index in
    let later = names_of (fields (drop (i + 1) fs)) in
    let left : names_of (fields (drop i fs)) ≡ c.as_str-name.result.now ∷ later =
    rw add-one (names_from fs i c.field-item.result c.loop-field-test.true c.field-item.is ∙ ap (λ n. n ∷ names_of (fields (drop (suc i) fs))) (sym c.as_str-name.ensures.value)) in
    differ_more (members_view c.loop-field.seen.entries) (members_view c.put.new.object.entries) c.as_str-name.result.now later (names_of (fields (drop i fs))) (all_differ (names_of (fields fs))) left
    (sym c.has_key.ensures ∙ c.if-has_key.false) (c.in_ok-put.ensures ∙ ap (λ d. put c.as_str-name.result.now d (members_view c.loop-field.seen.entries)) view-Null) c.loop-field.invariant
