use Rattle.std.proofs.Common.{◌≡◌, ℕ, List, [], ◌∷◌, ◌++◌, length, map, refl, ap, ◌∙◌, subst, arith, append-nil}
use Rattle.json.specs.Print.{quoted}
use Rattle.serde_json.specs.Written.{comma_if}
use Rattle.orc_values.specs.Views.{name_and_type, fields}
use Rattle.orc_json_printer.specs.Layouts.{text_by, member_parts}
use Rattle.orc_json_printer.specs.LaidOut.{count_of, AreAllPlaces, member_places}
use Rattle.orc_json_printer.specs.Texts.{entry_places}
use Rattle.orc_json_printer.specs.declared.layout.Member.{Member}
use Rattle.orc_json_printer.proofs.Laying.{places_next, laid_more, leaf_laid, list_laid, map_laid, struct_laid}
use Rattle.orc_json_printer.proofs.Prints.{Entry, laying_first, laying_next, laying_place, laying_last}
use Rattle.orc_json_printer.proofs.Layouts.{laid_list, laid_map, laid_struct, member_parts_more, shape_placed}
use Rattle.orc_json_printer.proofs.layout.+laying.Goals as goal
use Rattle.orc_values.proofs.ByColumn.{width_within}

pub layout_of-returns-in_ok-new-in-List-clause-text : goal.layout_of-returns-in_ok-new-in-List-clause-text
layout_of-returns-in_ok-new-in-List-clause-text t c =
    laid_list c.args.tree.now c.in-List.element c.in-List.field-1 c.in_ok-new-in-List.field-0 c.in-List.is (rw (c.in_ok-new-in-List.ensures.ok, ← c.deref.ensures) c.in_ok-layout_of-in-List.ensures.text)

pub layout_of-returns-in_ok-new-in-Map-clause-text : goal.layout_of-returns-in_ok-new-in-Map-clause-text
layout_of-returns-in_ok-new-in-Map-clause-text t c =
    let pair = c.in_ok-new-in-Map.field-0 in
    laid_map c.args.tree.now c.in-Map.key c.in-Map.value c.in-Map.field-2 pair c.in-Map.is
    (rw (c.in_ok-new-in-Map.ensures.ok, ← c.deref-in-Map.ensures) c.in_ok-key-in-Map.ensures.text)
    (rw (c.in_ok-new-in-Map.ensures.ok, ← c.deref-in-Map-2.ensures) c.in_ok-value-in-Map.ensures.text)

pub layout_of-returns-in_ok-columns-in-Struct-clause-text : goal.layout_of-returns-in_ok-columns-in-Struct-clause-text
layout_of-returns-in_ok-columns-in-Struct-clause-text t c =
    laid_struct c.args.tree.now c.in-Struct.fields c.in-Struct.field-1 c.in_ok-members-in-Struct.members c.in_ok-columns-in-Struct.columns c.in-Struct.is c.in_ok-members-in-Struct.ensures.text

pub members_of-loop-name-init : goal.members_of-loop-name-init
members_of-loop-name-init t c =
    rw (c.new-members.ensures.items, c.into_iter-name-iterator.ensures.into_iter_gives, c.iter-name-items.ensures.rest) (
      laying_first (length c.args.fields.now.items) (map name_and_type c.args.fields.now.items) c.in_ok-places.places.entries c.in_ok-places.ensures.order c.in_ok-places.ensures.within,
      c.in_ok-places.ensures.once,
      tt,
    )

pub members_of-index-field-requires : goal.members_of-index-field-requires
members_of-index-field-requires t c =
    let l = c.loop-name in
    let place = laying_place (length c.args.fields.now.items) (map name_and_type c.args.fields.now.items) (member_parts l.members.items) l.later (c.in-Some.name.now, c.in-Some.place.now) l.name-iterator c.next.new.self c.in-Some.ensures.steps l.invariant.0 in
    omega (arith, place, c.args.fields.now.ok.0)

pub members_of-layout_of-requires : goal.members_of-layout_of-requires
members_of-layout_of-requires t c =
    let l = c.loop-name in
    let fs = c.args.fields.now.items in
    let place = laying_place (length fs) (map name_and_type fs) (member_parts l.members.items) l.later (c.in-Some.name.now, c.in-Some.place.now) l.name-iterator c.next.new.self c.in-Some.ensures.steps l.invariant.0 in
    let within = width_within fs c.in-Some.place.now c.index-field.result.now place c.index-field.ensures in
    (omega (arith, within), omega (arith, within, c.requires))

pub members_of-loop-name-preserved : goal.members_of-loop-name-preserved
members_of-loop-name-preserved t c =
    let l = c.loop-name in
    let fs = c.args.fields.now.items in
    let all = map name_and_type fs in
    let place = laying_place (length fs) all (member_parts l.members.items) l.later (c.in-Some.name.now, c.in-Some.place.now) l.name-iterator c.next.new.self c.in-Some.ensures.steps l.invariant.0 in
    let key = c.in_ok-key.ensures ∙ ap (λ (n : List ℕ). comma_if l.later ++ (quoted n ++ 58 ∷ [])) c.as_str.ensures.value in
    let prints = rw (shape_placed fs c.in-Some.place.now c.index-field.result.now place c.index-field.ensures) at c.in_ok-layout.ensures.text in
    let items = ap member_parts c.in_ok-push.ensures.items ∙ member_parts_more l.members.items (record { key = c.in_ok-key.key; place = c.in-Some.place.now; layout = c.in_ok-layout.layout }) in
    let m : Member = record { key = c.in_ok-key.key; place = c.in-Some.place.now; layout = c.in_ok-layout.layout } in
    let laid = rw (shape_placed fs c.in-Some.place.now c.index-field.result.now place c.index-field.ensures) at c.in_ok-layout.ensures.laid_out in
    let again = places_next l.members.items m (c.in-Some.name.now, c.in-Some.place.now) l.name-iterator c.next.new.self c.in-Some.ensures.steps refl in (
      rw items
          (laying_next (length fs) all (member_parts l.members.items) (record { key = c.in_ok-key.key.items; place = c.in-Some.place.now; text = text_by c.in_ok-layout.layout }) l.later (c.in-Some.name.now, c.in-Some.place.now)
          l.name-iterator c.next.new.self c.in-Some.ensures.steps key refl prints l.invariant.0),
      rw c.in_ok-push.ensures.items (λ differ. subst (λ (ps : List ℕ). AreAllPlaces (count_of (fields fs)) ps) again (l.invariant.1 differ)),
      rw c.in_ok-push.ensures.items (laid_more all l.members.items m laid l.invariant.2),
    )

pub members_of-returns-clause-text : goal.members_of-returns-clause-text
members_of-returns-clause-text t c =
    laying_last (length c.args.fields.now.items) (map name_and_type c.args.fields.now.items) (member_parts c.loop-name.members.items) c.loop-name.later c.loop-name.name-iterator c.in-None.ensures.steps.0 c.loop-name.invariant.0

pub members_of-returns-clause-places : goal.members_of-returns-clause-places
members_of-returns-clause-places t c =
    let whole : member_places c.loop-name.members.items ++ entry_places c.loop-name.name-iterator ≡ member_places c.loop-name.members.items =
    ap (λ (es : List Entry). member_places c.loop-name.members.items ++ entry_places es) c.in-None.ensures.steps.0 ∙ append-nil (member_places c.loop-name.members.items) in
    λ differ. subst (λ (ps : List ℕ). AreAllPlaces (count_of (fields c.args.fields.now.items)) ps) whole (c.loop-name.invariant.1 differ)

pub layout_of-returns-in-Scalar-clause-laid_out : goal.layout_of-returns-in-Scalar-clause-laid_out
layout_of-returns-in-Scalar-clause-laid_out t c = leaf_laid c.args.tree.now c.in-Scalar.field-0 c.in-Scalar.field-1 c.in-Scalar.is

pub layout_of-returns-in_ok-new-in-List-clause-laid_out : goal.layout_of-returns-in_ok-new-in-List-clause-laid_out
layout_of-returns-in_ok-new-in-List-clause-laid_out t c =
    list_laid c.args.tree.now c.in-List.element c.in-List.field-1 c.in_ok-new-in-List.field-0 c.in-List.is (rw (c.in_ok-new-in-List.ensures.ok, ← c.deref.ensures) c.in_ok-layout_of-in-List.ensures.laid_out)

pub layout_of-returns-in_ok-new-in-Map-clause-laid_out : goal.layout_of-returns-in_ok-new-in-Map-clause-laid_out
layout_of-returns-in_ok-new-in-Map-clause-laid_out t c =
    let pair = c.in_ok-new-in-Map.field-0 in
    map_laid c.args.tree.now c.in-Map.key c.in-Map.value c.in-Map.field-2 pair c.in-Map.is
    (rw (c.in_ok-new-in-Map.ensures.ok, ← c.deref-in-Map.ensures) c.in_ok-key-in-Map.ensures.laid_out)
    (rw (c.in_ok-new-in-Map.ensures.ok, ← c.deref-in-Map-2.ensures) c.in_ok-value-in-Map.ensures.laid_out)

pub layout_of-returns-in_ok-columns-in-Struct-clause-laid_out : goal.layout_of-returns-in_ok-columns-in-Struct-clause-laid_out
layout_of-returns-in_ok-columns-in-Struct-clause-laid_out t c =
    struct_laid c.args.tree.now c.in-Struct.fields c.in-Struct.field-1 c.in_ok-members-in-Struct.members c.in_ok-columns-in-Struct.columns c.in-Struct.is
    c.in_ok-members-in-Struct.ensures.places c.in_ok-members-in-Struct.ensures.laid_out c.in_ok-columns-in-Struct.ensures.columns c.in_ok-columns-in-Struct.ensures.members
