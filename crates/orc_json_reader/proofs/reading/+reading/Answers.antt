use Rattle.std.proofs.Common.{◌+◌, inl, refl, ◌≡◌, ◌-◌, ◌*◌, ◌<◌, List, [], ◌∷◌, ◌++◌, length, get_or, map, take, Option, Some, None, string_bytes, sym, ap, ◌∙◌, subst, arith, rules}
use Rattle.std.proofs.Math.ListN.{set, length-set}
use Rattle.std.proofs.lemmas.List.{map-append, take_more_set}
use Rattle.std.proofs.lemmas.Result.{IfOk-weaker}
use Rattle.json.specs.Token.{Token}
use Rattle.json.specs.Json.{after_end_array, read_key}
use Rattle.json.proofs.Grammar.{read_key-shorter}
use Rattle.orc_values.specs.Cells.{Cell}
use Rattle.orc_json_rows.specs.JsonRows.{OrNull, ArraySpells, MapSpells, JsonSpells, PairSpells, FieldsSpell, ObjectSpells}
use Rattle.orc_values.specs.Shapes.{names_of}
use Rattle.orc_values.specs.Views.{view, views, paired, shape, fields}
use Rattle.orc_json_rows.specs.JsonLeaves.{ScalarSpells}
use Rattle.orc_values.specs.declared.tree.Tree.{Tree}
use Rattle.orc_values.specs.declared.tree.Field.{Field}
use Rattle.orc_values.specs.declared.value.Value.{Value, List as ListOf, Map as MapOf, Struct as StructOf, the_lemmas}
use Rattle.orc_values.specs.declared.value.Value as value
use Rattle.orc_values.specs.declared.value.MapPair.{MapPair}
use Rattle.orc_json_rows.proofs.Names.{distinct_at}
use Rattle.orc_values.proofs.Views.{paired-is}
use Rattle.orc_json_reader.specs.Fronts.{ValueFront}
use Rattle.orc_json_reader.specs.Frontier.{read_up_to}
use Rattle.orc_json_reader.proofs.FrontLemmas.{two_front}
use Rattle.orc_json_reader.proofs.FrontierLemmas.{read_up_to-length}
use Rattle.orc_json_reader.proofs.ItemLemmas.{elements_next, elements_last, pairs_next, pairs_last}
use Rattle.orc_json_reader.proofs.FieldLemmas.{fields_first, fields_next, fields_last}
use Rattle.orc_json_reader.proofs.RowLemmas.{null_front, same_front, list_front, map_front, struct_front, of_scalar, of_list, of_map, pair_front}
use Rattle.orc_json_reader.proofs.reading.+reading.Goals as goal

-- ---- read_value

pub read_value-returns-in-Scalar-clause-found : goal.read_value-returns-in-Scalar-clause-found
read_value-returns-in-Scalar-clause-found t c =
    let tree = c.args.tree.now in
    let row = c.read_scalar.new.cell in
    IfOk-weaker c.read_scalar.result _ _
    (λ done h. same_front (λ d. ScalarSpells c.in-Scalar.kind d (view row)) (λ d. JsonSpells (shape tree) d (view row)) c.args.depth c.args.reader.now c.read_scalar.new.reader
    (λ d g. of_scalar tree c.in-Scalar.kind c.in-Scalar.field-1 (view row) d c.in-Scalar.is g) (h c.args.depth))
    c.read_scalar.ensures.found

pub read_value-returns-in-List-clause-found : goal.read_value-returns-in-List-clause-found
read_value-returns-in-List-clause-found t c =
    let tree = c.args.tree.now in
    let row = c.read_list.new.cell in
    IfOk-weaker c.read_list.result _ _
    (λ done h. same_front (λ d. OrNull d (view row) (ArraySpells (JsonSpells (shape c.deref.result.now)) d (view row))) (λ d. JsonSpells (shape tree) d (view row)) c.args.depth c.args.reader.now c.read_list.new.reader
    (λ d g. of_list tree c.in-List.element c.in-List.field-1 (view row) d c.in-List.is (subst (λ (x : Tree). OrNull d (view row) (ArraySpells (JsonSpells (shape x)) d (view row))) c.deref.ensures g)) h)
    c.read_list.ensures.found

pub read_value-returns-in-Map-clause-found : goal.read_value-returns-in-Map-clause-found
read_value-returns-in-Map-clause-found t c =
    let tree = c.args.tree.now in
    let row = c.read_map.new.cell in
    let k = c.deref-in-Map.result.now in
    let v = c.deref-in-Map-2.result.now in
    IfOk-weaker c.read_map.result _ _
    (λ done h. same_front (λ d. OrNull d (view row) (MapSpells (JsonSpells (shape k)) (JsonSpells (shape v)) d (view row))) (λ d. JsonSpells (shape tree) d (view row)) c.args.depth c.args.reader.now c.read_map.new.reader
    (λ d g. of_map tree c.in-Map.key c.in-Map.value c.in-Map.field-2 (view row) d c.in-Map.is
    (subst (λ (x : Tree). OrNull d (view row) (MapSpells (JsonSpells (shape c.in-Map.key.value)) (JsonSpells (shape x)) d (view row))) c.deref-in-Map-2.ensures
    (subst (λ (x : Tree). OrNull d (view row) (MapSpells (JsonSpells (shape x)) (JsonSpells (shape v)) d (view row))) c.deref-in-Map.ensures g))) h)
    c.read_map.ensures.found

-- ---- read_list, read_map, read_struct

pub read_list-returns-in-Some-Null-clause-found : goal.read_list-returns-in-Some-Null-clause-found
read_list-returns-in-Some-Null-clause-found t c =
    let first : c.args.reader.now ≡ Token.null ∷ c.next.new.self = grind arith in
    null_front _ c.args.depth c.args.reader.now c.next.new.self (inl (refl, refl)) first

pub read_list-returns-in-Some-List-clause-found : goal.read_list-returns-in-Some-List-clause-found
read_list-returns-in-Some-List-clause-found t c =
    let first : c.args.reader.now ≡ Token.begin_array ∷ c.next.new.self = grind arith in
    let found = IfOk-weaker c.read_elements.result _ (λ done. ValueFront (λ d. OrNull d (view (Some (ListOf c.read_elements.new.rows))) (ArraySpells (JsonSpells (shape c.args.element.now)) d (view (Some (ListOf c.read_elements.new.rows))))) c.args.depth c.args.reader.now c.read_elements.new.reader)
    (λ done h. list_front (JsonSpells (shape c.args.element.now)) c.read_elements.new.rows c.args.depth c.args.reader.now c.next.new.self c.read_elements.new.reader first (omega arith) h)
    c.read_elements.ensures.found in
    rw c.in-Some-List.field-0-is (search (rules, the_lemmas, found))

pub read_map-returns-in-Some-Null-clause-found : goal.read_map-returns-in-Some-Null-clause-found
read_map-returns-in-Some-Null-clause-found t c =
    let first : c.args.reader.now ≡ Token.null ∷ c.next.new.self = grind arith in
    null_front _ c.args.depth c.args.reader.now c.next.new.self (inl (refl, refl)) first

pub read_map-returns-in-Some-Map-clause-found : goal.read_map-returns-in-Some-Map-clause-found
read_map-returns-in-Some-Map-clause-found t c =
    let first : c.args.reader.now ≡ Token.begin_array ∷ c.next.new.self = grind arith in
    let found = IfOk-weaker c.read_pairs.result _ (λ done. ValueFront (λ d. OrNull d (view (Some (MapOf c.read_pairs.new.pairs))) (MapSpells (JsonSpells (shape c.args.key.now)) (JsonSpells (shape c.args.value.now)) d (view (Some (MapOf c.read_pairs.new.pairs))))) c.args.depth c.args.reader.now c.read_pairs.new.reader)
    (λ done h. map_front (JsonSpells (shape c.args.key.now)) (JsonSpells (shape c.args.value.now)) c.read_pairs.new.pairs c.args.depth c.args.reader.now c.next.new.self c.read_pairs.new.reader first (omega arith) h)
    c.read_pairs.ensures.found in
    rw c.in-Some-Map.field-0-is (search (rules, the_lemmas, found))

pub read_struct-returns-in-Some-Null-clause-found : goal.read_struct-returns-in-Some-Null-clause-found
read_struct-returns-in-Some-Null-clause-found t c =
    let first : c.args.reader.now ≡ Token.null ∷ c.next.new.self = grind arith in
    null_front _ c.args.depth c.args.reader.now c.next.new.self (inl (refl, refl)) first

pub read_struct-returns-in-Some-Struct-clause-found : goal.read_struct-returns-in-Some-Struct-clause-found
unfolding value.out-Value denote.Hole.Carrier.out
read_struct-returns-in-Some-Struct-clause-found t c =
    let first : c.args.reader.now ≡ Token.begin_object ∷ c.next.new.self = grind arith in
    let fs = fields c.args.fields.now.items in
    let found = IfOk-weaker c.read_fields.result _ (λ done. ValueFront (λ d. OrNull d (view (Some (StructOf c.read_fields.new.rows))) (ObjectSpells (names_of fs) (λ cs. FieldsSpell fs d cs) d (view (Some (StructOf c.read_fields.new.rows))))) c.args.depth c.args.reader.now c.read_fields.new.reader)
    (λ done h. struct_front fs c.read_fields.new.rows c.args.depth c.args.reader.now c.next.new.self c.read_fields.new.reader first (omega arith) h)
    c.read_fields.ensures.found in
    rw c.in-Some-Struct.field-0-is (search (rules, the_lemmas, found))

-- ---- read_elements

pub read_elements-elements-preserved : goal.read_elements-elements-preserved
read_elements-elements-preserved t c =
    let Is = JsonSpells (shape c.args.tree.now) in
    let i = c.elements.count in
    let going : (after_end_array c.elements.reader ≡ None) × (c.take_end_array.new.self ≡ c.elements.reader) = grind arith in
    let row = c.read_value.new.cell in
    let rows = c.make_row_room.new.rows.items in
    let room : i < length rows = c.in_ok-make_row_room.ensures.room in
    let same : take i rows ≡ take i c.elements.rows.items = c.in_ok-make_row_room.ensures.before in
    let front : ValueFront (λ d. Is d (view row)) c.args.depth c.elements.reader c.read_value.new.reader =
    subst (λ (ts : List Token). ValueFront (λ d. Is d (view row)) c.args.depth ts c.read_value.new.reader) going.1 c.in_ok-read_value.ensures.found in
    let less : length c.read_value.new.reader < length c.elements.reader = rw (← going.1) c.in_ok-read_value.ensures.shorter in
    let grown : views (take (i + 1) (set rows i row)) ≡ views (take i c.elements.rows.items) ++ view row ∷ [] =
    ap views (take_more_set rows i row room ∙ ap (λ (xs : List (Option Value)). xs ++ row ∷ []) same) ∙ map-append view (take i c.elements.rows.items) (row ∷ []) in (
      rw grown (elements_next Is c.args.depth c.args.reader.now c.elements.reader c.read_value.new.reader (views (take i c.elements.rows.items)) (view row) going.0 front less c.elements.invariant.0),
      omega (arith, length-set rows i row),
    )

pub read_elements-returns-clause-found : goal.read_elements-returns-clause-found
read_elements-returns-clause-found t c =
    rw c.cut_rows.ensures
    (elements_last (JsonSpells (shape c.args.tree.now)) c.args.depth c.args.reader.now c.elements.reader c.take_end_array.new.self (views (take c.elements.count c.elements.rows.items)) c.elements-test.ensures c.elements.invariant.0)

-- ---- pairs

pub read_pair-returns-clause-found : goal.read_pair-returns-clause-found
read_pair-returns-clause-found t c =
    let K = JsonSpells (shape c.args.key.now) in
    let V = JsonSpells (shape c.args.value.now) in
    let first : c.args.reader.now ≡ Token.begin_array ∷ c.next.new.self = grind arith in
    let k = view c.read_value.new.cell in
    let v = view c.read_value-2.new.cell in
    let a = c.in_ok-read_value.ensures in
    let b = c.in_ok-read_value-2.ensures in
    let ended : after_end_array c.read_value-2.new.reader ≡ Some c.take_end_array.new.self = c.if-not-take_end_array.ensures in
    pair_front K V k v c.args.depth c.args.reader.now c.next.new.self c.take_end_array.new.self first (omega arith)
    (two_front (λ d. K d k) (λ d. V d v) (c.args.depth - 1) c.next.new.self c.read_value.new.reader c.read_value-2.new.reader c.take_end_array.new.self a.found b.found ended a.shorter b.shorter)

pub read_pairs-pairs-preserved : goal.read_pairs-pairs-preserved
read_pairs-pairs-preserved t c =
    let K = JsonSpells (shape c.args.key.now) in
    let V = JsonSpells (shape c.args.value.now) in
    let i = c.pairs.count in
    let going : (after_end_array c.pairs.reader ≡ None) × (c.take_end_array.new.self ≡ c.pairs.reader) = grind arith in
    let p = c.read_pair.new.pair in
    let ps = c.make_pair_room.new.pairs.items in
    let room : i < length ps = c.in_ok-make_pair_room.ensures.room in
    let same : take i ps ≡ take i c.pairs.pairs.items = c.in_ok-make_pair_room.ensures.before in
    let front : ValueFront (λ d. PairSpells K V d (paired p).0 (paired p).1) c.args.depth c.pairs.reader c.read_pair.new.reader =
    subst (λ (q : Cell × Cell). ValueFront (λ d. PairSpells K V d q.0 q.1) c.args.depth c.pairs.reader c.read_pair.new.reader) (sym (paired-is p))
    (subst (λ (ts : List Token). ValueFront (λ d. PairSpells K V d (view p.key) (view p.value)) c.args.depth ts c.read_pair.new.reader) going.1 c.in_ok-read_pair.ensures.found) in
    let less : length c.read_pair.new.reader < length c.pairs.reader = rw (← going.1) c.in_ok-read_pair.ensures.shorter in
    let grown : map paired (take (i + 1) (set ps i p)) ≡ map paired (take i c.pairs.pairs.items) ++ paired p ∷ [] =
    ap (map paired) (take_more_set ps i p room ∙ ap (λ (xs : List MapPair). xs ++ p ∷ []) same) ∙ map-append paired (take i c.pairs.pairs.items) (p ∷ []) in (
      rw grown (pairs_next K V c.args.depth c.args.reader.now c.pairs.reader c.read_pair.new.reader (map paired (take i c.pairs.pairs.items)) (paired p) going.0 front less c.pairs.invariant.0),
      omega (arith, length-set ps i p),
    )

pub read_pairs-returns-clause-found : goal.read_pairs-returns-clause-found
read_pairs-returns-clause-found t c =
    rw c.cut_pairs.ensures
    (pairs_last (JsonSpells (shape c.args.key.now)) (JsonSpells (shape c.args.value.now)) c.args.depth c.args.reader.now c.pairs.reader c.take_end_array.new.self (map paired (take c.pairs.count c.pairs.pairs.items)) c.pairs-test.ensures c.pairs.invariant.0)

-- ---- fields

pub read_fields-members-init : goal.read_fields-members-init
read_fields-members-init t c = (fields_first c.args.fields.now.items c.args.depth c.args.reader.now c.args.rows.now.items c.requires.as_many, omega arith)

pub read_fields-come_to-requires : goal.read_fields-come_to-requires
read_fields-come_to-requires t c =
    let as_many : length (read_up_to c.members.next c.members.rows.items) ≡ length c.args.fields.now.items = c.members.invariant.0.as_many in
    record { as_many = omega (arith, ap length c.deref.ensures.value, as_many, read_up_to-length c.members.next c.members.rows.items); within = c.members.invariant.1 }

pub read_fields-index_mut-requires : goal.read_fields-index_mut-requires
read_fields-index_mut-requires t c =
    let placed = c.in-Some-come_to.ensures.named in
    let as_many : length (read_up_to c.members.next c.members.rows.items) ≡ length c.args.fields.now.items = c.members.invariant.0.as_many in
    omega (arith, placed.0, ap length c.deref.ensures.value, as_many, read_up_to-length c.members.next c.members.rows.items, c.come_to.ensures.len)

pub read_fields-read_value-requires : goal.read_fields-read_value-requires
read_fields-read_value-requires t c =
    let placed = c.in-Some-come_to.ensures.named in
    let lt : c.in-Some-come_to.place < length c.args.fields.now.items = omega (arith, placed.0, ap length c.deref.ensures.value) in
    let less : 4 * c.args.depth + 1 < t = omega arith in
    (less, distinct_at c.args.fields.now.items c.in-Some-come_to.place c.index.result.now lt c.index.ensures c.requires.distinct)

pub read_fields-members-preserved : goal.read_fields-members-preserved
read_fields-members-preserved t c =
    let fs = c.args.fields.now.items in
    let i = c.in-Some-come_to.place in
    let f = c.index.result.now in
    let k = c.in-Some.name.now in
    let s = c.next_key.new.self in
    let row = c.read_value.new.cell in
    let old = read_up_to c.members.next c.members.rows.items in
    let placed = c.in-Some-come_to.ensures.named in
    let lt : i < length fs = omega (arith, placed.0, ap length c.deref.ensures.value) in
    let named : string_bytes f.name ≡ k = placed.1 f (c.index.ensures ∙ ap (λ (gs : List Field). get_or gs i f) (sym c.deref.ensures.value)) in
    let key : read_key c.members.reader ≡ Some (Some k, s) = grind arith in
    let moved : read_up_to c.come_to.new.next (set c.come_to.new.rows.items i row) ≡ set old i row = c.in-Some-come_to.ensures.rows row in (
      rw moved (fields_next fs c.args.depth c.args.reader.now c.members.reader s c.read_value.new.reader old k i f row lt c.index.ensures named c.requires.names key c.in_ok-read_value.ensures.found
          (read_key-shorter c.members.reader (Some k) s key) c.in_ok-read_value.ensures.shorter c.members.invariant.0),
      omega (arith, length-set c.come_to.new.rows.items i row, c.come_to.ensures.within),
    )

pub read_fields-returns-clause-found : goal.read_fields-returns-clause-found
read_fields-returns-clause-found t c =
    let ended : read_key c.members.reader ≡ Some (None, c.next_key.new.self) = grind arith in
    rw c.end_at.ensures (fields_last c.args.fields.now.items c.args.depth c.args.reader.now c.members.reader c.next_key.new.self (read_up_to c.members.next c.members.rows.items) ended c.members.invariant.0)
