-- A value at the front of tokens, by the token that it begins with.
use Rattle.std.proofs.Common.{◌≡◌, ℕ, ◌-◌, ◌<◌, List, [], ◌∷◌, length, Option, Some, None, option_map, option_and_then, refl, sym, ap, ◌∙◌, arith}
use Rattle.json.specs.Token.{Token}
use Rattle.json.specs.Json as json
use Rattle.json.specs.Json.{parse_map, after_end_array}
use Rattle.json.proofs.Grammar.{value_is, value-begin_array, value-begin_object, items_more, items_end}
use Rattle.serde_json.specs.Data.{Data, array, object, Items, no_items, item, Members}
use Rattle.serde_json.specs.Read.{of_json, of_items}
use Rattle.orc_json_reader.specs.Fronts.{token_data, ValueFront, ItemsFront, MembersFront}

-- a token that is a value by itself
pub token_front : (Is : Data → Type 0) (t : Token) (d : Data) (depth : ℕ) (ts : List Token) → token_data t ≡ Some d → Is d → ValueFront Is depth (t ∷ ts) ts
token_front Is Token.begin_object d depth ts e is = absurd (cc)
token_front Is Token.end_object d depth ts e is = absurd (cc)
token_front Is Token.begin_array d depth ts e is = absurd (cc)
token_front Is Token.end_array d depth ts e is = absurd (cc)
token_front Is (Token.key s) d depth ts e is = absurd (cc)
token_front Is (Token.string s) d depth ts e is = record { text = json.string s; value = d; read = value_is depth (Token.string s ∷ ts); means = e; is = is }
token_front Is (Token.number s) d depth ts e is = record { text = json.number s; value = d; read = value_is depth (Token.number s ∷ ts); means = e; is = is }
token_front Is (Token.boolean b) d depth ts e is = record { text = json.boolean b; value = d; read = value_is depth (Token.boolean b ∷ ts); means = e; is = is }
token_front Is Token.null d depth ts e is = record { text = json.null; value = d; read = value_is depth (Token.null ∷ ts); means = e; is = is }
token_front Is Token.bad d depth ts e is = absurd (cc)

pub array_front : (Are : Items → Type 0) (Is : Data → Type 0) (depth : ℕ) (ts new : List Token) → ((ds : Items) → Are ds → Is (array ds)) → 0 < depth → ItemsFront Are (depth - 1) ts new
    → ValueFront Is depth (Token.begin_array ∷ ts) new
array_front Are Is depth ts new turn some f =
    record { text = json.array f.text; value = array f.values; read = value-begin_array depth ts some ∙ ap (parse_map json.array) f.read; means = ap (option_map array) f.means; is = turn f.values f.are }

pub object_front : (Are : Members → Type 0) (Is : Data → Type 0) (depth : ℕ) (ts new : List Token) → ((ms : Members) → Are ms → Is (object ms)) → 0 < depth → MembersFront Are (depth - 1) ts new
    → ValueFront Is depth (Token.begin_object ∷ ts) new
object_front Are Is depth ts new turn some f =
    record { text = json.object f.text; value = object f.members; read = value-begin_object depth ts some ∙ ap (parse_map json.object) f.read; means = ap (option_map object) f.means; is = turn f.members f.are }

-- no value begins with the bracket that ends an array
not_end : (depth : ℕ) (ts : List Token) (q : json.Json × List Token) → json.value depth ts ≡ Some q → after_end_array ts ≡ None
not_end depth [] q e = refl
not_end depth (Token.begin_object ∷ ts) q e = refl
not_end depth (Token.end_object ∷ ts) q e = refl
not_end depth (Token.begin_array ∷ ts) q e = refl
not_end depth (Token.end_array ∷ ts) q e = let never : None ≡ Some q = sym (value_is depth (Token.end_array ∷ ts)) ∙ e in absurd (cc)
not_end depth (Token.key s ∷ ts) q e = refl
not_end depth (Token.string s ∷ ts) q e = refl
not_end depth (Token.number s ∷ ts) q e = refl
not_end depth (Token.boolean b ∷ ts) q e = refl
not_end depth (Token.null ∷ ts) q e = refl
not_end depth (Token.bad ∷ ts) q e = refl

pub item_means : (j : json.Json) (js : json.Items) (d : Data) (ds : Items) → of_json j ≡ Some d → of_items js ≡ Some ds → of_items (json.item j js) ≡ Some (item d ds)
item_means j js d ds p q = ap (λ (o : Option Data). option_and_then (λ x. option_map (item x) (of_items js)) o) p ∙ ap (option_map (item d)) q

-- two values and the bracket
pub two_front : (P Q : Data → Type 0) (depth : ℕ) (ts r s u : List Token) → ValueFront P depth ts r → ValueFront Q depth r s → after_end_array s ≡ Some u → length r < length ts → length s < length r
    → ItemsFront (λ ds. (x : Data) × (y : Data) × (ds ≡ item x (item y no_items)) × P x × Q y) depth ts u
two_front P Q depth ts r s u a b e p q =
    let v = json.value depth in
    let last : json.items v (length ts - 1 - 1) s ≡ Some (json.no_items, u) = items_end v (length ts - 1 - 1) s u (omega arith) e in
    let second : json.items v (length ts - 1) r ≡ Some (json.item b.text json.no_items, u) =
    items_more v (length ts - 1) r s b.text (omega arith) (not_end depth r _ b.read) b.read ∙ ap (parse_map (json.item b.text)) last in
    record {
      text = json.item a.text (json.item b.text json.no_items);
      values = item a.value (item b.value no_items);
      read = items_more v (length ts) ts r a.text (omega arith) (not_end depth ts _ a.read) a.read ∙ ap (parse_map (json.item a.text)) second;
      means = item_means a.text (json.item b.text json.no_items) a.value (item b.value no_items) a.means (item_means b.text json.no_items b.value no_items b.means refl);
      are = (a.value, b.value, refl, a.is, b.is);
    }
