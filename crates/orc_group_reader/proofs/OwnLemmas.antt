-- A column's streams beside PRESENT, entered at their positions.
use Rattle.std.proofs.Common.{◌≡◌, ℕ, Bool, true, false, Option, Some, None, List, ◌∷◌, ◌++◌, length, drop, get_or, map, refl, sym, ap, ◌∙◌, subst, arith, length-append}
use Rattle.std.specs.declared.vec.Vec.{Vec}
use Rattle.std.specs.declared.alloc.Global.{Global}
use Rattle.orc_values.specs.Cells.{Cell, values}
use Rattle.orc_values.specs.Shapes.{Shape, scalar, list_of, map_of, struct_of}
use Rattle.orc_values.specs.declared.kind.Scalar.TheVariants as kind
use Rattle.orc_column_reader.specs.Columns.{entry_bytes}
use Rattle.orc_column_reader.specs.Starting.{HasNoDictionary, LacksEntries}
use Rattle.orc_column_reader.specs.Stripe.{Streams, version, version_at, has_dictionary, IsDictionary, SpellsTexts, SpellsValues}
use Rattle.orc_column_reader.specs.declared.entry.Entry.{Entry}
use Rattle.orc_wire.specs.declared.encoding.Encoding.{Encoding}
use Rattle.orc_wire.specs.EncodingKinds.{is_dictionary}
use Rattle.orc_row_index.specs.Positions.{IsPosition, reader, octets_position}
use Rattle.orc_row_groups.specs.Counts.{octets}
use Rattle.orc_row_index.specs.RunStreams.{RunStream, value_runs, value_bytes}
use Rattle.orc_row_index.specs.Walking.{runs, lent_bytes, ArePlaced, HasOctets}
use Rattle.orc_row_groups.proofs.Counted.{octets_of_values}
use Rattle.orc_row_index.specs.declared.placed.PlacedStreams.{PlacedStreams}
use Rattle.orc_group_reader.specs.Columns.{CutsOctets, IsWithoutFront, OctetsAgree, HasDictionaryEntries, EntriesOf, OwnTurns}
use Rattle.orc_group_reader.specs.Refusals.{EndsBefore}
use Rattle.orc_group_reader.specs.Streams.{RunsAgree, NeverEnters}
use Rattle.orc_group_reader.proofs.SomeValues.{own_some}

-- ---- bytes as they are

pub cut_turned : (b a : Option (List ℕ)) (n : ℕ) (ps rest behind last : List ℕ) → OctetsAgree n b a → CutsOctets b ps rest behind → ps ≡ octets_position a n ++ last → (behind ≡ last) × IsWithoutFront a n rest
cut_turned None None n ps rest behind last agree h e = (h ∙ e, tt)
cut_turned None (Some d) n ps rest behind last agree h e = absurd agree
cut_turned (Some d) None n ps rest behind last agree h e = absurd agree
cut_turned (Some b) (Some a) n ps rest behind last agree h e =
    let same = heads h.0 n behind last (sym h.1 ∙ e) in
    (same.1, h.2 ∙ ap (λ (k : ℕ). drop k b) same.0 ∙ agree.same)
  where
    heads : (o n : ℕ) (b l : List ℕ) → o ∷ b ≡ n ∷ l → (o ≡ n) × (b ≡ l)
    heads o n b l e = (cc, cc)

pub cut_never : (b a : Option (List ℕ)) (n : ℕ) (ps last : List ℕ) → OctetsAgree n b a → HasOctets a n → ps ≡ octets_position a n ++ last → EndsBefore b ps → ⊥
cut_never None None n ps last agree there e h = h
cut_never None (Some d) n ps last agree there e h = absurd agree
cut_never (Some d) None n ps last agree there e h = absurd agree
cut_never (Some b) (Some a) n ps last agree there e h = omega (arith, h n last e, there, agree.long)

-- ---- dictionaries

same_dictionary : (x y : Streams) (entries : List (List ℕ)) → y.encoding ≡ x.encoding → (y.stream 2 ≡ x.stream 2) × (y.stream 3 ≡ x.stream 3) → IsDictionary y entries → IsDictionary x entries
same_dictionary x y entries e same d =
    let v : version y ≡ version x = ap (λ (k : Encoding). version_at k.kind) e in
    record { counted = d.counted ∙ ap (λ (k : Encoding). k.dictionary_size) e; spelled = (rw (v, same.0) at d.spelled.0, d.spelled.1 ∙ same.1) }

entries_here : (d : Bool) (x y : Streams) (entries : Option (Vec Entry Global)) → y.encoding ≡ x.encoding → (d ≡ true → (y.stream 2 ≡ x.stream 2) × (y.stream 3 ≡ x.stream 3)) → HasDictionaryEntries d y entries → HasDictionaryEntries d x entries
entries_here true x y (Some entries) e same h = same_dictionary x y (map entry_bytes entries.items) e (same refl) h
entries_here true x y None e same h = absurd h
entries_here false x y (Some entries) e same h = absurd h
entries_here false x y None e same h = tt

pub entries_turned : (s : Shape) (x y : Streams) (entries : Option (Vec Entry Global)) → y.encoding ≡ x.encoding → (has_dictionary x ≡ true → (y.stream 2 ≡ x.stream 2) × (y.stream 3 ≡ x.stream 3)) → EntriesOf s y entries → EntriesOf s x entries
entries_turned (scalar kind.Boolean o) x y entries e same h = tt
entries_turned (scalar kind.Byte o) x y entries e same h = tt
entries_turned (scalar kind.Short o) x y entries e same h = tt
entries_turned (scalar kind.Int o) x y entries e same h = tt
entries_turned (scalar kind.Long o) x y entries e same h = tt
entries_turned (scalar kind.Date o) x y entries e same h = tt
entries_turned (scalar kind.Binary o) x y entries e same h = tt
entries_turned (scalar kind.String o) x y entries e same h =
    let d : has_dictionary y ≡ has_dictionary x = ap (λ (k : Encoding). is_dictionary k.kind) e in
    entries_here (has_dictionary x) x y entries e same (subst (λ (b : Bool). HasDictionaryEntries b y entries) d h)
entries_turned (list_of s o) x y entries e same h = tt
entries_turned (map_of k v o) x y entries e same h = tt
entries_turned (struct_of fs o) x y entries e same h = tt

other_way : (x y : Streams) → y.encoding ≡ x.encoding → (y.stream 2 ≡ x.stream 2) × (y.stream 3 ≡ x.stream 3) → (x.stream 2 ≡ y.stream 2) × (x.stream 3 ≡ y.stream 3)
other_way x y e same = (sym same.0, sym same.1)

lacks_none : (d : Bool) (x y : Streams) (vs : List Cell) → y.encoding ≡ x.encoding → (d ≡ true → (y.stream 2 ≡ x.stream 2) × (y.stream 3 ≡ x.stream 3)) → SpellsTexts x d vs → LacksEntries d y → ⊥
lacks_none true x y vs e same h lacks = lacks h.0 (same_dictionary y x h.0 (sym e) (other_way x y e (same refl)) h.1)
lacks_none false x y vs e same h lacks = lacks

-- a column whose texts are spelled has its dictionary
pub dictionary_there : (s : Shape) (x y : Streams) (vs : List Cell) → y.encoding ≡ x.encoding → (has_dictionary x ≡ true → (y.stream 2 ≡ x.stream 2) × (y.stream 3 ≡ x.stream 3)) → SpellsValues s x vs → HasNoDictionary s y → ⊥
dictionary_there (scalar kind.Boolean o) x y vs e same h none = none
dictionary_there (scalar kind.Byte o) x y vs e same h none = none
dictionary_there (scalar kind.Short o) x y vs e same h none = none
dictionary_there (scalar kind.Int o) x y vs e same h none = none
dictionary_there (scalar kind.Long o) x y vs e same h none = none
dictionary_there (scalar kind.Date o) x y vs e same h none = none
dictionary_there (scalar kind.Binary o) x y vs e same h none = none
dictionary_there (scalar kind.String o) x y vs e same h none =
    let d : has_dictionary y ≡ has_dictionary x = ap (λ (k : Encoding). is_dictionary k.kind) e in
    lacks_none (has_dictionary x) x y vs e same h (subst (λ (b : Bool). LacksEntries b y) d none)
dictionary_there (list_of s o) x y vs e same h none = none
dictionary_there (map_of k v o) x y vs e same h none = none
dictionary_there (struct_of fs o) x y vs e same h none = none

-- ---- the stream of runs

pub record AtOwn (s : Shape) (x : Streams) (placed : PlacedStreams) (before : List Cell) (rest behind : List ℕ) : Type 0 where
  pub cut : IsWithoutFront (value_bytes s x) (octets (values before)) rest
  pub place : IsPosition reader (value_runs s x) (length (values before)) behind
  pub agree : RunsAgree (get_or behind 0 0) (runs placed.own) (value_runs s x)

pub at_own : (s : Shape) (x y : Streams) (placed : PlacedStreams) (before after : List Cell) (ps rest behind last : List ℕ) → ArePlaced s y placed → OwnTurns s x y before after last → ps ≡ octets_position (value_bytes s x) (octets before) ++ last
    → CutsOctets (lent_bytes placed.content) ps rest behind → AtOwn s x placed before rest behind
at_own s x y placed before after ps rest behind last are t e h =
    let agree = subst (λ (c : Option (List ℕ)). OctetsAgree (octets before) c (value_bytes s x)) (sym are.content_is) t.content_same in
    let k = cut_turned (lent_bytes placed.content) (value_bytes s x) (octets before) ps rest behind last agree h e in
    record {
      cut = subst (λ (n : ℕ). IsWithoutFront (value_bytes s x) n rest) (sym (octets_of_values before)) k.1;
      place = subst (λ (p : List ℕ). IsPosition reader (value_runs s x) (length (values before)) p) (sym k.0) t.place;
      agree = subst (λ (r : RunStream). RunsAgree (get_or behind 0 0) r (value_runs s x)) (sym are.own_is) (subst (λ (p : List ℕ). RunsAgree (get_or p 0 0) (value_runs s y) (value_runs s x)) (sym k.0) t.own_same);
    }

pub own_never : (s : Shape) (x y : Streams) (placed : PlacedStreams) (before after : List Cell) (rest behind last : List ℕ) → OwnTurns s x y before after last → AtOwn s x placed before rest behind → NeverEnters (runs placed.own) behind → ⊥
own_never s x y placed before after rest behind last t at never =
    never (value_runs s x) (length (values before)) at.place at.agree (own_some s x (values before ++ values after) (length (values before)) t.spelled (omega (arith, length-append (values before) (values after))))
