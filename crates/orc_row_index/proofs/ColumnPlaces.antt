-- The places of a column: there in streams that spell its cells, one list behind some cells, and right for a reader.
use Rattle.std.proofs.Common.{◌≡◌, ℕ, suc, ◌+◌, ◌≤◌, Bool, true, false, List, [], ◌∷◌, ◌++◌, length, map, refl, sym, ap, ◌∙◌, arith, length-append}
use Rattle.std.specs.List.{AllZip}
use Rattle.std.proofs.lemmas.List.{length-map}
use Rattle.std.proofs.lemmas.List.Sums.{sum_by-cons}
use Rattle.orc_positions.proofs.BitPositionLemmas.{has_bytes}
use Rattle.orc_values.specs.Cells.{Cell, is_value, parts, pairs_in, values}
use Rattle.orc_values.specs.Shapes.{Shape, scalar, list_of, map_of, struct_of}
use Rattle.orc_values.specs.declared.kind.Scalar.{Scalar}
use Rattle.orc_values.specs.declared.kind.Scalar.TheVariants as kind
use Rattle.orc_column_reader.specs.Columns.{IsBool, IsByte, IsInt, IsDate, IsText, IsBinary}
use Rattle.orc_column_reader.specs.Spellings.{concatenated, size}
use Rattle.orc_column_reader.specs.Stripe.{Streams, has_dictionary, Marks, SpellsTexts, SpellsScalar, SpellsValues, IsColumn}
use Rattle.orc_row_index.specs.RunStreams.{present_runs, text_runs, scalar_runs, value_runs, text_octets, scalar_octets, value_bytes}
use Rattle.orc_row_index.specs.Positions.{octets_position, AreReadPositions, AreWrittenPositions}
use Rattle.orc_row_groups.specs.Counts.{octets_in, octets}
use Rattle.orc_row_index.specs.Walking.{HasPosition, HasOctets, HavePositions}
use Rattle.orc_row_index.proofs.StreamPlaces.{place_read, one_stream_place}
use Rattle.orc_row_groups.proofs.Counted.{values_more, octets_more, octets_of_values}

-- ---- a column's streams have the values that its cells have

pub stand_long : {X : Type 0} (stands : X → Cell → Type 0) (xs : List X) (cs : List Cell) → AllZip stands xs cs → length xs ≡ length cs
stand_long stands [] [] h = refl
stand_long stands [] (c ∷ cs) h = absurd h
stand_long stands (x ∷ xs) [] h = absurd h
stand_long stands (x ∷ xs) (c ∷ cs) h = ap suc (stand_long stands xs cs h.1)

-- the bytes that stand for cells are as many as the cells have
stand_octets : (stands : List ℕ → Cell → Type 0) → ((t : List ℕ) (c : Cell) → stands t c → octets_in c ≡ length t) → (ts : List (List ℕ)) (cs : List Cell) → AllZip stands ts cs → length (concatenated ts) ≡ octets cs
stand_octets stands long [] [] h = refl
stand_octets stands long [] (c ∷ cs) h = absurd h
stand_octets stands long (t ∷ ts) [] h = absurd h
stand_octets stands long (t ∷ ts) (c ∷ cs) h =
    let first = long t c h.0 in
    let rest = stand_octets stands long ts cs h.1 in
    omega (arith, length-append t (concatenated ts), first, rest, sum_by-cons octets_in c cs)

pub text_long : (t : List ℕ) (c : Cell) → IsText t c → octets_in c ≡ length t
text_long t c h = ap octets_in h.1

pub binary_long : (t : List ℕ) (c : Cell) → IsBinary t c → octets_in c ≡ length t
binary_long t c h = ap octets_in h.1

present_there : (b : List ℕ) (marks : List Bool) (n : ℕ) → Marks b marks → n ≤ length marks → HasPosition (present_runs b) n
present_there [] marks n h le = tt
present_there (x ∷ b) marks n h le = has_bytes (x ∷ b) (length marks) n (marks, h, refl) le

texts_there : (d : Bool) (x : Streams) (vs : List Cell) (n : ℕ) → SpellsTexts x d vs → n ≤ length vs → HasPosition (text_runs d x) n
texts_there true x vs n h le = let s = h.2 in (s.0, s.2, omega (arith, le, stand_long _ s.0 vs s.1))
texts_there false x vs n h le = (map size h.0, h.2.0, omega (arith, le, stand_long IsText h.0 vs h.1, length-map h.0 (size {X = ℕ})))

scalar_there : (k : Scalar) (x : Streams) (vs : List Cell) (n : ℕ) → SpellsScalar k x vs → n ≤ length vs → HasPosition (scalar_runs k x) n
scalar_there kind.Boolean x vs n h le = has_bytes (x.stream 1) (length h.0) n (h.0, h.2, refl) (omega (arith, le, stand_long IsBool h.0 vs h.1))
scalar_there kind.Byte x vs n h le = (h.0, h.2, omega (arith, le, stand_long IsByte h.0 vs h.1))
scalar_there kind.Short x vs n h le = (h.0, h.2, omega (arith, le, stand_long (IsInt kind.Short) h.0 vs h.1))
scalar_there kind.Int x vs n h le = (h.0, h.2, omega (arith, le, stand_long (IsInt kind.Int) h.0 vs h.1))
scalar_there kind.Long x vs n h le = (h.0, h.2, omega (arith, le, stand_long (IsInt kind.Long) h.0 vs h.1))
scalar_there kind.Date x vs n h le = (h.0, h.2, omega (arith, le, stand_long IsDate h.0 vs h.1))
scalar_there kind.String x vs n h le = texts_there (has_dictionary x) x vs n h le
scalar_there kind.Binary x vs n h le = (map size h.0, h.2.0, omega (arith, le, stand_long IsBinary h.0 vs h.1, length-map h.0 (size {X = ℕ})))

own_there : (s : Shape) (x : Streams) (vs : List Cell) (n : ℕ) → SpellsValues s x vs → n ≤ length vs → HasPosition (value_runs s x) n
own_there (scalar k o) x vs n h le = scalar_there k x vs n h le
own_there (list_of s o) x vs n h le = (map (λ v. size (parts v)) vs, h, omega (arith, le, length-map vs (λ (v : Cell). size (parts v))))
own_there (map_of k v o) x vs n h le = (map (λ m. size (pairs_in m)) vs, h, omega (arith, le, length-map vs (λ (m : Cell). size (pairs_in m))))
own_there (struct_of fs o) x vs n h le = tt

text_content : (d : Bool) (x : Streams) (vs : List Cell) (n : ℕ) → SpellsTexts x d vs → n ≤ octets vs → HasOctets (text_octets d x) n
text_content true x vs n h le = tt
text_content false x vs n h le = omega (arith, ap length h.2.1, stand_octets IsText text_long h.0 vs h.1, le)

scalar_content : (k : Scalar) (x : Streams) (vs : List Cell) (n : ℕ) → SpellsScalar k x vs → n ≤ octets vs → HasOctets (scalar_octets k x) n
scalar_content kind.Boolean x vs n h le = tt
scalar_content kind.Byte x vs n h le = tt
scalar_content kind.Short x vs n h le = tt
scalar_content kind.Int x vs n h le = tt
scalar_content kind.Long x vs n h le = tt
scalar_content kind.Date x vs n h le = tt
scalar_content kind.String x vs n h le = text_content (has_dictionary x) x vs n h le
scalar_content kind.Binary x vs n h le = omega (arith, ap length h.2.1, stand_octets IsBinary binary_long h.0 vs h.1, le)

own_content : (s : Shape) (x : Streams) (vs : List Cell) (n : ℕ) → SpellsValues s x vs → n ≤ octets vs → HasOctets (value_bytes s x) n
own_content (scalar k o) x vs n h le = scalar_content k x vs n h le
own_content (list_of s o) x vs n h le = tt
own_content (map_of k v o) x vs n h le = tt
own_content (struct_of fs o) x vs n h le = tt

-- streams that spell a column's cells have the places behind each front of them
pub column_there : (s : Shape) (x : Streams) (column before after : List Cell) → column ≡ before ++ after → IsColumn s x column → HavePositions (present_runs (x.stream 0)) (value_bytes s x) (value_runs s x) before
column_there s x column before after e h =
    let cells : length column ≡ length before + length after = ap length e ∙ length-append before after in
    let vs : length (values column) ≡ length (values before) + length (values after) = ap (λ cs. length (values cs)) e ∙ values_more before after in
    let os : octets (values column) ≡ octets before + octets after = octets_of_values column ∙ ap octets e ∙ octets_more before after in
    record {
      in_present = present_there (x.stream 0) (map is_value column) (length before) h.marks (omega (arith, cells, length-map column is_value));
      in_content = own_content s x (values column) (octets before) h.spelled (omega (arith, os));
      in_own = own_there s x (values column) (length (values before)) h.spelled (omega (arith, vs));
    }

-- ---- laws of places

-- a writer's places are right for a reader
pub places_read : (s : Shape) (x : Streams) (before : List Cell) (ps : List ℕ) → AreWrittenPositions s x before ps → AreReadPositions s x before ps
places_read s x before ps h = record {
  first = h.first;
  last = h.last;
  parts = h.parts;
  present_position = place_read (present_runs (x.stream 0)) (length before) h.first h.present_position;
  value_position = place_read (value_runs s x) (length (values before)) h.last h.value_position;
}

-- and there is one list of them
pub one_places : (s : Shape) (x : Streams) (before : List Cell) (ps qs : List ℕ) → AreWrittenPositions s x before ps → AreWrittenPositions s x before qs → ps ≡ qs
one_places s x before ps qs h k =
    let first = one_stream_place (present_runs (x.stream 0)) (length before) h.first k.first h.present_position k.present_position in
    let last = one_stream_place (value_runs s x) (length (values before)) h.last k.last h.value_position k.value_position in
    h.parts ∙ (λ i. first i ++ (octets_position (value_bytes s x) (octets before) ++ last i)) ∙ sym k.parts
