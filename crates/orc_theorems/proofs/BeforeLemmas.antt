-- A stripe that differs from one which starts a group only before the group's offsets starts it, too.
use Rattle.std.proofs.Common.{◌≡◌, ◌∙◌, ℕ, ◌+◌, ◌*◌, ◌<◌, Bool, true, false, true≢false, Option, Some, None, List, [], ◌∷◌, ◌++◌, length, get_or, take, drop, refl, sym, ap, subst, arith, append_assoc, length-append, get_or-append-add}
use Rattle.std.specs.Prelude.{if◌then◌else◌, not}
use Rattle.orc_wire.specs.Messages.{row_index, stripe_footer}
use Rattle.orc_wire.specs.Spells.{Spells}
use Rattle.orc_wire.specs.declared.encoding.Encoding.{Encoding}
use Rattle.orc_wire.specs.declared.row_index.RowIndexEntry.{RowIndexEntry}
use Rattle.orc_wire.specs.declared.stripe_footer.StripeFooter.{StripeFooter}
use Rattle.orc_wire.specs.EncodingKinds.{is_dictionary}
use Rattle.orc_values.specs.Cells.{Cell}
use Rattle.orc_values.specs.Columns.{cells}
use Rattle.orc_values.specs.Shapes.{Shape, scalar, list_of, map_of, struct_of, width, shape_at}
use Rattle.orc_values.specs.declared.kind.Scalar.TheVariants as kind
use Rattle.orc_directory.specs.Directory.{slice}
use Rattle.orc_column_reader.specs.Stripe.{Streams, HasFooter, encoding_at}
use Rattle.orc_row_index.specs.Positions.{octets_position, octets_size, position_size}
use Rattle.orc_row_groups.specs.Counts.{octets}
use Rattle.orc_row_index.specs.RunStreams.{RunStream, no_stream, bit_runs, byte_runs, number_runs, present_runs, text_runs, value_runs, text_octets, value_bytes}
use Rattle.orc_group_reader.specs.Entering.{AgreeFrom}
use Rattle.orc_group_reader.specs.Streams.{RunsAgree}
use Rattle.orc_group_reader.specs.Columns.{OctetsAgree, AgreeFromPositions}
use Rattle.orc_stripe_reader.specs.Opened.{Opened}
use Rattle.orc_stripe_reader.specs.GroupCursors.{IsGroupEntry, StartsGroup}
use Rattle.orc_theorems.specs.BeforeGroups.{offset_of, with_bytes, DiffersOnlyBefore}
use Rattle.orc_row_index.proofs.PositionParts.{place_long}

-- ---- streams that agree with one that agrees with a third

agree_through : (o : ℕ) (b a x : List ℕ) → AgreeFrom o b a → AgreeFrom o a x → AgreeFrom o b x
agree_through o b a x h k = record { long = h.long ∙ k.long; same = h.same ∙ k.same }

-- those that are the same from the start on are so from everywhere on
agree_later : (o : ℕ) (b a : List ℕ) → AgreeFrom 0 b a → AgreeFrom o b a
agree_later o b a h = let same : b ≡ a = h.same in record { long = h.long; same = ap (λ (t : List ℕ). drop o t) same }

runs_through : (o : ℕ) (b a x : RunStream) → RunsAgree o b a → RunsAgree o a x → RunsAgree o b x
runs_through o no_stream no_stream x h k = k
runs_through o no_stream (bit_runs a) x h k = absurd h
runs_through o no_stream (byte_runs a) x h k = absurd h
runs_through o no_stream (number_runs v s a) x h k = absurd h
runs_through o (bit_runs b) no_stream x h k = absurd h
runs_through o (bit_runs b) (bit_runs a) no_stream h k = absurd k
runs_through o (bit_runs b) (bit_runs a) (bit_runs x) h k = agree_through o b a x h k
runs_through o (bit_runs b) (bit_runs a) (byte_runs x) h k = absurd k
runs_through o (bit_runs b) (bit_runs a) (number_runs u r x) h k = absurd k
runs_through o (bit_runs b) (byte_runs a) x h k = absurd h
runs_through o (bit_runs b) (number_runs v s a) x h k = absurd h
runs_through o (byte_runs b) no_stream x h k = absurd h
runs_through o (byte_runs b) (bit_runs a) x h k = absurd h
runs_through o (byte_runs b) (byte_runs a) no_stream h k = absurd k
runs_through o (byte_runs b) (byte_runs a) (bit_runs x) h k = absurd k
runs_through o (byte_runs b) (byte_runs a) (byte_runs x) h k = agree_through o b a x h k
runs_through o (byte_runs b) (byte_runs a) (number_runs u r x) h k = absurd k
runs_through o (byte_runs b) (number_runs v s a) x h k = absurd h
runs_through o (number_runs w t b) no_stream x h k = absurd h
runs_through o (number_runs w t b) (bit_runs a) x h k = absurd h
runs_through o (number_runs w t b) (byte_runs a) x h k = absurd h
runs_through o (number_runs w t b) (number_runs v s a) no_stream h k = absurd k
runs_through o (number_runs w t b) (number_runs v s a) (bit_runs x) h k = absurd k
runs_through o (number_runs w t b) (number_runs v s a) (byte_runs x) h k = absurd k
runs_through o (number_runs w t b) (number_runs v s a) (number_runs u r x) h k = (h.0 ∙ k.0, h.1 ∙ k.1, agree_through o b a x h.2 k.2)

octets_through : (n : ℕ) (b a x : Option (List ℕ)) → OctetsAgree n b a → OctetsAgree n a x → OctetsAgree n b x
octets_through n None None x h k = k
octets_through n None (Some a) x h k = absurd h
octets_through n (Some b) None x h k = absurd h
octets_through n (Some b) (Some a) None h k = absurd k
octets_through n (Some b) (Some a) (Some x) h k = agree_through n b a x h k

-- ---- how many positions they have

runs_alike : (o : ℕ) (a b : RunStream) → RunsAgree o a b → position_size a ≡ position_size b
runs_alike o no_stream no_stream h = refl
runs_alike o no_stream (bit_runs b) h = absurd h
runs_alike o no_stream (byte_runs b) h = absurd h
runs_alike o no_stream (number_runs v s b) h = absurd h
runs_alike o (bit_runs a) no_stream h = absurd h
runs_alike o (bit_runs a) (bit_runs b) h = refl
runs_alike o (bit_runs a) (byte_runs b) h = absurd h
runs_alike o (bit_runs a) (number_runs v s b) h = absurd h
runs_alike o (byte_runs a) no_stream h = absurd h
runs_alike o (byte_runs a) (bit_runs b) h = absurd h
runs_alike o (byte_runs a) (byte_runs b) h = refl
runs_alike o (byte_runs a) (number_runs v s b) h = absurd h
runs_alike o (number_runs w t a) no_stream h = absurd h
runs_alike o (number_runs w t a) (bit_runs b) h = absurd h
runs_alike o (number_runs w t a) (byte_runs b) h = absurd h
runs_alike o (number_runs w t a) (number_runs v s b) h = refl

octets_alike : (o : ℕ) (a b : Option (List ℕ)) → OctetsAgree o a b → octets_size a ≡ octets_size b
octets_alike o None None h = refl
octets_alike o None (Some b) h = absurd h
octets_alike o (Some a) None h = absurd h
octets_alike o (Some a) (Some b) h = refl

-- ---- where the offsets stand among the positions

first_at : (first rest : List ℕ) → length first ≡ 3 → get_or (first ++ rest) 0 0 ≡ get_or first 0 0
first_at [] rest n = let none : 0 ≡ 3 = n in absurd (omega (arith, none))
first_at (p ∷ ps) rest n = refl

next_at : (first rest : List ℕ) (k : ℕ) → length first ≡ k → get_or (first ++ rest) k 0 ≡ get_or rest 0 0
next_at first rest k n =
    let at : k ≡ length first + 0 = omega (arith, n) in
    ap (λ (j : ℕ). get_or (first ++ rest) j 0) at ∙ get_or-append-add first rest 0 0

content_at : (first : List ℕ) (content : Option (List ℕ)) (n : ℕ) (last : List ℕ) (k : ℕ) → length first ≡ k → octets_size content ≡ 1 → get_or (first ++ (octets_position content n ++ last)) k 0 ≡ n
content_at first None n last k e one = let none : 0 ≡ 1 = one in absurd (omega (arith, none))
content_at first (Some b) n last k e one = next_at first (n ∷ last) k e

last_at : (first : List ℕ) (content : Option (List ℕ)) (n : ℕ) (last : List ℕ) (k : ℕ) → length first + octets_size content ≡ k
    → get_or (first ++ (octets_position content n ++ last)) k 0 ≡ get_or last 0 0
last_at first None n last k e = let sum : length first + 0 ≡ k = e in next_at first last k (omega (arith, sum))
last_at first (Some b) n last k e =
    let sum : length first + 1 ≡ k = e in
    let long : length (first ++ n ∷ []) ≡ length first + 1 = length-append first (n ∷ []) in
    ap (λ (l : List ℕ). get_or l k 0) (sym (append_assoc first (n ∷ []) last)) ∙ next_at (first ++ n ∷ []) last k (omega (arith, sum, long))

-- ---- the streams of one column, by their kinds

abbrev streams : Encoding → (ℕ → List ℕ) → Streams
streams e f = record { encoding = e; stream = f }

abbrev present_of : (ℕ → List ℕ) → ℕ
present_of f = position_size (present_runs (f 0))

present_between : (o off : ℕ) (b a : List ℕ) → (position_size (present_runs a) ≡ 3 → off ≡ o) → AgreeFrom off b a → RunsAgree o (present_runs b) (present_runs a)
present_between o off [] [] is h = tt
present_between o off [] (x ∷ a) is h = let n : 0 ≡ length (x ∷ a) = h.long in absurd (omega (arith, n))
present_between o off (y ∷ b) [] is h = let n : length (y ∷ b) ≡ 0 = h.long in absurd (omega (arith, n))
present_between o off (y ∷ b) (x ∷ a) is h = subst (λ (k : ℕ). AgreeFrom k (y ∷ b) (x ∷ a)) (is refl) h

data_between : (ps : List ℕ) (p o : ℕ) (b a : List ℕ) → get_or ps (p + 0) 0 ≡ o → AgreeFrom (get_or ps p 0) b a → AgreeFrom o b a
data_between ps p o b a is h =
    let sum : p ≡ p + 0 = omega arith in
    subst (λ (k : ℕ). AgreeFrom k b a) (ap (λ (k : ℕ). get_or ps k 0) sum ∙ is) h

length_between : (d : Bool) (off o : ℕ) (b a : List ℕ) → off ≡ o → AgreeFrom (if not d then off else 0) b a → AgreeFrom o b a
length_between true off o b a is h = agree_later o b a h
length_between false off o b a is h = subst (λ (k : ℕ). AgreeFrom k b a) is h

-- LENGTH of a dictionary is the same from its start on
words_same : (d : Bool) (off : ℕ) (b a : List ℕ) → d ≡ true → AgreeFrom (if not d then off else 0) b a → b ≡ a
words_same true off b a has h = h.same
words_same false off b a has h = absurd (true≢false (sym has))

texts_between : (d : Bool) (e : Encoding) (f g : ℕ → List ℕ) (ps : List ℕ) (p o : ℕ) → get_or ps (p + octets_size (text_octets d (streams e f))) 0 ≡ o → AgreeFrom (get_or ps p 0) (g 1) (f 1)
    → AgreeFrom (if not d then get_or ps (p + octets_size (text_octets d (streams e f))) 0 else 0) (g 2) (f 2) → RunsAgree o (text_runs d (streams e g)) (text_runs d (streams e f))
texts_between true e f g ps p o is places lengths = (refl, refl, data_between ps p o (g 1) (f 1) is places)
texts_between false e f g ps p o is places lengths = (refl, refl, subst (λ (k : ℕ). AgreeFrom k (g 2) (f 2)) is lengths)

own_between : (s : Shape) (e : Encoding) (f g : ℕ → List ℕ) (ps : List ℕ) (o : ℕ) → get_or ps (present_of f + octets_size (value_bytes s (streams e f))) 0 ≡ o
    → ((k : ℕ) → AgreeFrom (offset_of s (streams e f) ps k) (g k) (f k)) → RunsAgree o (value_runs s (streams e g)) (value_runs s (streams e f))
own_between (scalar kind.Boolean d) e f g ps o is same = data_between ps (present_of f) o (g 1) (f 1) is (same 1)
own_between (scalar kind.Byte d) e f g ps o is same = data_between ps (present_of f) o (g 1) (f 1) is (same 1)
own_between (scalar kind.Short d) e f g ps o is same = (refl, refl, data_between ps (present_of f) o (g 1) (f 1) is (same 1))
own_between (scalar kind.Int d) e f g ps o is same = (refl, refl, data_between ps (present_of f) o (g 1) (f 1) is (same 1))
own_between (scalar kind.Long d) e f g ps o is same = (refl, refl, data_between ps (present_of f) o (g 1) (f 1) is (same 1))
own_between (scalar kind.Date d) e f g ps o is same = (refl, refl, data_between ps (present_of f) o (g 1) (f 1) is (same 1))
own_between (scalar kind.Binary d) e f g ps o is same = (refl, refl, length_between (is_dictionary e.kind) _ o (g 2) (f 2) is (same 2))
own_between (scalar kind.String d) e f g ps o is same = texts_between (is_dictionary e.kind) e f g ps (present_of f) o is (same 1) (same 2)
own_between (list_of s d) e f g ps o is same = (refl, refl, length_between (is_dictionary e.kind) _ o (g 2) (f 2) is (same 2))
own_between (map_of l r d) e f g ps o is same = (refl, refl, length_between (is_dictionary e.kind) _ o (g 2) (f 2) is (same 2))
own_between (struct_of fs d) e f g ps o is same = tt

text_content : (d : Bool) (e : Encoding) (f g : ℕ → List ℕ) (off n : ℕ) → (octets_size (text_octets d (streams e f)) ≡ 1 → off ≡ n) → AgreeFrom off (g 1) (f 1)
    → OctetsAgree n (text_octets d (streams e g)) (text_octets d (streams e f))
text_content true e f g off n is h = tt
text_content false e f g off n is h = subst (λ (k : ℕ). AgreeFrom k (g 1) (f 1)) (is refl) h

content_between : (s : Shape) (e : Encoding) (f g : ℕ → List ℕ) (off n : ℕ) → (octets_size (value_bytes s (streams e f)) ≡ 1 → off ≡ n) → AgreeFrom off (g 1) (f 1)
    → OctetsAgree n (value_bytes s (streams e g)) (value_bytes s (streams e f))
content_between (scalar kind.Boolean d) e f g off n is h = tt
content_between (scalar kind.Byte d) e f g off n is h = tt
content_between (scalar kind.Short d) e f g off n is h = tt
content_between (scalar kind.Int d) e f g off n is h = tt
content_between (scalar kind.Long d) e f g off n is h = tt
content_between (scalar kind.Date d) e f g off n is h = tt
content_between (scalar kind.Binary d) e f g off n is h = subst (λ (k : ℕ). AgreeFrom k (g 1) (f 1)) (is refl) h
content_between (scalar kind.String d) e f g off n is h = text_content (is_dictionary e.kind) e f g off n is h
content_between (list_of s d) e f g off n is h = tt
content_between (map_of l r d) e f g off n is h = tt
content_between (struct_of fs d) e f g off n is h = tt

-- what agrees with streams f behind their offsets agrees with all that these agree with
column_before : (s : Shape) (x : Streams) (e : Encoding) (f g : ℕ → List ℕ) (before : List Cell) (ps : List ℕ) → AgreeFromPositions s x (streams e f) before ps
    → ((k : ℕ) → AgreeFrom (offset_of s (streams e f) ps k) (g k) (f k)) → AgreeFromPositions s x (streams e g) before ps
column_before s x e f g before ps h same =
    let first : List ℕ = h.places.first in
    let last : List ℕ = h.places.last in
    let after : List ℕ = octets_position (value_bytes s x) (octets before) ++ last in
    let sized : octets_size (value_bytes s (streams e f)) ≡ octets_size (value_bytes s x) = octets_alike (octets before) (value_bytes s (streams e f)) (value_bytes s x) h.content_same in
    let counted : length first ≡ present_of f = place_long (present_runs (x.stream 0)) (length before) first h.places.present_position
    ∙ sym (runs_alike (get_or first 0 0) (present_runs (f 0)) (present_runs (x.stream 0)) h.present_same) in
    let in_first : present_of f ≡ 3 → get_or ps 0 0 ≡ get_or first 0 0 = (λ three. ap (λ (l : List ℕ). get_or l 0 0) h.places.parts ∙ first_at first after (counted ∙ three)) in
    let in_content : octets_size (value_bytes s (streams e f)) ≡ 1 → get_or ps (present_of f) 0 ≡ octets before = (λ one.
    ap (λ (l : List ℕ). get_or l (present_of f) 0) h.places.parts ∙ content_at first (value_bytes s x) (octets before) last (present_of f) counted (sym sized ∙ one)) in
    let place : ℕ = present_of f + octets_size (value_bytes s (streams e f)) in
    let summed : length first + octets_size (value_bytes s x) ≡ place = omega (arith, counted, sized) in
    let in_last : get_or ps place 0 ≡ get_or last 0 0 = ap (λ (l : List ℕ). get_or l place 0) h.places.parts ∙ last_at first (value_bytes s x) (octets before) last place summed in
    record {
      places = h.places;
      encoded = h.encoded;
      present_same = runs_through (get_or first 0 0) (present_runs (g 0)) (present_runs (f 0)) (present_runs (x.stream 0))
          (present_between (get_or first 0 0) (get_or ps 0 0) (g 0) (f 0) in_first (same 0)) h.present_same;
      content_same = octets_through (octets before) (value_bytes s (streams e g)) (value_bytes s (streams e f)) (value_bytes s x)
          (content_between s e f g (get_or ps (present_of f) 0) (octets before) in_content (same 1)) h.content_same;
      own_same = runs_through (get_or last 0 0) (value_runs s (streams e g)) (value_runs s (streams e f)) (value_runs s x) (own_between s e f g ps (get_or last 0 0) in_last same) h.own_same;
      dictionary_same = λ d.
          let old = h.dictionary_same d in
          let has : is_dictionary e.kind ≡ true = ap (λ (k : Encoding). is_dictionary k.kind) h.encoded ∙ d in
          let two : g 2 ≡ f 2 = words_same (is_dictionary e.kind) _ (g 2) (f 2) has (same 2) in
          let three : g 3 ≡ f 3 = (same 3).same in
          (two ∙ old.0, three ∙ old.1);
    }

-- ---- a stripe

entry_before : (view : Opened) (c group : ℕ) (entry : RowIndexEntry) (bytes : List ℕ) → c < width view.schema → DiffersOnlyBefore view group bytes → IsGroupEntry view c group entry
    → IsGroupEntry (with_bytes view bytes) c group entry
entry_before view c group entry bytes lt differs h =
    let same : slice c 6 view.footer.streams bytes ≡ slice c 6 view.footer.streams view.bytes = (differs.stream c 6 entry lt h).same in
    (h.0, (h.1.0, subst (λ (t : List ℕ). Spells row_index 0 0 t h.0) (sym same) h.1.1), h.2, h.3)

pub starts_before : (view : Opened) (x : ℕ → Streams) (rows : List Cell) (group : ℕ) (bytes : List ℕ) → StartsGroup view x rows group → DiffersOnlyBefore view group bytes
    → StartsGroup (with_bytes view bytes) x rows group
starts_before view x rows group bytes starts differs = record {
  has_group = record { indexed = starts.has_group.indexed; there = starts.has_group.there };
  spelled = starts.spelled;
  column = λ c lt.
      let h = starts.column c lt in (
        h.0,
        entry_before view c group h.0 bytes lt differs h.1,
        column_before (shape_at view.schema c) (x c) (encoding_at view.footer.columns c) (λ (k : ℕ). slice c k view.footer.streams view.bytes) (λ (k : ℕ). slice c k view.footer.streams bytes)
            (cells view.schema c (take (group * view.stride) rows)) h.0.positions h.2 (λ k. differs.stream c k h.0 lt h.1),
      );
}

pub footer_before : (view : Opened) (group : ℕ) (bytes : List ℕ) (footer : StripeFooter) → DiffersOnlyBefore view group bytes → HasFooter view.schema view.info view.bytes footer
    → HasFooter view.schema view.info bytes footer
footer_before view group bytes footer differs h = record {
  whole = differs.footer.long ∙ h.whole;
  read = subst (λ (t : List ℕ). Spells stripe_footer 0 0 t footer) (sym differs.footer.same) h.read;
  directory = h.directory;
  encodings = h.encodings;
}

pub footer_back : (view : Opened) (group : ℕ) (bytes : List ℕ) (footer : StripeFooter) → DiffersOnlyBefore view group bytes → HasFooter view.schema view.info bytes footer
    → HasFooter view.schema view.info view.bytes footer
footer_back view group bytes footer differs h = record {
  whole = sym differs.footer.long ∙ h.whole;
  read = subst (λ (t : List ℕ). Spells stripe_footer 0 0 t footer) differs.footer.same h.read;
  directory = h.directory;
  encodings = h.encodings;
}
