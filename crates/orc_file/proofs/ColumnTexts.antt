-- The texts of a stripe's columns have no more bytes than the stripe, since its streams hold them.
use Rattle.std.proofs.Common.{◌≡◌, ℕ, zero, suc, ◌<◌, ◌≤◌, ℤ, pos, negsuc, Bool, true, false, if◌then◌else◌, List, [], ◌∷◌, ◌++◌, length, take, drop, Option, Some, None, refl, sym, subst, arith, length-append, length-drop}
use Rattle.std.specs.Prelude.{slice_get}
use Rattle.std.specs.List.{AllByRecursion, filter_map, cons_option, AllZip}
use Rattle.std.specs.Option.{IfSome}
use Rattle.orc_wire.specs.Canonical.{all_both}
use Rattle.orc_wire.specs.declared.stripe_footer.StreamMsg.{StreamMsg}
use Rattle.orc_wire.specs.declared.stripe_info.StripeInfo.{StripeInfo}
use Rattle.orc_values.specs.declared.kind.Scalar.TheVariants as scalar_kind
use Rattle.orc_values.specs.Shapes.{Shape, scalar, list_of, map_of, struct_of, width, shape_at}
use Rattle.orc_values.specs.Cells.{Cell, null, leaf, list, struct, pairs, values}
use Rattle.orc_values.specs.Columns.{cells}
use Rattle.orc_stats.specs.declared.kind.StatKind.{StatKind}
use Rattle.orc_stats.specs.declared.kind.StatKind.TheVariants as kind
use Rattle.orc_stats.specs.declared.stat.Body.{Body}
use Rattle.orc_stats.specs.declared.stat.Body.TheVariants as body
use Rattle.orc_stats.specs.Kinds.{kind_of}
use Rattle.orc_stats.specs.Statistics.{text_cmp, text_of, values_body}
use Rattle.std.specs.Ordering.{flip_args}
use Rattle.orc_stats.specs.Whole.{without_sum}
use Rattle.orc_column_reader.specs.Spellings.{concatenated}
use Rattle.orc_column_reader.specs.Columns.{IsText, IsEntry}
use Rattle.orc_directory.specs.Directory.{slice, is_stream_of}
use Rattle.orc_column_reader.specs.Stripe.{Streams, SpellsTexts, IsColumn, IsStripe, has_dictionary, columns_of}
use Rattle.orc_tail.proofs.TextLengths.{HasShortTexts}
use Rattle.orc_stats.proofs.Least.{least_is}

-- ---- cells

-- a text has no more bytes than that
abbrev IsShort : ℕ → Cell → Type 0
IsShort most c = IfSome (text_of c) (λ t. length t ≤ most)

-- so have all texts of a column of texts
abbrev pub AreShort : ℕ → StatKind → List Cell → Type 0
AreShort most k cs = k ≡ kind.Texts → AllByRecursion (IsShort most) cs

groups_short : (most : ℕ) (groups : List (List ℕ)) → length (concatenated groups) ≤ most → AllByRecursion (λ g. length g ≤ most) groups
groups_short most [] h = tt
groups_short most (g ∷ gs) h = let e = length-append g (concatenated gs) in (omega (arith, e, h), groups_short most gs (omega (arith, e, h)))

text_short : (most : ℕ) (g : List ℕ) (c : Cell) → length g ≤ most → IsText g c → IsShort most c
text_short most g c few is = subst (IsShort most) (sym is.1) few

texts_short : (most : ℕ) (gs : List (List ℕ)) (vs : List Cell) → AllByRecursion (λ g. length g ≤ most) gs → AllZip IsText gs vs → AllByRecursion (IsShort most) vs
texts_short most [] [] h a = tt
texts_short most [] (v ∷ vs) h a = absurd a
texts_short most (g ∷ gs) [] h a = absurd a
texts_short most (g ∷ gs) (v ∷ vs) h a = (text_short most g v h.0 a.0, texts_short most gs vs h.1 a.1)

got : {A : Type 0} (P : A → Type 0) (xs : List A) (i : ℕ) (x : A) → slice_get xs i ≡ Some x → AllByRecursion P xs → P x
got P [] zero x e h = cc
got P [] (suc i) x e h = cc
got P (y ∷ ys) zero x e h = let same : y ≡ x = cc in subst P same h.0
got P (y ∷ ys) (suc i) x e h = got P ys i x e h.1

word_short : (most : ℕ) (entries : List (List ℕ)) (n : ℤ) (c : Cell) → AllByRecursion (λ g. length g ≤ most) entries → IsEntry entries n c → IsShort most c
word_short most entries (pos i) c h is = text_short most is.0 c (got (λ (g : List ℕ). length g ≤ most) entries i is.0 is.1 h) is.2
word_short most entries (negsuc i) c h is = absurd is

words_short : (most : ℕ) (entries : List (List ℕ)) (ns : List ℤ) (vs : List Cell) → AllByRecursion (λ g. length g ≤ most) entries → AllZip (IsEntry entries) ns vs
    → AllByRecursion (IsShort most) vs
words_short most entries [] [] h a = tt
words_short most entries [] (v ∷ vs) h a = absurd a
words_short most entries (n ∷ ns) [] h a = absurd a
words_short most entries (n ∷ ns) (v ∷ vs) h a = (word_short most entries n v h a.0, words_short most entries ns vs h a.1)

-- what holds of the texts that are there holds of a column with nulls
with_nulls : (most : ℕ) (cs : List Cell) → AllByRecursion (IsShort most) (values cs) → AllByRecursion (IsShort most) cs
with_nulls most [] h = tt
with_nulls most (null ∷ cs) h = (tt, with_nulls most cs h)
with_nulls most (leaf a ∷ cs) h = (h.0, with_nulls most cs h.1)
with_nulls most (list l ∷ cs) h = (h.0, with_nulls most cs h.1)
with_nulls most (struct l ∷ cs) h = (h.0, with_nulls most cs h.1)
with_nulls most (pairs l ∷ cs) h = (h.0, with_nulls most cs h.1)

-- ---- streams

taken_most : (n : ℕ) (xs : List ℕ) → length (take n xs) ≤ length xs
taken_most zero xs = omega arith
taken_most (suc n) [] = omega arith
taken_most (suc n) (x ∷ xs) = let l = taken_most n xs in omega (arith, l)

either_most : (b : Bool) (xs ys : List ℕ) (most : ℕ) → length xs ≤ most → length ys ≤ most → length (if b then xs else ys) ≤ most
either_most true xs ys most p q = p
either_most false xs ys most p q = q

-- a stream is a part of the stripe's bytes
slice_most : (c k : ℕ) (streams : List StreamMsg) (bytes : List ℕ) → length (slice c k streams bytes) ≤ length bytes
slice_most c k [] bytes = omega arith
slice_most c k (s ∷ ss) bytes =
    let rest = slice_most c k ss (drop s.length bytes) in let d = length-drop s.length bytes in
    either_most (is_stream_of c k s) (take s.length bytes) (slice c k ss (drop s.length bytes)) (length bytes) (taken_most s.length bytes) (omega (arith, rest, d))

-- ---- columns

spelled_short : (s : Streams) (b : Bool) (most : ℕ) (vs : List Cell) → ((k : ℕ) → length (s.stream k) ≤ most) → SpellsTexts s b vs → AllByRecursion (IsShort most) vs
spelled_short s true most vs few h =
    let dictionary = h.1 in let whole = dictionary.spelled.1 in let own = few 3 in
    words_short most h.0 h.2.0 vs (groups_short most h.0 (subst (λ (t : List ℕ). length t ≤ most) (sym whole) own)) h.2.1
spelled_short s false most vs few h = let own = few 1 in texts_short most h.0 vs (groups_short most h.0 (subst (λ (t : List ℕ). length t ≤ most) (sym h.2.1) own)) h.1

column_short : (shape : Shape) (s : Streams) (most : ℕ) (cs : List Cell) → IsColumn shape s cs → ((k : ℕ) → length (s.stream k) ≤ most) → AreShort most (kind_of shape) cs
column_short (scalar scalar_kind.String o) s most cs h few = λ e. with_nulls most cs (spelled_short s (has_dictionary s) most (values cs) few h.spelled)
column_short (scalar scalar_kind.Boolean o) s most cs h few = λ e. cc
column_short (scalar scalar_kind.Byte o) s most cs h few = λ e. cc
column_short (scalar scalar_kind.Short o) s most cs h few = λ e. cc
column_short (scalar scalar_kind.Int o) s most cs h few = λ e. cc
column_short (scalar scalar_kind.Long o) s most cs h few = λ e. cc
column_short (scalar scalar_kind.Binary o) s most cs h few = λ e. cc
column_short (scalar scalar_kind.Date o) s most cs h few = λ e. cc
column_short (list_of e o) s most cs h few = λ e. cc
column_short (map_of k v o) s most cs h few = λ e. cc
column_short (struct_of fs o) s most cs h few = λ e. cc

-- a stripe's column
pub stripe_short : (schema : Shape) (info : StripeInfo) (bytes : List ℕ) (rows : List Cell) (most c : ℕ) → IsStripe schema info bytes rows → length bytes ≤ most → c < width schema
    → AreShort most (kind_of (shape_at schema c)) (cells schema c rows)
stripe_short schema info bytes rows most c h few lt =
    column_short (shape_at schema c) (columns_of h.footer bytes c) most (cells schema c rows) (let s = h.spelled in s.column c lt)
    (λ k. let footer = h.footer in let l = slice_most c k footer.streams bytes in omega (arith, l, few))

-- ---- their statistics

pub short_both : (most : ℕ) (k : StatKind) (a b : List Cell) → AreShort most k a → AreShort most k b → AreShort most k (a ++ b)
short_both most k a b p q = λ e. all_both (IsShort most) a b (p e) (q e)

picked : (P : List ℕ → Type 0) (o : Option (List ℕ)) (ts : List (List ℕ)) → IfSome o P → AllByRecursion P ts → AllByRecursion P (cons_option o ts)
picked P None ts h all = all
picked P (Some t) ts h all = (h, all)

all_picked : (most : ℕ) (cs : List Cell) → AllByRecursion (IsShort most) cs → AllByRecursion (λ t. length t ≤ most) (filter_map text_of cs)
all_picked most [] h = tt
all_picked most (c ∷ cs) h = picked (λ t. length t ≤ most) (text_of c) (filter_map text_of cs) h.0 (all_picked most cs h.1)

-- the least and the greatest of short texts are short
pub body_short : (most : ℕ) (k : StatKind) (cs : List Cell) → AreShort most k cs → HasShortTexts most (values_body k cs)
body_short most kind.Plain cs h = tt
body_short most kind.Ints cs h = tt
body_short most kind.Bools cs h = tt
body_short most kind.Dates cs h = tt
body_short most kind.Texts cs h =
    let all = all_picked most cs (h refl) in
    (least_is (λ t. length t ≤ most) text_cmp (filter_map text_of cs) all, least_is (λ t. length t ≤ most) (flip_args text_cmp) (filter_map text_of cs) all)
body_short most kind.Bins cs h = tt
body_short most kind.Children cs h = tt

less_short : (most : ℕ) (b : Body) → HasShortTexts most b → HasShortTexts most (without_sum b)
less_short most body.Plain h = tt
less_short most (body.Ints l g s) h = tt
less_short most (body.Bools t) h = tt
less_short most (body.Dates l g) h = tt
less_short most (body.Texts l g s) h = h
less_short most (body.Bins s) h = tt
less_short most (body.Children l g t) h = tt

pub either_short : (most : ℕ) (b : Bool) (x : Body) → HasShortTexts most x → HasShortTexts most (if b then x else without_sum x)
either_short most true x h = h
either_short most false x h = less_short most x h
