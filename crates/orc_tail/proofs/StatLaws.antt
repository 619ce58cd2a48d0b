-- Statistics that are put into messages and read back.
use Rattle.std.specs.Prelude.{◌≡◌, ℕ, ◌+◌, nat_le, Bool, true, ◌&&◌, List, [], ◌∷◌, length, map, Option, Some, None, refl}
use Rattle.std.proofs.Common.{◌∙◌, ap, arith}
use Rattle.std.specs.List.{AllByRecursion, list_all}
use Rattle.std.specs.Option.{IfSome}
use Rattle.std.proofs.lemmas.List.{length-map}
use Rattle.orc_wire.specs.CanonicalKinds.{le_yes}
use Rattle.orc_wire.specs.CanonicalMessages.{column_stats_text, bucket_stats_text}
use Rattle.orc_wire.proofs.WholeLaws.{column_whole, bucket_shown}
use Rattle.orc_values.specs.Shapes.{Shape, width}
use Rattle.orc_stats.specs.declared.stat.Stat.{Stat}
use Rattle.orc_stats.specs.declared.stat.Body.{Body}
use Rattle.orc_stats.specs.declared.stat.Body.TheVariants as body
use Rattle.orc_stats.specs.Messages.{message_of, in_limits, bools_record, bucket_record}
use Rattle.orc_stats.proofs.ReadBack.{reads_back}
use Rattle.orc_tail.specs.Statistics.{kind_at, stats_read, stripe_stats_read, have_few, AreOfColumns, AreStats, stripe_message}
use Rattle.orc_stats.proofs.Shown.{int_part, text_part, date_part, bin_part, collection_part}

pub stats_back : (s : Shape) (column : ℕ) (xs : List Stat) → AreOfColumns s column xs → stats_read s column (map message_of xs) ≡ xs
stats_back s column [] h = refl
stats_back s column (x ∷ xs) h =
    ap (λ (t : Stat). t ∷ stats_read s (column + 1) (map message_of xs)) (reads_back (kind_at s column) x h.0)
    ∙ ap (λ (t : List Stat). x ∷ t) (stats_back s (column + 1) xs h.1)

stats_within : (s : Shape) (column : ℕ) (xs : List Stat) → AreOfColumns s column xs → list_all in_limits xs ≡ true
stats_within s column [] h = refl
stats_within s column (x ∷ xs) h =
    let is = h.0 in
    ap (λ (t : Bool). t && list_all in_limits xs) is.limits ∙ stats_within s (column + 1) xs h.1

pub read_within : (s : Shape) (xs : List Stat) → AreStats s xs → list_all in_limits (stats_read s 0 (map message_of xs)) ≡ true
read_within s xs are = ap (list_all in_limits) (stats_back s 0 xs are.kinds) ∙ stats_within s 0 xs are.kinds

pub stripes_back : (s : Shape) (xss : List (List Stat)) → AllByRecursion (AreStats s) xss → stripe_stats_read s (map stripe_message xss) ≡ xss
stripes_back s [] h = refl
stripes_back s (xs ∷ xss) h =
    let are = h.0 in
    ap (λ (t : List Stat). t ∷ stripe_stats_read s (map stripe_message xss)) (stats_back s 0 xs are.kinds)
    ∙ ap (λ (t : List (List Stat)). xs ∷ t) (stripes_back s xss h.1)

all_within : (s : Shape) (xss : List (List Stat)) → AllByRecursion (AreStats s) xss → list_all (list_all in_limits) xss ≡ true
all_within s [] h = refl
all_within s (xs ∷ xss) h =
    let are = h.0 in
    ap (λ (t : Bool). t && list_all (list_all in_limits) xss) (stats_within s 0 xs are.kinds) ∙ all_within s xss h.1

pub stripes_within : (s : Shape) (xss : List (List Stat)) → AllByRecursion (AreStats s) xss → list_all (list_all in_limits) (stripe_stats_read s (map stripe_message xss)) ≡ true
stripes_within s xss h = ap (list_all (list_all in_limits)) (stripes_back s xss h) ∙ all_within s xss h

pub stripes_few : (s : Shape) (xss : List (List Stat)) → AllByRecursion (AreStats s) xss → have_few (width s) (map stripe_message xss) ≡ true
stripes_few s [] h = refl
stripes_few s (xs ∷ xss) h =
    let are = h.0 in
    let few : nat_le (length (map message_of xs)) (width s) ≡ true = le_yes (length (map message_of xs)) (width s) (omega (arith, are.few, length-map xs message_of)) in
    ap (λ (t : Bool). t && have_few (width s) (map stripe_message xss)) few ∙ stripes_few s xss h.1

-- ---- a record stands where a part is known, and then its text isn't empty

bools_shown : (t : Option ℕ) → IfSome (bools_record t) bucket_stats_text.bounded → IfSome (bools_record t) (λ r. bucket_stats_text.text r ≡ [] → ⊥)
bools_shown (Some n) can = bucket_shown (record { count = n ∷ [] }) can (λ e. let f : n ∷ [] ≡ [] = e in cc)
bools_shown None can = tt

bucket_part : (b : Body) → IfSome (bucket_record b) bucket_stats_text.bounded → IfSome (bucket_record b) (λ r. bucket_stats_text.text r ≡ [] → ⊥)
bucket_part (body.Bools t) can = bools_shown t can
bucket_part _ can = tt

stat_whole : (x : Stat) → column_stats_text.bounded (message_of x) → column_stats_text.whole (message_of x)
stat_whole x can = column_whole (message_of x) (int_part x.body) (text_part x.body) (bucket_part x.body can.1.1.1.0) (date_part x.body) (bin_part x.body) (collection_part x.body)

pub stats_whole : (xs : List Stat) → AllByRecursion (λ x. column_stats_text.bounded (message_of x)) xs → AllByRecursion column_stats_text.whole (map message_of xs)
stats_whole [] h = tt
stats_whole (x ∷ xs) h = (stat_whole x h.0, stats_whole xs h.1)

pub stats_bounded : (xs : List Stat) → AllByRecursion (λ x. column_stats_text.bounded (message_of x)) xs → AllByRecursion column_stats_text.bounded (map message_of xs)
stats_bounded [] h = tt
stats_bounded (x ∷ xs) h = (h.0, stats_bounded xs h.1)

pub stripes_whole : (xss : List (List Stat)) → AllByRecursion (AllByRecursion (λ x. column_stats_text.bounded (message_of x))) xss
    → AllByRecursion (λ m. AllByRecursion column_stats_text.whole m.col_stats) (map stripe_message xss)
stripes_whole [] h = tt
stripes_whole (xs ∷ xss) h = (stats_whole xs h.0, stripes_whole xss h.1)

pub stripes_bounded : (xss : List (List Stat)) → AllByRecursion (AllByRecursion (λ x. column_stats_text.bounded (message_of x))) xss
    → AllByRecursion (λ m. AllByRecursion column_stats_text.bounded m.col_stats) (map stripe_message xss)
stripes_bounded [] h = tt
stripes_bounded (xs ∷ xss) h = (stats_bounded xs h.0, stripes_bounded xss h.1)
