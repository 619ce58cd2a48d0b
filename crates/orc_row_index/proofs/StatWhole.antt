-- The message of a statistic is written whole.
use Rattle.std.proofs.Common.{◌≡◌, ℕ, ◌≤◌, ◌^◌, nat_le, true, [], ◌∷◌, Option, Some, None, arith, leb-true}
use Rattle.std.specs.Option.{IfSome}
use Rattle.std.proofs.lemmas.Bool.{and_parts}
use Rattle.orc_wire.specs.CanonicalMessages.{column_stats_text, bucket_stats_text}
use Rattle.orc_wire.proofs.WholeLaws.{column_whole, bucket_shown}
use Rattle.orc_stats.specs.declared.stat.Stat.{Stat}
use Rattle.orc_stats.specs.declared.stat.Body.{Body}
use Rattle.orc_stats.specs.declared.stat.Body.TheVariants as body
use Rattle.orc_stats.specs.Joining.{trues_of}
use Rattle.orc_stats.specs.Messages.{message_of, few_trues, in_limits, bools_record, bucket_record}
use Rattle.orc_stats.proofs.Shown.{int_part, text_part, date_part, bin_part, collection_part}

-- ---- a record stands where a part is known, and then its text isn't empty

bools_shown : (t : Option ℕ) → few_trues t ≡ true → IfSome (bools_record t) (λ r. bucket_stats_text.text r ≡ [] → ⊥)
bools_shown (Some n) can = bucket_shown (record { count = n ∷ [] }) (let few : n ≤ 2 ^ 62 = leb-true n (2 ^ 62) can in (omega (arith, few), tt)) (λ e. let f : n ∷ [] ≡ [] = e in cc)
bools_shown None can = tt

bucket_part : (b : Body) → few_trues (trues_of b) ≡ true → IfSome (bucket_record b) (λ r. bucket_stats_text.text r ≡ [] → ⊥)
bucket_part (body.Bools t) can = bools_shown t can
bucket_part _ can = tt

pub stat_whole : (x : Stat) → in_limits x ≡ true → column_stats_text.whole (message_of x)
stat_whole x h =
    let trues = (and_parts (nat_le x.count (2 ^ 62)) (few_trues (trues_of x.body)) h).1 in
    column_whole (message_of x) (int_part x.body) (text_part x.body) (bucket_part x.body trues) (date_part x.body) (bin_part x.body) (collection_part x.body)
