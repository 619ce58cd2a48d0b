-- Rows worked by hand.
use Rattle.std.proofs.Common.{◌≡◌, ℕ, ℤ, pos, negsuc, List, [], ◌∷◌, map, Option, Some, None, false, refl, ap, inl, inr, arith}
use Rattle.orc_wire.specs.declared.stripe_info.StripeInfo.{StripeInfo}
use Rattle.orc_wire.specs.declared.footer.UserMetadataItem.{UserMetadataItem}
use Rattle.orc_values.specs.declared.kind.Scalar.TheVariants as scalar_kind
use Rattle.orc_values.specs.Cells.{leaf, int}
use Rattle.orc_values.specs.Shapes.{Shape, scalar, struct_of, no_field, field}
use Rattle.orc_stats.specs.declared.kind.StatKind.TheVariants as kind
use Rattle.orc_stats.specs.declared.stat.Stat.{Stat}
use Rattle.orc_stats.specs.declared.stat.Body.TheVariants as body
use Rattle.orc_stats.specs.Statistics.{stat}
use Rattle.orc_tail.specs.declared.tail.Tail.{Tail}
use Rattle.orc_merger.specs.declared.fault.MergeFault.TheVariants.{NoInput, SchemaDiffers, VersionDiffers, StrideDiffers, UserMetadataConflict}
use Rattle.orc_merger.specs.Faults.{NextFault, IsMergeRefused}
use Rattle.orc_tail.specs.Statistics.{file_stats}
use Rattle.orc_merger.specs.Merging.{distinct, merged}

-- ---- the file's statistics

-- struct<n:bigint>
abbrev numbers : Shape
numbers = struct_of (field (110 ∷ []) (scalar scalar_kind.Long []) no_field) []

abbrev rows : ℕ → Stat
rows n = record { count = n; nulls = Some false; body = body.Plain }

abbrev of : ℕ → Option ℤ → Option ℤ → Option ℤ → Stat
of n l g s = record { count = n; nulls = Some false; body = body.Ints l g s }

-- the statistics of a stripe of so many rows with these numbers
abbrev stripe_of_rows : ℕ → List ℤ → List Stat
stripe_of_rows n ns = rows n ∷ (stat kind.Ints (map (λ z. leaf (int z)) ns) ∷ [])

-- three files of one row: the total of the first two doesn't fit, that of all does
one_each : file_stats numbers (stripe_of_rows 1 (pos 9223372036854775807 ∷ []) ∷ stripe_of_rows 1 (pos 1 ∷ []) ∷ stripe_of_rows 1 (negsuc 0 ∷ []) ∷ [])
    ≡ rows 3 ∷ of 3 (Some (negsuc 0)) (Some (pos 9223372036854775807)) (Some (pos 9223372036854775807)) ∷ []
one_each = refl

one_each_back : file_stats numbers (stripe_of_rows 1 (negsuc 0 ∷ []) ∷ stripe_of_rows 1 (pos 1 ∷ []) ∷ stripe_of_rows 1 (pos 9223372036854775807 ∷ []) ∷ [])
    ≡ rows 3 ∷ of 3 (Some (negsuc 0)) (Some (pos 9223372036854775807)) (Some (pos 9223372036854775807)) ∷ []
one_each_back = refl

-- the first two in one stripe: its own sum doesn't fit
two_and_one : file_stats numbers (stripe_of_rows 2 (pos 9223372036854775807 ∷ pos 1 ∷ []) ∷ stripe_of_rows 1 (negsuc 0 ∷ []) ∷ [])
    ≡ rows 3 ∷ of 3 (Some (negsuc 0)) (Some (pos 9223372036854775807)) None ∷ []
two_and_one = refl

-- three sevens twice, and a stripe without rows between them
sevens : file_stats numbers (stripe_of_rows 3 (pos 7 ∷ pos 7 ∷ pos 7 ∷ []) ∷ stripe_of_rows 0 [] ∷ stripe_of_rows 3 (pos 7 ∷ pos 7 ∷ pos 7 ∷ []) ∷ [])
    ≡ rows 6 ∷ of 6 (Some (pos 7)) (Some (pos 7)) (Some (pos 42)) ∷ []
sevens = refl

no_stripe : file_stats numbers [] ≡ rows 0 ∷ of 0 None None None ∷ []
no_stripe = refl

-- ---- pairs

abbrev pair : ℕ → ℕ → UserMetadataItem
pair n v = record { name = n ∷ []; value = v ∷ [] }

pairs_once : distinct (pair 107 0 ∷ pair 106 1 ∷ pair 107 0 ∷ []) ≡ pair 107 0 ∷ pair 106 1 ∷ []
pairs_once = refl

-- ---- a file of three sevens, and two of them

abbrev info : ℕ → StripeInfo
info at = record { offset = at; index_length = 0; data_length = 3; footer_length = 16; number_of_rows = 3 }

abbrev three_sevens : Tail
three_sevens = record {
  version = 0 ∷ 11 ∷ [];
  writer = Some 99;
  writer_version = Some 6;
  schema = numbers;
  stripes = info 3 ∷ [];
  stripe_stats = (rows 3 ∷ of 3 (Some (pos 7)) (Some (pos 7)) (Some (pos 21)) ∷ []) ∷ [];
  file_stats = rows 3 ∷ of 3 (Some (pos 7)) (Some (pos 7)) (Some (pos 21)) ∷ [];
  user = [];
  stride = 0;
  rows = 3;
  other = [];
}

abbrev six_sevens : Tail
six_sevens = record {
  version = 0 ∷ 11 ∷ [];
  writer = Some 99;
  writer_version = Some 6;
  schema = numbers;
  stripes = info 3 ∷ info 22 ∷ [];
  stripe_stats = (rows 3 ∷ of 3 (Some (pos 7)) (Some (pos 7)) (Some (pos 21)) ∷ []) ∷ (rows 3 ∷ of 3 (Some (pos 7)) (Some (pos 7)) (Some (pos 21)) ∷ []) ∷ [];
  file_stats = rows 6 ∷ of 6 (Some (pos 7)) (Some (pos 7)) (Some (pos 42)) ∷ [];
  user = [];
  stride = 0;
  rows = 6;
  other = [];
}

twice : merged three_sevens (three_sevens ∷ three_sevens ∷ []) ≡ six_sevens
twice = refl

-- one file alone
once : merged three_sevens (three_sevens ∷ []) ≡ three_sevens
once = refl

-- ---- what is refused

no_input : IsMergeRefused [] NoInput
no_input = inl (refl, refl)

-- struct<m:bigint>
abbrev others : Shape
others = struct_of (field (109 ∷ []) (scalar scalar_kind.Long []) no_field) []

abbrev first_letter : Shape → ℕ
first_letter (struct_of (field (letter ∷ name) s fs) o) = letter
first_letter s = 0

another_schema : NextFault (three_sevens ∷ []) (record three_sevens { schema = others }) (SchemaDiffers 1)
another_schema = inl (λ e. let letters : ◌≡◌ {A = ℕ} 109 110 = ap first_letter e in omega (arith, letters), refl)

another_writer : NextFault (three_sevens ∷ []) (record three_sevens { writer = None }) (VersionDiffers 1)
another_writer = inr (refl, inl (λ e. let f = e.writer in cc, refl))

another_stride : NextFault (three_sevens ∷ []) (record three_sevens { stride = 5 }) (StrideDiffers 1)
another_stride = inr (refl, inr (record { version = refl; writer = refl; writer_version = refl }, inl (λ e. cc, refl)))

-- also of the first input alone
conflict_inside : NextFault [] (record three_sevens { user = pair 107 0 ∷ pair 107 1 ∷ [] }) (UserMetadataConflict 0)
conflict_inside =
    inr (
      refl,
      inr (
        record { version = refl; writer = refl; writer_version = refl },
        inr (refl, inr (refl, inl (λ a. let e = a (pair 107 0) (pair 107 1) (0, omega arith, refl) (1, omega arith, refl) refl in cc, refl))),
      ),
    )

conflict : NextFault (record three_sevens { user = pair 107 0 ∷ [] } ∷ []) (record three_sevens { user = pair 107 1 ∷ [] }) (UserMetadataConflict 1)
conflict =
    inr (
      refl,
      inr (
        record { version = refl; writer = refl; writer_version = refl },
        inr (refl, inr (refl, inl (λ a. let e = a (pair 107 0) (pair 107 1) (0, omega arith, refl) (1, omega arith, refl) refl in cc, refl))),
      ),
    )
