-- The merged tail, and the merged file (ORC specification, "File Tail"; what is joined, and how, is this
-- project's): the stripes of all inputs as they are, and one tail that lists them.
use Rattle.std.specs.Prelude.{◌≡◌, ℕ, ◌+◌, List, [], ◌∷◌, ◌++◌, length, map, sum_by, filter, Contains, Bool, not, ◌==◌}
use Rattle.std.specs.List.{AllByRecursion, concat, flat_map, AllZip}
use Rattle.std.specs.Cmp.Lexicographic.{pointwise}
use Rattle.orc_wire.specs.declared.stripe_info.StripeInfo.{StripeInfo}
use Rattle.orc_wire.specs.declared.footer.UserMetadataItem.{UserMetadataItem}
use Rattle.orc_values.specs.Shapes.{width}
use Rattle.orc_stats.specs.declared.stat.Stat.{Stat}
use Rattle.orc_tail.specs.Stripes.{stripe_length, stripe_bytes}
use Rattle.orc_tail.specs.Tails.{IsTail}
use Rattle.orc_tail.specs.Images.{image, IsWithinLimits}
use Rattle.orc_tail.specs.Statistics.{file_stats}
use Rattle.orc_tail.specs.declared.tail.Tail.{Tail}

-- ---- user metadata

-- whether two pairs have the same name
abbrev pub same_name : UserMetadataItem → UserMetadataItem → Bool
same_name p q = pointwise ◌==◌ p.name q.name

-- the pairs with another name
abbrev pub without : UserMetadataItem → List UserMetadataItem → List UserMetadataItem
without p pairs = filter (λ q. not (same_name p q)) pairs

-- the first pair of each name
abbrev pub distinct : List UserMetadataItem → List UserMetadataItem
distinct [] = []
distinct (p ∷ pairs) = p ∷ without p (distinct pairs)

-- pairs with the same name have the same value
abbrev pub Agree : List UserMetadataItem → Type 0
Agree pairs = (p q : UserMetadataItem) → Contains pairs p → Contains pairs q → p.name ≡ q.name → p.value ≡ q.value

-- ---- statistics

-- a statistic for each stripe and column
pub record HasStatistics (tail : Tail) : Type 0 where
  pub stripes : length tail.stripe_stats ≡ length tail.stripes
  pub columns : AllByRecursion (λ (stats : List Stat). length stats ≡ width tail.schema) tail.stripe_stats

-- ---- the tail

-- stripes moved to consecutive offsets, from a given one on
abbrev pub placed : ℕ → List StripeInfo → List StripeInfo
placed at [] = []
placed at (s ∷ rest) = record s { offset = at } ∷ placed (at + stripe_length s) rest

-- the stripes of all inputs, in order
abbrev pub all_stripes : List Tail → List StripeInfo
all_stripes = flat_map (λ (t : Tail). t.stripes)

-- the stripe statistics of all inputs, in order
abbrev pub all_stats : List Tail → List (List Stat)
all_stats = flat_map (λ (t : Tail). t.stripe_stats)

-- the user metadata of all inputs, in order
abbrev pub all_pairs : List Tail → List UserMetadataItem
all_pairs = flat_map (λ (t : Tail). t.user)

-- The merged tail: the stripes of all inputs in order, without gaps, with their statistics; for each column the
-- joined statistic; the first pair of each name; the sum of the rows; and everything else as in the first input.
abbrev pub merged : Tail → List Tail → Tail
merged first inputs = record first {
  stripes = placed 3 (all_stripes inputs);
  stripe_stats = all_stats inputs;
  file_stats = file_stats first.schema (all_stats inputs);
  user = distinct (all_pairs inputs);
  rows = sum_by (λ (t : Tail). t.rows) inputs;
}

-- a tail with the first one's file version, writer and writer version
pub record SameVersion (first tail : Tail) : Type 0 where
  pub version : tail.version ≡ first.version
  pub writer : tail.writer ≡ first.writer
  pub writer_version : tail.writer_version ≡ first.writer_version

-- a tail with the first one's schema, version, stride and other footer fields, and a statistic of each column of each
-- stripe
pub record IsLike (first tail : Tail) : Type 0 where
  pub schema : tail.schema ≡ first.schema
  pub version : SameVersion first tail
  pub stride : tail.stride ≡ first.stride
  pub other : tail.other ≡ first.other
  pub statistics : HasStatistics tail

-- inputs with these tails can be merged
pub record CanMerge (first : Tail) (inputs : List Tail) : Type 0 where
  pub alike : AllByRecursion (IsLike first) inputs
  pub agree : Agree (all_pairs inputs)
  pub limits : IsWithinLimits (merged first inputs)

-- the tail of the merged file of inputs with these tails
abbrev pub Merged : List Tail → Tail → Type 0
Merged [] tail = ⊥
Merged (first ∷ rest) tail = CanMerge first (first ∷ rest) × (tail ≡ merged first (first ∷ rest))

-- ---- the file

-- the bytes of each stripe of a file
abbrev pub stripes_of : List ℕ → Tail → List (List ℕ)
stripes_of bytes tail = map (λ (s : StripeInfo). stripe_bytes s bytes) tail.stripes

-- each input opens with its tail in the list
abbrev pub AreOpened : List (List ℕ) → List Tail → Type 0
AreOpened = AllZip IsTail

-- the bytes of the stripes of all inputs, in order
abbrev pub bodies : List (List ℕ) → List Tail → List (List ℕ)
bodies [] ts = []
bodies (b ∷ bs) [] = []
bodies (b ∷ bs) (t ∷ ts) = stripes_of b t ++ bodies bs ts

-- The merged file of these inputs, and its tail: `ORC`, the unchanged bytes of the stripes, and the canonical
-- encoding of the tail.
pub record IsMerge (inputs : List (List ℕ)) (tail : Tail) (out : List ℕ) : Type 0 where
  pub tails : List Tail
  pub opened : AreOpened inputs tails
  pub merged : Merged tails tail
  pub written : out ≡ image (concat (bodies inputs tails)) tail
