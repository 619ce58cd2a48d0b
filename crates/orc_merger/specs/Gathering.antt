-- What is gathered from the inputs, one after the other (own).
use Rattle.std.specs.Prelude.{◌≡◌, ℕ, ◌+◌, List, [], ◌∷◌, ◌++◌, map}
use Rattle.orc_wire.specs.declared.stripe_info.StripeInfo.{StripeInfo}
use Rattle.orc_wire.specs.declared.footer.UserMetadataItem.{UserMetadataItem}
use Rattle.orc_tail.specs.Stripes.{stripe_length}
use Rattle.orc_tail.specs.Images.{IsWithinLimits}
use Rattle.orc_tail.specs.declared.tail.Tail.{Tail}
use Rattle.orc_merger.specs.declared.copying.Piece.{Piece}
use Rattle.orc_merger.specs.declared.user_pairs.UserPairs.{UserPairs}
use Rattle.orc_merger.specs.declared.fault.MergeFault.{MergeFault}
use Rattle.orc_merger.specs.declared.fault.MergeFault.TheVariants.{SchemaDiffers, VersionDiffers, StrideDiffers, OtherFooterFields}
use Rattle.orc_merger.specs.declared.fault.MergeFault.TheVariants.{UserMetadataConflict, NoStripeStatistics, Limit}
use Rattle.orc_merger.specs.Merging.{Agree, distinct, all_pairs, merged, SameVersion, HasStatistics}
use Rattle.orc_merger.specs.Faults.{Tested}
use Rattle.orc_merger.specs.PairPlaces.{ArePairPlaces}

-- where the stripes of the input with that number are in it
abbrev pub pieces_in : ℕ → List StripeInfo → List Piece
pieces_in i stripes = map (λ (s : StripeInfo). record { input = i; offset = s.offset; len = stripe_length s }) stripes

-- where the stripes of the inputs are, from the input with that number on
abbrev pub pieces_of : ℕ → List Tail → List Piece
pieces_of i [] = []
pieces_of i (t ∷ ts) = pieces_in i t.stripes ++ pieces_of (i + 1) ts

-- the first pair of each name, of pairs that agree; each is found by its name
pub record HasPairs (all : List UserMetadataItem) (kept : UserPairs) : Type 0 where
  pub agree : Agree all
  pub kept_are : kept.pairs.items ≡ distinct all
  pub places : ArePairPlaces kept.pairs.items kept.places

-- a tail with the schema, version, stride and other footer fields of the first
pub record IsOfKind (first tail : Tail) : Type 0 where
  pub schema : tail.schema ≡ first.schema
  pub version : SameVersion first tail
  pub stride : tail.stride ≡ first.stride
  pub other : tail.other ≡ first.other

-- the first of schema, version, stride and other footer fields that differs from the first tail's
abbrev pub KindFault : ℕ → Tail → Tail → MergeFault → Type 0
KindFault i first tail fault =
    Tested (tail.schema ≡ first.schema) (SchemaDiffers i) fault (
    Tested (SameVersion first tail) (VersionDiffers i) fault (
    Tested (tail.stride ≡ first.stride) (StrideDiffers i) fault (
    Tested (tail.other ≡ first.other) (OtherFooterFields i) fault ⊥)))

-- the tests of the next input that concern all inputs together, after those that compare it with the first
abbrev pub NextJoinFault : ℕ → Tail → Tail → List Tail → MergeFault → Type 0
NextJoinFault i first tail all fault =
    Tested (Agree (all_pairs all)) (UserMetadataConflict i) fault (
    Tested (HasStatistics tail) (NoStripeStatistics i) fault (
    Tested (IsWithinLimits (merged first all)) (Limit i) fault ⊥))

-- a tail without the parts that are joined
abbrev pub without_joined : Tail → Tail
without_joined tail = record tail { stripes = []; stripe_stats = []; user = [] }
