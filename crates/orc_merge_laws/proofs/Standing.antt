-- A merged tail stands behind the stripes of its inputs: the file that is written has it.
use Rattle.std.proofs.Common.{◌≡◌, ℕ, ◌<◌, List, [], ◌∷◌, length, sym, ◌∙◌, arith}
use Rattle.std.specs.List.{concat, AllByRecursion}
use Rattle.orc_wire.specs.CanonicalMessages.{stripe_info_text}
use Rattle.orc_tail.specs.Layout.{magic}
use Rattle.orc_tail.specs.Tails.{IsTail}
use Rattle.orc_tail.specs.Images.{image, tail_text, IsWithinLimits, HasBits}
use Rattle.orc_tail.specs.declared.tail.Tail.{Tail}
use Rattle.orc_tail.proofs.ImageLaws.{image_is}
use Rattle.orc_merger.specs.Merging.{distinct, all_stripes, all_stats, all_pairs, merged, CanMerge, stripes_of, AreOpened, bodies}
use Rattle.orc_merger.proofs.Placing.{laid-placed, bytes-placed, length-concat}
use Rattle.orc_merge_laws.proofs.Placing.{found_again}
use Rattle.orc_merge_laws.proofs.Bits.{StatBits, file_stats_bits, placed_bits, pairs_bits}
use Rattle.orc_merger.proofs.Limits.{room_of}
use Rattle.orc_merger.proofs.Opened.{all_lengths}
use Rattle.orc_merge_laws.proofs.Opened.{all_bits}
use Rattle.orc_values.proofs.Lists.{all_append}

stripes_bits : (ts : List Tail) → AllByRecursion HasBits ts → AllByRecursion stripe_info_text.bounded (all_stripes ts)
stripes_bits [] a = tt
stripes_bits (t ∷ ts) a = all_append stripe_info_text.bounded t.stripes (all_stripes ts) a.0.stripes (stripes_bits ts a.1)

stats_bits : (ts : List Tail) → AllByRecursion HasBits ts → AllByRecursion (AllByRecursion StatBits) (all_stats ts)
stats_bits [] a = tt
stats_bits (t ∷ ts) a = all_append (AllByRecursion StatBits) t.stripe_stats (all_stats ts) a.0.stripe_stats (stats_bits ts a.1)

bits_of_merged : (first : Tail) (ts : List Tail) → HasBits first → AllByRecursion HasBits ts → IsWithinLimits (merged first ts) → HasBits (merged first ts)
bits_of_merged first ts f a l =
    let room = room_of first ts l in
    let bytes = room.bytes in
    let stats = stats_bits ts a in
    record {
      version = f.version;
      writer = f.writer;
      writer_version = f.writer_version;
      stripes = placed_bits 3 (all_stripes ts) (omega (arith, bytes)) (stripes_bits ts a);
      types = f.types;
      user = pairs_bits (distinct (all_pairs ts));
      file_stats = file_stats_bits first.schema (all_stats ts) stats room.counts;
      stripe_stats = stats;
      stride = f.stride;
    }

-- what is written is accepted
pub stands : (xs : List (List ℕ)) (first : Tail) (rest : List Tail) → AreOpened xs (first ∷ rest) → CanMerge first (first ∷ rest)
    → length (image (concat (bodies xs (first ∷ rest))) (merged first (first ∷ rest))) < 18446744073709551616
    → IsTail (image (concat (bodies xs (first ∷ rest))) (merged first (first ∷ rest))) (merged first (first ∷ rest))
stands xs first rest o c short =
    let ts : List Tail = first ∷ rest in
    let bits : AllByRecursion HasBits (first ∷ rest) = all_bits xs (first ∷ rest) o in
    image_is (merged first (first ∷ rest)) (concat (bodies xs (first ∷ rest))) c.limits (laid-placed 3 (all_stripes (first ∷ rest)))
    (bits_of_merged first (first ∷ rest) bits.0 bits c.limits)
    (length-concat (bodies xs (first ∷ rest)) (all_stripes (first ∷ rest)) (all_lengths xs (first ∷ rest) o)
    ∙ sym (bytes-placed 3 (all_stripes (first ∷ rest)))) short

-- the stripes of the merged file are those of its inputs
pub stripes_of_image : (xs : List (List ℕ)) (first : Tail) (rest : List Tail) → AreOpened xs (first ∷ rest)
    → stripes_of (image (concat (bodies xs (first ∷ rest))) (merged first (first ∷ rest))) (merged first (first ∷ rest)) ≡ bodies xs (first ∷ rest)
stripes_of_image xs first rest o =
    found_again magic (bodies xs (first ∷ rest)) (tail_text (merged first (first ∷ rest))) (all_stripes (first ∷ rest)) (all_lengths xs (first ∷ rest) o)
