-- The text of a tail, part by part.
use Rattle.std.specs.Prelude.{◌≡◌, ℕ, List, [], ◌∷◌, ◌++◌, length, map, refl}
use Rattle.std.specs.List.{AllByRecursion}
use Rattle.std.proofs.Common.{sym, ◌∙◌, ap}
use Rattle.orc_wire.specs.Fields.{Payload, sized}
use Rattle.orc_wire.specs.CanonicalText.{field_text, list_text}
use Rattle.orc_wire.specs.CanonicalMessages.{post_script_text, footer_text, metadata_text, column_stats_text, stripe_stats_text}
use Rattle.orc_wire.proofs.PutLemmas.{and_then}
use Rattle.orc_stats.specs.declared.stat.Stat.{Stat}
use Rattle.orc_stats.specs.Messages.{message_of}
use Rattle.orc_tail.specs.Statistics.{stripe_message}
use Rattle.orc_tail.specs.Images.{metadata_of, footer_of, postscript_of, ended, HasBits}
use Rattle.orc_tail.specs.declared.tail.Tail.{Tail}

list_text_map : {X Y : Type 0} (payload : Y → Payload) (f : X → Y) (n : ℕ) (xs : List X) → list_text payload n (map f xs) ≡ list_text (λ x. payload (f x)) n xs
list_text_map payload f n [] = refl
list_text_map payload f n (x ∷ xs) = ap (λ (t : List ℕ). field_text n (payload (f x)) ++ t) (list_text_map payload f n xs)

pub metadata_is : (tail : Tail) → list_text (λ xs. sized (stripe_stats_text.text (stripe_message xs))) 1 tail.stripe_stats ≡ metadata_text.text (metadata_of tail)
metadata_is tail = sym (list_text_map (λ m. sized (stripe_stats_text.text m)) stripe_message 1 tail.stripe_stats)

-- three texts and the last one's length
pub parts_are : (o0 o1 o2 o3 o4 metadata footer postscript : List ℕ) (n : ℕ) → o1 ≡ o0 ++ metadata → o2 ≡ o1 ++ footer → o3 ≡ o2 ++ postscript → o4 ≡ o3 ++ n ∷ [] → n ≡ length postscript
    → o4 ≡ o0 ++ ended metadata footer postscript
parts_are o0 o1 o2 o3 o4 metadata footer postscript n a b c d e =
    and_then o0 o1 metadata (footer ++ (postscript ++ length postscript ∷ [])) o4 a
    (and_then o1 o2 footer (postscript ++ length postscript ∷ []) o4 b
    (and_then o2 o3 postscript (length postscript ∷ []) o4 c (d ∙ ap (λ (k : ℕ). o3 ++ k ∷ []) e)))

all_back : {X Y : Type 0} (P : Y → Type 0) (f : X → Y) (xs : List X) → AllByRecursion P (map f xs) → AllByRecursion (λ x. P (f x)) xs
all_back P f [] h = tt
all_back P f (x ∷ xs) h = (h.0, all_back P f xs h.1)

stripes_back : (xss : List (List Stat)) → AllByRecursion (λ xs. stripe_stats_text.bounded (stripe_message xs)) xss → AllByRecursion (AllByRecursion (λ x. column_stats_text.bounded (message_of x))) xss
stripes_back [] h = tt
stripes_back (xs ∷ xss) h = (all_back column_stats_text.bounded message_of xs h.0, stripes_back xss h.1)

-- what is written has bits
pub bits_are : (tail : Tail) → AllByRecursion (λ xs. stripe_stats_text.bounded (stripe_message xs)) tail.stripe_stats → footer_text.bounded (footer_of tail) → post_script_text.bounded (postscript_of tail) → HasBits tail
bits_are tail metadata footer postscript = record {
  version = postscript.1.1.0;
  writer = footer.1.1.1.1.1.1.1.1.0;
  writer_version = postscript.1.1.1.1.0;
  stripes = footer.1.1.0;
  types = footer.1.1.1.0;
  user = footer.1.1.1.1.0;
  file_stats = all_back column_stats_text.bounded message_of tail.file_stats footer.1.1.1.1.1.1.0;
  stripe_stats = stripes_back tail.stripe_stats metadata;
  stride = footer.1.1.1.1.1.1.1.0;
}
