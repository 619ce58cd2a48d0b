use Rattle.std.proofs.Common.{rules, ◌≡◌, ℕ, ℤ, pos, ◌+◌, [], ◌∷◌, ◌++◌, take, Option, Some, None, List, get_or, slice_get, IfSome, true, sym, subst}
use Rattle.std.specs.Option.{is_some}
use Rattle.orc_rle.specs.declared.sign.Sign.TheVariants.{Unsigned}
use Rattle.orc_rle.specs.Values.{InRange, AllInRange}
use Rattle.orc_stripe_writer.specs.Dictionary.{byte_strings, AreNamed}
use Rattle.orc_stripe_writer.proofs.PlacesLemmas.{string_there, named_more, in_range_more}
use Rattle.orc_stripe_writer.proofs.dictionary.places_of.Goals as goal
use Rattle.std.proofs.lemmas.Bool.{false≢true}

pub unreachable-requires : goal.unreachable-requires
unreachable-requires c =
    let string = get_or c.args.strings.now c.loop-string.string-index _ in
    let known : is_some {T = ℕ} None ≡ true = subst (λ (told : Option ℕ). is_some told ≡ true) (sym c.in-None.ensures.value)
    (c.in_ok-known.ensures.known string (c.requires.there string.0.now (string_there c.args.strings.now c.loop-string.string-index _ c.loop-string-test.true))) in
    false≢true known

pub loop-string-preserved : goal.loop-string-preserved
loop-string-preserved c =
    let string = get_or c.args.strings.now c.loop-string.string-index _ in
    let entries = byte_strings c.args.entries.now.items in
    let named : slice_get entries c.in-Some.place.now ≡ Some string.0.now = subst (λ (told : Option ℕ). IfSome told (λ place. slice_get entries place ≡ Some string.0.now)) (sym c.in-Some.ensures.value) (c.in_ok-known.ensures.named string) in
    let number = c.in_ok-number_of-in-Some.ensures in
    let pushed : c.push.new.self.items ≡ c.loop-string.places.items ++ pos c.in-Some.place.now ∷ [] = search rules in
    record {
      named = subst (λ (places : List ℤ). AreNamed entries places (byte_strings (take (c.loop-string.string-index + 1) c.args.strings.now))) (sym pushed)
          (named_more entries c.loop-string.places.items c.args.strings.now c.loop-string.string-index _ c.in-Some.place.now c.loop-string-test.true c.loop-string.invariant.named named);
      in_range = subst (λ (places : List ℤ). AllInRange Unsigned places) (sym pushed)
          (in_range_more Unsigned c.loop-string.places.items (pos c.in-Some.place.now) c.loop-string.invariant.in_range (subst (λ (n : ℤ). InRange Unsigned n) number.number number.in_range));
    }
