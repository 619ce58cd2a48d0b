-- Laws of what the writer makes of values (ORC specification, "Integer Run Length Encoding, version 2").
-- It is a stream of the values, and the values have no other text.
use Rattle.std.proofs.Common.{arith, List, ℤ, ℕ, ◌≡◌, inl, inr}
use Rattle.orc_rle.specs.declared.sign.Sign.{Sign}
use Rattle.orc_rle.specs.Cut.{IsPiece}
use Rattle.orc_rle.specs.laws.CutLaws.{SomeRepeats, one_text, written_is_stream}
use Rattle.orc_rle.specs.laws.FormTextLaws.{one_equal, one_shortest_text}
use Rattle.orc_rle.specs.laws.PatchedRunLaws.{patched_is_run}
use Rattle.orc_rle.specs.RunTwo.{IsShapeTwo, IsRunTwo}
use Rattle.orc_rle.specs.Stream.{IsStream}
use Rattle.orc_rle.specs.laws.TextByteLaws.{piece_small}
use Rattle.orc_rle.specs.laws.TextRunLaws.{repeat_is_run, even_delta_is_run, delta_is_run, direct_is_run}
use Rattle.orc_rle.specs.Values.{AllInRange}
use Rattle.orc_rle.specs.laws.WrittenLaws.{AllInRange-parts}
use Rattle.orc_rle.specs.WrittenTwo.{rule_two, IsWrittenTwo}

repeats_some : (sign : Sign) → SomeRepeats (rule_two sign)
repeats_some sign = λ piece equal. omega (arith, equal.few)

-- values have one text
pub one_text_two : (sign : Sign) (values : List ℤ) (a b : List ℕ)
    → IsWrittenTwo sign values a → IsWrittenTwo sign values b → a ≡ b
one_text_two sign values a b p q = one_text (rule_two sign) (repeats_some sign) (one_equal sign) (one_shortest_text sign) values a b p q

piece_shape : (sign : Sign) (piece rest : List ℤ) (text : List ℕ)
    → IsPiece (rule_two sign) piece rest text → IsShapeTwo sign text piece
piece_shape sign piece rest text (inl (cut, inl p)) = inl (repeat_is_run sign piece text p)
piece_shape sign piece rest text (inl (cut, inr p)) = inr (inr (inr (even_delta_is_run sign piece text cut.is.many p.1)))
piece_shape sign piece rest text (inr (cut, inl p)) = inr (inr (inr (delta_is_run sign piece text cut.many p.0)))
piece_shape sign piece rest text (inr (cut, inr (inl p))) = inr (inl (direct_is_run sign piece text cut.few cut.many p.0))
piece_shape sign piece rest text (inr (cut, inr (inr p))) = inr (inr (inl (patched_is_run piece text cut.few cut.many p.0)))

-- what was written is a stream of the values
pub written_two_is_stream : (sign : Sign) (values : List ℤ) (bytes : List ℕ)
    → IsWrittenTwo sign values bytes → AllInRange sign values → IsStream (IsRunTwo sign) bytes values
written_two_is_stream sign values bytes h r =
    written_is_stream (rule_two sign) (AllInRange sign) (IsRunTwo sign) (AllInRange-parts sign)
    (λ piece rest text is range. record { small = piece_small sign piece rest text is; shape = piece_shape sign piece rest text is; in_range = range }) values bytes h r
