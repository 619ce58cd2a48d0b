-- How long a merged file is: its stripes are few, so it is short where its tail's text is.
use Rattle.std.proofs.Common.{◌≡◌, ℕ, ◌+◌, ◌<◌, ◌≤◌, List, [], ◌∷◌, ◌++◌, length, subst, sym, arith, length-append}
use Rattle.std.specs.List.{concat}
use Rattle.orc_tail.specs.Layout.{magic}
use Rattle.orc_tail.specs.Stripes.{stripes_length}
use Rattle.orc_tail.specs.Images.{image, tail_text}
use Rattle.orc_tail.specs.declared.tail.Tail.{Tail}
use Rattle.orc_merger.specs.Merging.{placed, all_stripes, Merged, AreOpened, bodies, IsMerge}
use Rattle.orc_merger.proofs.Placing.{bytes-placed, length-concat}
use Rattle.orc_merger.proofs.Opened.{all_lengths}

image_short : (xs : List (List ℕ)) (ts : List Tail) (tail : Tail) → AreOpened xs ts → Merged ts tail → length (tail_text tail) < 9223372036854775808
    → length (image (concat (bodies xs ts)) tail) < 18446744073709551616
image_short xs [] tail o m text = absurd m
image_short xs (t ∷ ts) tail o m text =
    let body : List ℕ = concat (bodies xs (t ∷ ts)) in
    let content = length-concat (bodies xs (t ∷ ts)) (all_stripes (t ∷ ts)) (all_lengths xs (t ∷ ts) o) in
    let places = bytes-placed 3 (all_stripes (t ∷ ts)) in
    let few : stripes_length (placed 3 (all_stripes (t ∷ ts))) ≤ 1099511627776 = m.0.limits.bytes in
    let whole : length (image body tail) ≡ 3 + length (body ++ tail_text tail) = length-append magic (body ++ tail_text tail) in
    let parts = length-append body (tail_text tail) in
    omega (arith, content, places, few, whole, parts, text)

-- its length fits 64 bits where that of the tail's text fits 63
pub short_of_text : (inputs : List (List ℕ)) (tail : Tail) (out : List ℕ) → IsMerge inputs tail out → length (tail_text tail) < 9223372036854775808
    → length out < 18446744073709551616
short_of_text inputs tail out m text =
    subst (λ (b : List ℕ). length b < 18446744073709551616) (sym m.written) (image_short inputs m.tails tail m.opened m.merged text)
