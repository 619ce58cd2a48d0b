-- Tests with a cap beside those without: what they find, and how they fail.
use Rattle.std.specs.Prelude.{◌≡◌, ℕ, ◌+◌, ◌<◌, ◌≤◌, List, length, ◌⊎◌, Option, Some, None, Result}
use Rattle.std.proofs.Common.{refl, sym, subst, inl, inr, arith}
use Rattle.std.specs.Option.{IfSome}
use Rattle.std.specs.Result.{MatchResult}
use Rattle.orc_wire.specs.declared.post_script.PostScript.{PostScript}
use Rattle.orc_tail.specs.Layout.{postscript_length, postscript_place}
use Rattle.orc_tail.specs.Tails.{end_tests, IsTail, TailOpenFault, ReadFault}
use Rattle.orc_tail.specs.Caps.{no_cap, tail_length, IsCappedTail, CappedFault}
use Rattle.orc_tail.specs.declared.tail.Tail.{Tail}
use Rattle.orc_tail.specs.declared.fault.FileFault.{FileFault}
use Rattle.orc_tail.specs.declared.fault.FileFault.TheVariants.{Limit}

-- the tail's parts lie within the file
pub tail_short : (bytes : List ℕ) (postscript : PostScript) → length bytes ≤ no_cap → (end_tests bytes).finds postscript → tail_length bytes postscript ≤ no_cap
tail_short bytes postscript few h =
    let read = h.1.1.1 in
    let room = read.2.1.1.1 in
    subst (λ (s : PostScript). tail_length bytes s ≤ no_cap) (sym room.1) (omega (arith, few, h.1.1.0, room.0))

pub is_tail : (cap : ℕ) (bytes : List ℕ) (tail : Tail) → IsCappedTail cap bytes tail → IsTail bytes tail
is_tail cap bytes tail h = h.2.1

pub is_capped : (bytes : List ℕ) (tail : Tail) → length bytes ≤ no_cap → IsTail bytes tail → IsCappedTail no_cap bytes tail
is_capped bytes tail few h = (h.0, h.1, (tail_short bytes h.0 few h.1, h))

pub is_open : (bytes : List ℕ) (fault : FileFault) → length bytes ≤ no_cap → CappedFault no_cap bytes fault → TailOpenFault bytes fault
is_open bytes fault few (inl ends) = inl ends
is_open bytes fault few (inr h) = elim h.2 [ inl above ↦ absurd (above.0 (tail_short bytes h.0 few h.1)) | inr later ↦ later.1 ]

pub is_open_capped : (bytes : List ℕ) (fault : FileFault) → length bytes ≤ no_cap → TailOpenFault bytes fault → CappedFault no_cap bytes fault
is_open_capped bytes fault few (inl ends) = inl ends
is_open_capped bytes fault few (inr h) = inr (h.0, h.1, inr (tail_short bytes h.0 few h.1, inr h))

-- a cap adds one refusal
pub one_more_fault : (cap : ℕ) (bytes : List ℕ) (fault : FileFault) → CappedFault cap bytes fault → TailOpenFault bytes fault ⊎ (fault ≡ Limit)
one_more_fault cap bytes fault (inl ends) = inl (inl ends)
one_more_fault cap bytes fault (inr h) = elim h.2 [ inl above ↦ inr above.1 | inr later ↦ inl later.1 ]

-- ---- where the bytes are told

-- what is known of the ends where the bytes are told
abbrev pub HasEnds : PostScript → ℕ → ℕ → List ℕ → Type 0
HasEnds postscript place n bytes = ((end_tests bytes).finds postscript × (place ≡ postscript_place bytes)) × (n ≡ postscript_length bytes)

pub ends_with : (told : Option (List ℕ)) (postscript : PostScript) (place n : ℕ) → IfSome told (λ b. (end_tests b).finds postscript × (place ≡ postscript_place b))
    → IfSome told (λ b. n ≡ postscript_length b) → IfSome told (λ b. HasEnds postscript place n b)
ends_with None postscript place n e l = tt
ends_with (Some bytes) postscript place n e l = (e, l)

pub above_cap : (told : Option (List ℕ)) (cap : ℕ) (postscript : PostScript) (place n : ℕ) → IfSome told (λ b. HasEnds postscript place n b)
    → cap < n + postscript.footer_length + postscript.metadata_length → IfSome told (λ b. CappedFault cap b Limit)
above_cap None cap postscript place n e above = tt
above_cap (Some bytes) cap postscript place n e above = inr (postscript, e.0.0, inl ((λ within. omega (arith, within, above, e.1)), refl))

pub fails_within : (told : Option (List ℕ)) (cap : ℕ) (postscript : PostScript) (place n : ℕ) (fault : FileFault) → IfSome told (λ b. HasEnds postscript place n b)
    → n + postscript.footer_length + postscript.metadata_length ≤ cap → IfSome told (λ b. TailOpenFault b fault) → IfSome told (λ b. CappedFault cap b fault)
fails_within None cap postscript place n fault e within h = tt
fails_within (Some bytes) cap postscript place n fault e within h = inr (postscript, e.0.0, inr (omega (arith, within, e.1), h))

pub found_within : (told : Option (List ℕ)) (cap : ℕ) (postscript : PostScript) (place n : ℕ) (tail : Tail) → IfSome told (λ b. HasEnds postscript place n b)
    → n + postscript.footer_length + postscript.metadata_length ≤ cap → IfSome told (λ b. IsTail b tail) → IfSome told (λ b. IsCappedTail cap b tail)
found_within None cap postscript place n tail e within h = tt
found_within (Some bytes) cap postscript place n tail e within h = (postscript, e.0.0, (omega (arith, within, e.1), h))

-- the ends' own fault comes before the cap
pub ends_capped : (told : Option (List ℕ)) (cap : ℕ) (fault : FileFault) → ReadFault told fault (λ b. (end_tests b).fails fault) → ReadFault told fault (λ b. CappedFault cap b fault)
ends_capped told cap fault (inl memory) = inl memory
ends_capped told cap fault (inr (inl source)) = inr (inl source)
ends_capped None cap fault (inr (inr h)) = inr (inr tt)
ends_capped (Some bytes) cap fault (inr (inr h)) = inr (inr (inl h))

-- ---- at the greatest cap

pub told_few : (told : Option (List ℕ)) (size : ℕ) → IfSome told (λ b. length b ≡ size) → size ≤ no_cap → IfSome told (λ b. length b ≤ no_cap)
told_few None size e few = tt
told_few (Some bytes) size e few = rw e few

pub told_tail : (told : Option (List ℕ)) (cap : ℕ) (tail : Tail) → IfSome told (λ b. IsCappedTail cap b tail) → IfSome told (λ b. IsTail b tail)
told_tail None cap tail h = tt
told_tail (Some bytes) cap tail h = is_tail cap bytes tail h

pub told_fault : (told : Option (List ℕ)) (fault : FileFault) → IfSome told (λ b. length b ≤ no_cap) → ReadFault told fault (λ b. CappedFault no_cap b fault) → ReadFault told fault (λ b. TailOpenFault b fault)
told_fault told fault few (inl memory) = inl memory
told_fault told fault few (inr (inl source)) = inr (inl source)
told_fault None fault few (inr (inr h)) = inr (inr tt)
told_fault (Some bytes) fault few (inr (inr h)) = inr (inr (is_open bytes fault few h))

pub told_only : {T E : Type 0} (told : Option (List ℕ)) (r : Result T E) (P : Tail → T → Type 0) (Q : E → Type 0) → IfSome told (λ b. length b ≤ no_cap)
    → IfSome told (λ b. (tail : Tail) → IsCappedTail no_cap b tail → MatchResult r (P tail) Q) → IfSome told (λ b. (tail : Tail) → IsTail b tail → MatchResult r (P tail) Q)
told_only None r P Q few h = tt
told_only (Some bytes) r P Q few h = λ tail is. h tail (is_capped bytes tail few is)
