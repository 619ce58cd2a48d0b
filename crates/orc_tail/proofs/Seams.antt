-- The parts of a file that is written as one part after the other.
use Rattle.std.specs.Prelude.{◌≡◌, ℕ, ◌+◌, ◌-◌, ◌≤◌, List, [], ◌∷◌, ◌++◌, length, take, slice_index, refl}
use Rattle.std.proofs.Common.{sym, ◌∙◌, ap, arith, append_assoc, length-append}
use Rattle.std.proofs.Math.Seq.{drop-append_seam, take-append_seam}
use Rattle.orc_wire.specs.declared.post_script.PostScript.{PostScript}
use Rattle.orc_io.specs.Devices.{bytes_at}
use Rattle.orc_tail.specs.Layout.{magic, postscript_length, postscript_place, postscript_bytes, footer_place, footer_bytes, metadata_place, metadata_bytes}
use Rattle.orc_tail.specs.Images.{ended}

-- what stands between a front and a rest
pub between : (whole a b rest : List ℕ) (at n : ℕ) → whole ≡ a ++ (b ++ rest) → at ≡ length a → n ≡ length b → bytes_at at n whole ≡ b
between whole a b rest at n e p q =
    rw (e, p, q) (ap (take (length b)) (drop-append_seam a (b ++ rest)) ∙ take-append_seam b rest)

-- the last number of a list
pub last_of : (xs : List ℕ) (n : ℕ) → slice_index (xs ++ n ∷ []) (length xs) ≡ n
last_of [] n = refl
last_of (x ∷ xs) n = last_of xs n

module _ (content metadata footer postscript : List ℕ) where
  abbrev pub bytes : List ℕ
  bytes = magic ++ (content ++ ended metadata footer postscript)

  abbrev last : List ℕ
  last = length postscript ∷ []

  abbrev front_1 : List ℕ
  front_1 = magic ++ content

  abbrev front_2 : List ℕ
  front_2 = front_1 ++ metadata

  abbrev front_3 : List ℕ
  front_3 = front_2 ++ footer

  abbrev front_4 : List ℕ
  front_4 = front_3 ++ postscript

  at_1 : bytes ≡ front_1 ++ (metadata ++ (footer ++ (postscript ++ last)))
  at_1 = sym (append_assoc magic content (metadata ++ (footer ++ (postscript ++ last))))

  at_2 : bytes ≡ front_2 ++ (footer ++ (postscript ++ last))
  at_2 = at_1 ∙ sym (append_assoc front_1 metadata (footer ++ (postscript ++ last)))

  at_3 : bytes ≡ front_3 ++ (postscript ++ last)
  at_3 = at_2 ∙ sym (append_assoc front_2 footer (postscript ++ last))

  at_4 : bytes ≡ front_4 ++ last
  at_4 = at_3 ∙ sym (append_assoc front_3 postscript last)

  length_1 : length front_1 ≡ 3 + length content
  length_1 = length-append magic content

  length_2 : length front_2 ≡ 3 + length content + length metadata
  length_2 = length-append front_1 metadata ∙ ap (λ (t : ℕ). t + length metadata) length_1

  length_3 : length front_3 ≡ 3 + length content + length metadata + length footer
  length_3 = length-append front_2 footer ∙ ap (λ (t : ℕ). t + length footer) length_2

  length_4 : length front_4 ≡ 3 + length content + length metadata + length footer + length postscript
  length_4 = length-append front_3 postscript ∙ ap (λ (t : ℕ). t + length postscript) length_3

  pub length-bytes : length bytes ≡ 3 + length content + length metadata + length footer + length postscript + 1
  length-bytes = ap length at_4 ∙ (length-append front_4 last ∙ ap (λ (t : ℕ). t + 1) length_4)

  pub postscript_length-is : postscript_length bytes ≡ length postscript
  postscript_length-is =
      let at : length bytes - 1 ≡ length front_4 = omega (arith, length-bytes, length_4) in
      ap (slice_index bytes) at ∙ (ap (λ (t : List ℕ). slice_index t (length front_4)) at_4 ∙ last_of front_4 (length postscript))

  pub postscript_place-is : postscript_place bytes ≡ length front_3
  postscript_place-is = omega (arith, length-bytes, length_3, postscript_length-is)

  pub postscript_bytes-are : postscript_bytes bytes ≡ postscript
  postscript_bytes-are = between bytes front_3 postscript last (postscript_place bytes) (postscript_length bytes) at_3 postscript_place-is postscript_length-is

  module _ (s : PostScript) (footer_is : s.footer_length ≡ length footer) (metadata_is : s.metadata_length ≡ length metadata) where
    pub footer_place-is : footer_place bytes s ≡ length front_2
    footer_place-is = omega (arith, length-bytes, length_3, length_2, postscript_place-is, footer_is)

    pub footer_bytes-are : footer_bytes bytes s ≡ footer
    footer_bytes-are = between bytes front_2 footer (postscript ++ last) (footer_place bytes s) s.footer_length at_2 footer_place-is footer_is

    pub metadata_place-is : metadata_place bytes s ≡ 3 + length content
    metadata_place-is = omega (arith, length_2, length_1, footer_place-is, metadata_is)

    pub metadata_bytes-are : metadata_bytes bytes s ≡ metadata
    metadata_bytes-are = between bytes front_1 metadata (footer ++ (postscript ++ last)) (metadata_place bytes s) s.metadata_length at_1 (metadata_place-is ∙ sym length_1) metadata_is

    pub room : 3 + s.metadata_length + s.footer_length ≤ postscript_place bytes
    room = omega (arith, postscript_place-is, length_3, footer_is, metadata_is)
