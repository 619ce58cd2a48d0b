-- A postscript of a version within the limits has fewer than 256 bytes, so that one byte holds its length.
use Rattle.std.specs.Prelude.{◌≡◌, ℕ, ◌+◌, ◌*◌, ◌^◌, ◌<◌, ◌≤◌, List, [], ◌∷◌, ◌++◌, length, Option, Some, None}
use Rattle.std.proofs.Common.{ap, arith, length-append}
use Rattle.std.specs.Option.{IfSome}
use Rattle.orc_bits.specs.Varint.{IsVarint, varint_text}
use Rattle.orc_bits.proofs.VarintLemmas.{varint_text-is}
use Rattle.orc_wire.specs.Fields.{varint}
use Rattle.orc_wire.specs.CanonicalText.{some_text, known_text, varints_text, packed_text, number_text, sized_text}
use Rattle.orc_wire.specs.CanonicalKinds.{AreBelow}
use Rattle.orc_wire.specs.CanonicalMessages.{post_script_text}
use Rattle.orc_wire.specs.declared.post_script.PostScript.{PostScript}
use Rattle.orc_tail.specs.Layout.{magic}

varint_len : (n : ℕ) → n < 2 ^ 64 → length (varint_text n) ≤ 10
varint_len n lt = (varint_text-is n lt).varint.len

one_byte : (n : ℕ) → n < 128 → IsVarint (n ∷ []) n
one_byte n lt = record { chain = lt; len = omega arith; value = omega (arith, lt); fits = omega (arith, lt) }

key_len : (n : ℕ) → n < 128 → length (varint_text n) ≤ 1
key_len n lt = (varint_text-is n (omega (arith, lt))).shortest (n ∷ []) (one_byte n lt)

number_len : (n v : ℕ) → n < 16 → v < 2 ^ 64 → length (number_text n v) ≤ 11
number_len n v few lt = omega (arith, length-append (varint_text (n * 8 + 0)) (varint_text v), key_len (n * 8 + 0) (omega (arith, few)), varint_len v lt)

sized_len : (key : ℕ) (bytes : List ℕ) → length bytes < 2 ^ 64 → length (varint_text key ++ (varint_text (length bytes) ++ bytes)) ≤ length (varint_text key) + 10 + length bytes
sized_len key bytes lt =
    omega (arith, length-append (varint_text key) (varint_text (length bytes) ++ bytes), length-append (varint_text (length bytes)) bytes, varint_len (length bytes) lt)

some_len : (n : ℕ) (bytes : List ℕ) → n < 15 → length bytes < 2 ^ 64 → length (some_text n bytes) ≤ 11 + length bytes
some_len n [] few lt = omega arith
some_len n (b ∷ bytes) few lt = let k = key_len (n * 8 + 2) (omega (arith, few)) in omega (arith, sized_len (n * 8 + 2) (b ∷ bytes) lt, k)

varints_len : (ns : List ℕ) → AreBelow (2 ^ 32) ns → length (varints_text ns) ≤ 10 * length ns
varints_len [] h = omega arith
varints_len (n ∷ ns) h =
    let lt : n < 2 ^ 32 = h.0 in
    omega (arith, length-append (varint_text n) (varints_text ns), varint_len n (omega (arith, lt)), varints_len ns h.1)

known_len : (n : ℕ) (v : Option ℕ) → n < 16 → IfSome v (λ k. k < 2 ^ 32) → length (known_text (λ k. varint k) n v) ≤ 11
known_len n None few h = omega arith
known_len n (Some v) few h = let lt : v < 2 ^ 32 = h in number_len n v few (omega (arith, lt))

-- the length of six texts, one after the other
six : (a b c d e f : List ℕ) → length (a ++ (b ++ (c ++ (d ++ (e ++ f))))) ≡ length a + (length b + (length c + (length d + (length e + length f))))
six a b c d e f =
    omega (arith, length-append a (b ++ (c ++ (d ++ (e ++ f)))), length-append b (c ++ (d ++ (e ++ f))), length-append c (d ++ (e ++ f)), length-append d (e ++ f), length-append e f)

pub postscript_short : (m : PostScript) → length m.version ≤ 16 → m.magic ≡ magic → post_script_text.bounded m → length (post_script_text.text m) < 256
postscript_short m few is can =
    let footer = number_len 1 m.footer_length (omega arith) can.0 in
    let compression : m.compression < 2 ^ 32 = can.1.0 in
    let kind = number_len 2 m.compression (omega arith) (omega (arith, compression)) in
    let numbers = varints_len m.version can.1.1.0 in
    let version = some_len 4 (varints_text m.version) (omega arith) (omega (arith, numbers, few)) in
    let metadata = number_len 5 m.metadata_length (omega arith) can.1.1.1.0 in
    let writer = known_len 6 m.writer_version (omega arith) can.1.1.1.1.0 in
    let three : length m.magic ≡ 3 = ap length is in
    let name = sized_len 64002 m.magic (omega (arith, three)) in
    let key = varint_len 64002 (omega arith) in
    omega (
      arith,
      six (number_text 1 m.footer_length) (number_text 2 m.compression) (packed_text 4 m.version) (number_text 5 m.metadata_length) (known_text (λ k. varint k) 6 m.writer_version)
          (sized_text 8000 m.magic),
      footer,
      kind,
      numbers,
      few,
      version,
      metadata,
      writer,
      three,
      name,
      key,
    )
