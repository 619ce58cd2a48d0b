-- The two ends of a file.
use Rattle.std.specs.Prelude.{◌≡◌, ℕ, ◌+◌, ◌-◌, ◌≤◌, zero, suc, List, [], ◌∷◌, length, take, drop, slice_index, Option, Some, None, refl}
use Rattle.std.proofs.Common.{sym, ◌∙◌, ap, subst, inr, arith}
use Rattle.std.specs.Option.{IfSome}
use Rattle.orc_wire.specs.declared.post_script.PostScript.{PostScript}
use Rattle.orc_io.specs.Devices.{bytes_at}
use Rattle.orc_tail.specs.Layout.{magic, postscript_length, postscript_place, postscript_bytes}
use Rattle.orc_tail.specs.Tails.{postscript_tests, end_tests}
use Rattle.orc_tail.specs.declared.fault.FileFault.{FileFault}

-- a byte alone
pub byte_at : (bytes : List ℕ) (k : ℕ) → slice_index bytes k ≡ slice_index (take 1 (drop k bytes)) 0
byte_at [] zero = refl
byte_at [] (suc k) = refl
byte_at (b ∷ bytes) zero = refl
byte_at (b ∷ bytes) (suc k) = byte_at bytes k

module _ (told : Option (List ℕ)) (size n place : ℕ) (front last text : List ℕ) (long : 4 ≤ size) (fits : n + 4 ≤ size) (at : place ≡ size - 1 - n)
    (front_magic : front ≡ magic) (n_is : n ≡ slice_index last 0) where
  -- what is known of the bytes where they are told
  abbrev pub Known : List ℕ → Type 0
  Known bytes = (length bytes ≡ size) × ((front ≡ bytes_at 0 3 bytes) × ((last ≡ bytes_at (size - 1) 1 bytes) × (text ≡ bytes_at place n bytes)))

  length_is : (bytes : List ℕ) → Known bytes → postscript_length bytes ≡ n
  length_is bytes k =
      let e : slice_index bytes (length bytes - 1) ≡ slice_index (take 1 (drop (length bytes - 1) bytes)) 0 = byte_at bytes (length bytes - 1) in
      e ∙ (ap (λ (t : ℕ). slice_index (bytes_at (t - 1) 1 bytes) 0) k.0 ∙ (ap (λ (t : List ℕ). slice_index t 0) (sym k.1.1.0) ∙ sym n_is))

  place_is : (bytes : List ℕ) → Known bytes → place ≡ postscript_place bytes
  place_is bytes k = omega (arith, length_is bytes k, k.0, at)

  text_is : (bytes : List ℕ) → Known bytes → text ≡ postscript_bytes bytes
  text_is bytes k = k.1.1.1 ∙ (ap (λ (t : ℕ). bytes_at t n bytes) (place_is bytes k) ∙ ap (λ (t : ℕ). bytes_at (postscript_place bytes) t bytes) (sym (length_is bytes k)))

  magic_is : (bytes : List ℕ) → Known bytes → bytes_at 0 3 bytes ≡ magic
  magic_is bytes k = sym k.1.0 ∙ front_magic

  found : (s : PostScript) → (postscript_tests text place).finds s → (bytes : List ℕ) → Known bytes → (end_tests bytes).finds s × (place ≡ postscript_place bytes)
  found s h bytes k = (
    (
      omega (arith, long, k.0),
      (
        magic_is bytes k,
        (
          omega (arith, length_is bytes k, k.0, fits),
          subst (λ (t : ℕ). (postscript_tests (postscript_bytes bytes) t).finds s) (place_is bytes k) (subst (λ (t : List ℕ). (postscript_tests t place).finds s) (text_is bytes k) h),
        ),
      ),
    ),
    place_is bytes k,
  )

  fails : (fault : FileFault) → (postscript_tests text place).fails fault → (bytes : List ℕ) → Known bytes → (end_tests bytes).fails fault
  fails fault h bytes k =
      inr (
        omega (arith, long, k.0),
        inr (
          magic_is bytes k,
          inr (
            omega (arith, length_is bytes k, k.0, fits),
            subst (λ (t : ℕ). (postscript_tests (postscript_bytes bytes) t).fails fault) (place_is bytes k) (subst (λ (t : List ℕ). (postscript_tests t place).fails fault) (text_is bytes k) h),
          ),
        ),
      )

  all_of : (o : Option (List ℕ)) (P : List ℕ → Type 0) → ((bytes : List ℕ) → Known bytes → P bytes) → IfSome o (λ b. length b ≡ size) → IfSome o (λ b. front ≡ bytes_at 0 3 b) → IfSome o (λ b. last ≡ bytes_at (size - 1) 1 b)
      → IfSome o (λ b. text ≡ bytes_at place n b) → IfSome o P
  all_of None P f a b c d = tt
  all_of (Some bytes) P f a b c d = f bytes (a, (b, (c, d)))

  module _ (size_is : IfSome told (λ b. length b ≡ size)) (front_is : IfSome told (λ b. front ≡ bytes_at 0 3 b)) (last_is : IfSome told (λ b. last ≡ bytes_at (size - 1) 1 b))
      (text_read : IfSome told (λ b. text ≡ bytes_at place n b)) where
    pub ends_found : (s : PostScript) → (postscript_tests text place).finds s → IfSome told (λ b. (end_tests b).finds s × (place ≡ postscript_place b))
    ends_found s h = all_of told (λ b. (end_tests b).finds s × (place ≡ postscript_place b)) (found s h) size_is front_is last_is text_read

    pub ends_fail : (fault : FileFault) → (postscript_tests text place).fails fault → IfSome told (λ b. (end_tests b).fails fault)
    ends_fail fault h = all_of told (λ b. (end_tests b).fails fault) (fails fault h) size_is front_is last_is text_read

    pub ends_length : IfSome told (λ b. n ≡ postscript_length b)
    ends_length = all_of told (λ b. n ≡ postscript_length b) (λ b k. sym (length_is b k)) size_is front_is last_is text_read
