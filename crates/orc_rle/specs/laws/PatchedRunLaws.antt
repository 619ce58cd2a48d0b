-- What the writer makes of a chunk in the patched form is a run of it
-- (ORC specification, "Integer Run Length Encoding, version 2", "Patched Base").
use Rattle.std.proofs.Common.{ℕ, ◌*◌, ◌^◌, ◌+◌, Bool, List, ◌<◌, length, get_or, false, set, ◌∷◌, ◌≡◌, sym, subst, true, [], zero, suc, map, replicate, ◌++◌, arith, refl, ap, ◌∙◌, ◌%◌, ◌-◌, ◌/◌, inl, inr, length-append, append_assoc, pow-add, ℤ, ◌≤◌, pos, negsuc}
use Rattle.std.proofs.Math.Nat.{mod-le, mod-eq_of_lt, pow-suc}
use Rattle.std.proofs.lemmas.Bool.{cases_lt, lt-ltb, le-ltb}
use Rattle.std.proofs.lemmas.List.{set-get_or, map-append, append-nil, length-map}
use Rattle.std.proofs.lemmas.Nat.{shr_high, mod_low, pow_pos, shr_split}
use Rattle.std.specs.List.{AllByRecursion}
use Rattle.byteorder.specs.Endian.{big_number, big_bytes}
use Rattle.byteorder.specs.Numbers.{big_number-reads_back, length-bytes_high_first}
use Rattle.orc_bits.specs.Packed.{AllFit, IsPacked}
use Rattle.orc_bits.specs.Width.{width_at, IsLeastWidth}
use Rattle.orc_rle.specs.laws.LeastLaws.{code_of_header, count_of_header, AllFit-wider}
use Rattle.orc_rle.specs.Patched.{sign_magnitude, IsPatched, patch_digits}
use Rattle.orc_rle.specs.laws.PatchedLaws.{length-raised}
use Rattle.orc_rle.specs.PatchedText.{IsPatchedText, reaching, entries_of, magnitude, signed_number}
use Rattle.orc_rle.specs.Patches.{HasPatches, gap_of, patch_of}
use Rattle.orc_rle.specs.Patching.{IsOrdered, ArePatched}
use Rattle.orc_rle.specs.laws.PatchingLaws.{applied_are_patches}

abbrev patch_entry : ℕ → ℕ × ℕ → ℕ
patch_entry pw e = e.0 * 2 ^ pw + e.1

-- what is patched by one entry
one_patch : (w pw gap patch from : ℕ) (first : Bool) (old new : List ℕ) (es : List ℕ)
    → patch < 2 ^ pw → IsOrdered first gap → from + gap < length old
    → get_or old (from + gap) 0 + 2 ^ w * patch < 2 ^ 64
    → ArePatched w pw false (from + gap) es (set old (from + gap) (get_or old (from + gap) 0 + 2 ^ w * patch)) new
    → ArePatched w pw first from ((gap * 2 ^ pw + patch) ∷ es) old new
one_patch w pw gap patch from first old new es lt order place range rest =
    let g : gap ≡ gap_of pw (gap * 2 ^ pw + patch) = sym (shr_high gap pw patch lt) in
    let p : patch ≡ patch_of pw (gap * 2 ^ pw + patch) = sym (mod_low gap pw patch lt) in (
      record {
        order = subst (λ (k : ℕ). IsOrdered first k) g order;
        place = subst (λ (k : ℕ). from + k < length old) g place;
        range = subst (λ (k : ℕ). get_or old (from + gap_of pw (gap * 2 ^ pw + patch)) 0 + 2 ^ w * k < 2 ^ 64) p (subst (λ (k : ℕ). get_or old (from + k) 0 + 2 ^ w * patch < 2 ^ 64) g range);
      },
      subst (λ (k : ℕ). ArePatched w pw false (from + gap_of pw (gap * 2 ^ pw + patch)) es (set old (from + gap_of pw (gap * 2 ^ pw + patch)) (get_or old (from + gap_of pw (gap * 2 ^ pw + patch)) 0 + 2 ^ w * k)) new) p
          (subst (λ (k : ℕ). ArePatched w pw false (from + k) es (set old (from + k) (get_or old (from + k) 0 + 2 ^ w * patch)) new) g rest),
    )

ordered : (first : Bool) (gap : ℕ) → 0 < gap → IsOrdered first gap
ordered true gap some = tt
ordered false gap some = some

pub AllFit-get : (w : ℕ) (ns : List ℕ) (i : ℕ) → AllFit w ns → get_or ns i 0 < 2 ^ w
AllFit-get w [] i h = pow_pos w
AllFit-get w (n ∷ ns) zero h = h.0
AllFit-get w (n ∷ ns) (suc i) h = AllFit-get w ns i h.1

-- entries that only move on
fillers : (w pw k from : ℕ) (first : Bool) (old new es : List ℕ) → AllFit 64 old → from + 255 * k < length old
    → ((later : Bool) → (k ≡ 0 → later ≡ first) → ArePatched w pw later (from + 255 * k) es old new)
    → ArePatched w pw first from (map (patch_entry pw) (replicate k (255, 0)) ++ es) old new
fillers w pw zero from first old new es fit le rest =
    let none : from + 255 * 0 ≡ from = omega arith in
    subst (λ (k : ℕ). ArePatched w pw first k es old new) none (rest first (λ e. refl))
fillers w pw (suc k) from first old new es fit le rest =
    let place : from + 255 < length old = omega (arith, le) in
    let same : get_or old (from + 255) 0 + 2 ^ w * 0 ≡ get_or old (from + 255) 0 = omega arith in
    let more : (from + 255) + 255 * k ≡ from + 255 * suc k = omega arith in
    let inner : ArePatched w pw false (from + 255) (map (patch_entry pw) (replicate k (255, 0)) ++ es) old new =
    fillers w pw k (from + 255) false old new es fit (omega (arith, le)) (λ later e. subst (λ (j : ℕ). ArePatched w pw later j es old new) (sym more) (rest later (λ z. absurd (omega (arith, z))))) in
    one_patch w pw 255 0 from first old new (map (patch_entry pw) (replicate k (255, 0)) ++ es) (pow_pos pw) (ordered first 255 (omega arith)) place (rw same (AllFit-get 64 old (from + 255) fit))
    (subst (λ (t : List ℕ). ArePatched w pw false (from + 255) (map (patch_entry pw) (replicate k (255, 0)) ++ es) t new) (sym (ap (set old (from + 255)) same ∙ set-get_or old (from + 255) 0)) inner)

pub get_at : (pre : List ℕ) (x : ℕ) (xs : List ℕ) → get_or (pre ++ x ∷ xs) (length pre) 0 ≡ x
get_at [] x xs = refl
get_at (p ∷ pre) x xs = get_at pre x xs

pub set_at : (pre : List ℕ) (x y : ℕ) (xs : List ℕ) → set (pre ++ x ∷ xs) (length pre) y ≡ pre ++ y ∷ xs
set_at [] x y xs = refl
set_at (p ∷ pre) x y xs = ap (λ (t : List ℕ). p ∷ t) (set_at pre x y xs)

AllFit-join : (w : ℕ) (a b : List ℕ) → AllFit w a → AllFit w b → AllFit w (a ++ b)
AllFit-join w [] b p q = q
AllFit-join w (x ∷ a) b p q = (p.0, AllFit-join w a b p.1 q)

abbrev low : ℕ → ℕ → ℕ
low w n = n % 2 ^ w

lows_fit : (w : ℕ) (ns : List ℕ) → AllFit 64 ns → AllFit 64 (map (low w) ns)
lows_fit w [] h = tt
lows_fit w (n ∷ ns) h = let le = mod-le n (2 ^ w) in (omega (arith, h.0, le), lows_fit w ns h.1)

abbrev PatchesFit : ℕ → List (ℕ × ℕ) → Type 0
PatchesFit pw es = AllByRecursion (λ e. e.1 < 2 ^ pw) es

fit_parts : (pw : ℕ) (a b : List (ℕ × ℕ)) → PatchesFit pw (a ++ b) → PatchesFit pw a × PatchesFit pw b
fit_parts pw [] b h = (tt, h)
fit_parts pw (e ∷ a) b h = let r = fit_parts pw a b h.1 in ((h.0, r.0), r.1)

later_ordered : (first later : Bool) (gap : ℕ)
    → ((gap - 1) / 255 ≡ 0 → later ≡ first) → IsOrdered first gap → IsOrdered later (gap - 255 * ((gap - 1) / 255))
later_ordered first later gap e order =
    elim (cases_lt 0 gap) [
      | inl some ↦ ordered later (gap - 255 * ((gap - 1) / 255)) (omega (arith, some))
      | inr none ↦
          let same : gap ≡ gap - 255 * ((gap - 1) / 255) = omega (arith, none) in
          subst (λ (g : ℕ). IsOrdered later g) same (subst (λ (b : Bool). IsOrdered b gap) (sym (e (omega (arith, none)))) order)
    ]

-- the entry that patches the number after the front
reaches : (w pw gap from : ℕ) (first : Bool) (pre : List ℕ) (n : ℕ) (rest new es : List ℕ)
    → length pre ≡ from + gap → IsOrdered first gap
    → n / 2 ^ w < 2 ^ pw → n < 2 ^ 64 → AllFit 64 (pre ++ low w n ∷ rest)
    → ArePatched w pw false (length pre) es (pre ++ n ∷ rest) new
    → ArePatched w pw first from (map (patch_entry pw) (reaching gap (n / 2 ^ w)) ++ es) (pre ++ low w n ∷ rest) new
reaches w pw gap from first pre n rest new es len order fit small all more =
    let k = (gap - 1) / 255 in
    let last = gap - 255 * ((gap - 1) / 255) in
    let place : (from + 255 * ((gap - 1) / 255)) + (gap - 255 * ((gap - 1) / 255)) ≡ length pre = omega (arith, len) in
    let whole : n % 2 ^ w + 2 ^ w * (n / 2 ^ w) ≡ n = omega (arith, shr_split n w) in
    let inside : length pre < length (pre ++ low w n ∷ rest) = omega (arith, length-append pre (low w n ∷ rest)) in
    let at : ℕ = (from + 255 * ((gap - 1) / 255)) + (gap - 255 * ((gap - 1) / 255)) in
    let item : get_or (pre ++ low w n ∷ rest) ((from + 255 * ((gap - 1) / 255)) + (gap - 255 * ((gap - 1) / 255))) 0 + 2 ^ w * (n / 2 ^ w) ≡ n =
    ap (λ (i : ℕ). get_or (pre ++ low w n ∷ rest) i 0 + 2 ^ w * (n / 2 ^ w)) place ∙ (ap (λ (t : ℕ). t + 2 ^ w * (n / 2 ^ w)) (get_at pre (low w n) rest) ∙ whole) in
    let set_is : set (pre ++ low w n ∷ rest) ((from + 255 * ((gap - 1) / 255)) + (gap - 255 * ((gap - 1) / 255))) (get_or (pre ++ low w n ∷ rest) ((from + 255 * ((gap - 1) / 255)) + (gap - 255 * ((gap - 1) / 255))) 0 + 2 ^ w * (n / 2 ^ w)) ≡ pre ++ n ∷ rest =
    ap (set (pre ++ low w n ∷ rest) ((from + 255 * ((gap - 1) / 255)) + (gap - 255 * ((gap - 1) / 255)))) item ∙ (ap (λ (i : ℕ). set (pre ++ low w n ∷ rest) i n) place ∙ set_at pre (low w n) n rest) in
    rw (map-append (patch_entry pw) (replicate ((gap - 1) / 255) (255, 0)) ((gap - 255 * ((gap - 1) / 255), n / 2 ^ w) ∷ []), append_assoc)
    (fillers w pw ((gap - 1) / 255) from first (pre ++ low w n ∷ rest) new (patch_entry pw (gap - 255 * ((gap - 1) / 255), n / 2 ^ w) ∷ es) all (omega (arith, len, inside))
    (λ later e. one_patch w pw (gap - 255 * ((gap - 1) / 255)) (n / 2 ^ w) (from + 255 * ((gap - 1) / 255)) later (pre ++ low w n ∷ rest) new es fit
    (later_ordered first later gap e order) (omega (arith, place, inside)) (omega (arith, item, small))
    (subst (λ (i : ℕ). ArePatched w pw false i es (set (pre ++ low w n ∷ rest) ((from + 255 * ((gap - 1) / 255)) + (gap - 255 * ((gap - 1) / 255))) (get_or (pre ++ low w n ∷ rest) ((from + 255 * ((gap - 1) / 255)) + (gap - 255 * ((gap - 1) / 255))) 0 + 2 ^ w * (n / 2 ^ w))) new) (sym place)
    (subst (λ (t : List ℕ). ArePatched w pw false (length pre) es t new) (sym set_is) more))))

-- the entries of the numbers turn their lower digits into the numbers
applied : (w pw gap from : ℕ) (first : Bool) (pre ns : List ℕ)
    → length pre ≡ from + gap → IsOrdered first gap → AllFit 64 pre → AllFit 64 ns
    → PatchesFit pw (entries_of w gap ns)
    → ArePatched w pw first from (map (patch_entry pw) (entries_of w gap ns)) (pre ++ map (low w) ns) (pre ++ ns)
applied w pw gap from first pre [] len order fp fn fits = refl
applied w pw gap from first pre (n ∷ ns) len order fp fn fits =
    elim (cases_lt n (2 ^ w)) [
      | inl lt ↦
          let is : n % 2 ^ w ≡ n = mod-eq_of_lt lt in
          let few = rw (lt-ltb n (2 ^ w) lt) at fits in
          let inner = applied w pw (gap + 1) from first (pre ++ n ∷ []) ns (omega (arith, len, length-append pre (n ∷ []))) (ordered first (gap + 1) (omega arith)) (AllFit-join 64 pre (n ∷ []) fp (fn.0, tt)) fn.1 few in
          rw (lt-ltb n (2 ^ w) lt, is)
          (subst (λ (t : List ℕ). ArePatched w pw first from (map (patch_entry pw) (entries_of w (gap + 1) ns)) t (pre ++ n ∷ ns)) (append_assoc pre (n ∷ []) (map (low w) ns))
          (subst (λ (t : List ℕ). ArePatched w pw first from (map (patch_entry pw) (entries_of w (gap + 1) ns)) ((pre ++ n ∷ []) ++ map (low w) ns) t) (append_assoc pre (n ∷ []) ns) inner))
      | inr ge ↦
          let both = fit_parts pw (reaching gap (n / 2 ^ w)) (entries_of w 1 ns) (rw (le-ltb n (2 ^ w) ge) at fits) in
          let last = (fit_parts pw (replicate ((gap - 1) / 255) (255, 0)) ((gap - 255 * ((gap - 1) / 255), n / 2 ^ w) ∷ []) both.0).1.0 in
          let inner = applied w pw 1 (length pre) false (pre ++ n ∷ []) ns (omega (arith, length-append pre (n ∷ []))) (ordered false 1 (omega arith)) (AllFit-join 64 pre (n ∷ []) fp (fn.0, tt)) fn.1 both.1 in
          let more : ArePatched w pw false (length pre) (map (patch_entry pw) (entries_of w 1 ns)) (pre ++ n ∷ map (low w) ns) (pre ++ n ∷ ns) =
          subst (λ (t : List ℕ). ArePatched w pw false (length pre) (map (patch_entry pw) (entries_of w 1 ns)) t (pre ++ n ∷ ns)) (append_assoc pre (n ∷ []) (map (low w) ns))
          (subst (λ (t : List ℕ). ArePatched w pw false (length pre) (map (patch_entry pw) (entries_of w 1 ns)) ((pre ++ n ∷ []) ++ map (low w) ns) t) (append_assoc pre (n ∷ []) ns) inner) in
          let all : AllFit 64 (pre ++ low w n ∷ map (low w) ns) = AllFit-join 64 pre (low w n ∷ map (low w) ns) fp (lows_fit w (n ∷ ns) fn) in
          rw (le-ltb n (2 ^ w) ge, map-append (patch_entry pw) (reaching gap (n / 2 ^ w)) (entries_of w 1 ns))
          (reaches w pw gap from first pre n (map (low w) ns) (pre ++ n ∷ ns) (map (patch_entry pw) (entries_of w 1 ns)) len order last fn.0 all more)
    ]

pub pow_bytes : (n : ℕ) → 256 ^ n ≡ 2 ^ (8 * n)
pow_bytes zero = refl
pow_bytes (suc n) =
    let eight : 8 * suc n ≡ 8 * n + 8 = omega arith in
    rw (eight, pow-add 2 (8 * n) 8, pow-suc 256 n, pow_bytes n) refl

-- a base of so many bytes reads back
signed_fits : (size : ℕ) (base : ℤ)
    → 1 ≤ size → magnitude base < 2 ^ (8 * size - 1) → signed_number size base < 256 ^ size
signed_fits size (pos n) one lt =
    let top : 8 * size ≡ suc (8 * size - 1) = omega (arith, one) in
    rw (pow_bytes size, top) (omega (arith, lt, pow-suc 2 (8 * size - 1)))
signed_fits size (negsuc n) one lt =
    let top : 8 * size ≡ suc (8 * size - 1) = omega (arith, one) in
    let all : 256 ^ size ≡ 2 ^ (8 * size - 1) * 2 = pow_bytes size ∙ (ap (λ (k : ℕ). 2 ^ k) top ∙ pow-suc 2 (8 * size - 1)) in
    omega (arith, lt, all)

sign_is : (size : ℕ) (base : ℤ)
    → magnitude base < 2 ^ (8 * size - 1) → base ≡ sign_magnitude size (signed_number size base)
sign_is size (pos n) lt = rw (lt-ltb n (2 ^ (8 * size - 1)) lt) refl
sign_is size (negsuc n) lt =
    let big : 2 ^ (8 * size - 1) ≤ 2 ^ (8 * size - 1) + (n + 1) = omega arith in
    let one : 1 * 2 ^ (8 * size - 1) + (n + 1) ≡ 2 ^ (8 * size - 1) + (n + 1) = omega arith in
    let low_is : (2 ^ (8 * size - 1) + (n + 1)) % 2 ^ (8 * size - 1) ≡ suc n = ap (λ (k : ℕ). k % 2 ^ (8 * size - 1)) (sym one) ∙ (mod_low 1 (8 * size - 1) (n + 1) lt ∙ (omega arith)) in
    rw (le-ltb (2 ^ (8 * size - 1) + (n + 1)) (2 ^ (8 * size - 1)) big, low_is) refl

pub patched_is_run : (chunk : List ℤ) (text : List ℕ)
    → 1 ≤ length chunk → length chunk ≤ 512 → IsPatchedText chunk text → IsPatched text chunk
patched_is_run chunk text some most p =
    let es = p.entries_are in
    let code = code_of_header 2 p.code (length chunk) (omega arith) es.is_code most in
    let count = count_of_header 2 p.code (length chunk) (omega arith) es.is_code some most in
    let patch_top = es.patch_width.is.0 in
    let third_code : ((p.size - 1) * 32 + p.patch_code) % 32 ≡ p.patch_code = omega (arith, patch_top) in
    let third_size : ((p.size - 1) * 32 + p.patch_code) / 32 + 1 ≡ p.size = omega (arith, patch_top, p.size_is.is.0) in
    let fourth_count : ((p.gap_digits - 1) * 32 + length p.entries) % 32 ≡ length p.entries = omega (arith, es.few) in
    let fourth_gap : ((p.gap_digits - 1) * 32 + length p.entries) / 32 + 1 ≡ p.gap_digits = omega (arith, es.few, es.gap_width.is.0) in
    let digits : patch_digits ((p.size - 1) * 32 + p.patch_code) ((p.gap_digits - 1) * 32 + length p.entries) ≡ p.gap_digits + width_at p.patch_code =
    ap (λ (k : ℕ). k + width_at (((p.size - 1) * 32 + p.patch_code) % 32)) fourth_gap ∙ ap (λ (k : ℕ). p.gap_digits + width_at k) third_code in
    let read : big_number p.size (big_bytes p.size (signed_number p.size p.base)) ≡ signed_number p.size p.base =
    ap (big_number p.size) (sym (append-nil (big_bytes p.size (signed_number p.size p.base)))) ∙ big_number-reads_back p.size (signed_number p.size p.base) [] (signed_fits p.size p.base p.size_is.is.0 p.size_is.is.1) in
    let patched : ArePatched (width_at p.code) (width_at p.patch_code) true 0 (map (patch_entry (width_at p.patch_code)) p.entries) (map (low (width_at p.code)) p.numbers) p.numbers =
    subst (λ (k : List (ℕ × ℕ)). ArePatched (width_at p.code) (width_at p.patch_code) true 0 (map (patch_entry (width_at p.patch_code)) k) (map (low (width_at p.code)) p.numbers) p.numbers) (sym es.entries_are)
    (applied (width_at p.code) (width_at p.patch_code) 0 0 true [] p.numbers refl tt tt (AllFit-wider 63 64 p.numbers (omega arith) p.spread) (subst (λ (k : List (ℕ × ℕ)). PatchesFit (width_at p.patch_code) k) es.entries_are es.patch_width.is.1)) in
    let patches = applied_are_patches (width_at p.code) (width_at p.patch_code) (map (patch_entry (width_at p.patch_code)) p.entries) (map (low (width_at p.code)) p.numbers) p.numbers
    (lows_fit (width_at p.code) p.numbers (AllFit-wider 63 64 p.numbers (omega arith) p.spread)) patched in
    record {
      head = 64 * 2 + 2 * p.code + (length chunk - 1) / 256;
      low = (length chunk - 1) % 256;
      third = (p.size - 1) * 32 + p.patch_code;
      fourth = (p.gap_digits - 1) * 32 + length p.entries;
      text = big_bytes p.size (signed_number p.size p.base) ++ (p.packed ++ p.patches);
      base = p.base;
      numbers = map (low (width_at p.code)) p.numbers;
      entries = map (patch_entry (width_at p.patch_code)) p.entries;
      patched = p.numbers;
      bottom = omega arith;
      top = omega (arith, es.is_code);
      room = omega (arith, digits, es.room);
      is = record {
        base_text = big_bytes p.size (signed_number p.size p.base);
        number_text = p.packed;
        entry_text = p.patches;
        code = p.entry_code;
        base_len = length-bytes_high_first p.size (signed_number p.size p.base) ∙ sym third_size;
        base_is = sign_is p.size p.base p.size_is.is.1 ∙ (ap (sign_magnitude p.size) (sym read) ∙ ap (λ (k : ℕ). sign_magnitude k (big_number k (big_bytes p.size (signed_number p.size p.base)))) (sym third_size));
        packed = subst (λ (c : ℕ). IsPacked p.packed (width_at c) (map (low (width_at p.code)) p.numbers)) (sym code) p.packed_is.packed;
        least = subst (λ (k : ℕ). IsLeastWidth k p.entry_code) (sym digits) p.entry_width;
        entries_packed = p.patches_are.packed;
        text_is = refl;
      };
      len = length-map p.numbers (low (width_at p.code)) ∙ (sym (length-raised p.base p.numbers) ∙ (sym (ap (λ (t : List ℤ). length t) p.above.values_are) ∙ sym count));
      entries_len = length-map p.entries (patch_entry (width_at p.patch_code)) ∙ sym fourth_count;
      patches = subst (λ (c : ℕ). HasPatches (width_at c) (width_at (((p.size - 1) * 32 + p.patch_code) % 32)) (map (patch_entry (width_at p.patch_code)) p.entries) (map (low (width_at p.code)) p.numbers) p.numbers) (sym code)
          (subst (λ (c : ℕ). HasPatches (width_at p.code) (width_at c) (map (patch_entry (width_at p.patch_code)) p.entries) (map (low (width_at p.code)) p.numbers) p.numbers) (sym third_code) patches);
      values_are = p.above.values_are;
      bytes_are = p.text_is;
    }
