-- A file that is written from a tail has this tail.
use Rattle.std.specs.Prelude.{◌≡◌, ℕ, ◌+◌, ◌<◌, ◌≤◌, ◌^◌, List, [], ◌∷◌, ◌++◌, length, map, refl}
use Rattle.std.specs.List.{AllByRecursion}
use Rattle.std.proofs.Common.{sym, ◌∙◌, ap, subst, inl, inr, arith, lit≤, length-append}
use Rattle.orc_wire.specs.Messages.{post_script, footer, metadata}
use Rattle.orc_wire.specs.Spells.{Spells}
use Rattle.orc_wire.specs.Fields.{Item}
use Rattle.orc_wire.specs.Canonical.{spells_again, IsBetween}
use Rattle.orc_wire.specs.CanonicalFields.{some_top}
use Rattle.orc_wire.specs.CanonicalKinds.{AreKept}
use Rattle.orc_wire.specs.CanonicalMessages.{post_script_text, footer_text, metadata_text}
use Rattle.orc_wire.proofs.WholeLaws.{footer_whole}
use Rattle.orc_wire.specs.declared.stripe_info.StripeInfo.{StripeInfo}
use Rattle.orc_wire.specs.declared.post_script.PostScript.{PostScript}
use Rattle.orc_wire.specs.declared.footer.Footer.{Footer}
use Rattle.orc_wire.specs.declared.column_stats.Metadata.{Metadata}
use Rattle.orc_values.specs.Shapes.{Shape}
use Rattle.orc_stats.specs.declared.stat.Stat.{Stat}
use Rattle.orc_stats.specs.Messages.{message_of}
use Rattle.std.proofs.lemmas.List.{length-map}
use Rattle.orc_tail.specs.Layout.{postscript_place}
use Rattle.orc_tail.specs.Stripes.{stripe_tests, stripes_length, stripe_end, IsLaid, most_stripe_rows}
use Rattle.orc_tail.specs.Statistics.{stats_read, stripe_stats_read, stripe_message}
use Rattle.orc_tail.specs.Tails.{IsTail, end_tests, postscript_tests, footer_tests, metadata_tests, limit_tests, tail_of}
use Rattle.orc_tail.specs.Images.{image, tail_text, metadata_of, footer_of, postscript_of, IsWithinLimits, HasBits}
use Rattle.orc_tail.specs.declared.tail.Tail.{Tail}
use Rattle.orc_tail.proofs.Seams.{bytes, length-bytes, postscript_length-is, postscript_bytes-are, footer_bytes-are, metadata_bytes-are, metadata_place-is, room}
use Rattle.orc_tail.proofs.ShortPostscript.{postscript_short}
use Rattle.orc_tail.proofs.StatLaws.{stats_back, stripes_back, read_within, stripes_within, stripes_few, stats_whole, stats_bounded, stripes_whole, stripes_bounded}

-- stripes that lie without gaps pass their tests
pub laid_pass : (n from before : ℕ) (ss : List StripeInfo) → IsLaid from ss → from + stripes_length ss ≤ before → AllByRecursion (λ s. s.number_of_rows ≤ most_stripe_rows) ss
    → (stripe_tests n from before ss).finds tt
laid_pass n from before [] laid fits rows = refl
laid_pass n from before (s ∷ ss) laid fits rows =
    let place = laid.0 in (
      (omega (arith, place), omega (arith, place, fits)),
      (rows.0, laid_pass (n + 1) (stripe_end s) before ss laid.1 (omega (arith, place, fits)) rows.1),
    )

all_from : (m n : ℕ) (fields : List Item) → n ≤ m → AllByRecursion (IsBetween m (2 ^ 29)) fields → AllByRecursion (IsBetween n (2 ^ 29)) fields
all_from m n [] le h = tt
all_from m n (item ∷ fields) le h = let b = h.0 in (record { least = omega (arith, b.least, le); most = b.most }, all_from m n fields le h.1)

pub kept_down : (m n : ℕ) (text : List ℕ) → n ≤ m → AreKept m text → AreKept n text
kept_down m n text le h = record { fields = h.fields; are = h.are; from = all_from m n h.fields le h.from }

-- the parts pass their tests
module _ (content metadata_part footer_part postscript_part : List ℕ) (s : PostScript) (f : Footer) (schema : Shape) (m : Metadata)
    (footer_is : s.footer_length ≡ length footer_part) (metadata_is : s.metadata_length ≡ length metadata_part) where
  abbrev file : List ℕ
  file = bytes content metadata_part footer_part postscript_part

  pub ends_pass : (postscript_tests postscript_part (postscript_place file)).finds s → (end_tests file).finds s
  ends_pass h =
      let total = length-bytes content metadata_part footer_part postscript_part in
      let len = postscript_length-is content metadata_part footer_part postscript_part in (
        omega (arith, total),
        (
          refl,
          (
            omega (arith, total, len),
            subst (λ (t : List ℕ). (postscript_tests t (postscript_place file)).finds s) (sym (postscript_bytes-are content metadata_part footer_part postscript_part)) h,
          ),
        ),
      )

  pub file_passes : (stats : List Stat × List (List Stat)) → (postscript_tests postscript_part (postscript_place file)).finds s → (footer_tests footer_part).finds (f, schema) → (metadata_tests metadata_part f schema).finds m
      → (limit_tests (3 + length content) f schema m).finds stats → IsTail file (tail_of s f schema stats)
  file_passes stats postscript foot meta limits = (
    s,
    ends_pass postscript,
    (
      (f, schema),
      subst (λ (t : List ℕ). (footer_tests t).finds (f, schema)) (sym (footer_bytes-are content metadata_part footer_part postscript_part s footer_is metadata_is)) foot,
      (
        m,
        subst (λ (t : List ℕ). (metadata_tests t f schema).finds m) (sym (metadata_bytes-are content metadata_part footer_part postscript_part s footer_is metadata_is)) meta,
        (stats, subst (λ (t : ℕ). (limit_tests t f schema m).finds stats) (sym (metadata_place-is content metadata_part footer_part postscript_part s footer_is metadata_is)) limits, refl),
      ),
    ),
  )

pair_is : {A B : Type 0} (a c : A) (b d : B) → a ≡ c → b ≡ d → (let p : A × B = (a, b) in p) ≡ (c, d)
pair_is {A} {B} a c b d p q = ap (λ (t : A). let r : A × B = (t, b) in r) p ∙ ap (λ (t : B). let r : A × B = (c, t) in r) q

module _ (tail : Tail) (lim : IsWithinLimits tail) (bits : HasBits tail) where
  pub footer_bounded : footer_text.bounded (footer_of tail)
  footer_bounded =
      let bytes = lim.bytes in let rows = lim.rows in let stride = bits.stride in (
        omega arith,
        (omega (arith, bytes), (bits.stripes, (bits.types, (bits.user, (omega (arith, rows), (stats_bounded tail.file_stats bits.file_stats, (stride, (bits.writer, tt)))))))),
      )

  pub metadata_bounded : metadata_text.bounded (metadata_of tail)
  metadata_bounded = stripes_bounded tail.stripe_stats bits.stripe_stats

  pub postscript_bounded : length (footer_text.text (footer_of tail)) < 2 ^ 64 → length (metadata_text.text (metadata_of tail)) < 2 ^ 64 → post_script_text.bounded (postscript_of tail)
  postscript_bounded few_footer few_metadata = (few_footer, (omega arith, (bits.version, (few_metadata, (bits.writer_version, tt)))))

-- one byte holds the postscript's length
pub short_is : (tail : Tail) → IsWithinLimits tail → HasBits tail → length (tail_text tail) < 2 ^ 64 → length (post_script_text.text (postscript_of tail)) < 256
short_is tail lim bits few =
    let m = metadata_text.text (metadata_of tail) in
    let f = footer_text.text (footer_of tail) in
    let s = post_script_text.text (postscript_of tail) in
    let whole = length-append m (f ++ (s ++ length s ∷ [])) in
    let behind = length-append f (s ++ length s ∷ []) in
    postscript_short (postscript_of tail) lim.version refl (postscript_bounded tail lim bits (omega (arith, few, whole, behind)) (omega (arith, few, whole)))

-- what is written is accepted
pub image_is : (tail : Tail) (content : List ℕ) → IsWithinLimits tail → IsLaid 3 tail.stripes → HasBits tail → length content ≡ stripes_length tail.stripes → length (image content tail) < 2 ^ 64
    → IsTail (image content tail) tail
image_is tail content lim laid bits len few =
    let metadata_part = metadata_text.text (metadata_of tail) in
    let footer_part = footer_text.text (footer_of tail) in
    let postscript_part = post_script_text.text (postscript_of tail) in
    let s = postscript_of tail in let f = footer_of tail in let m = metadata_of tail in
    let total = length-bytes content metadata_part footer_part postscript_part in
    let place = room content metadata_part footer_part postscript_part s refl refl in
    let few_footer : length footer_part < 2 ^ 64 = omega (arith, total, few) in
    let few_metadata : length metadata_part < 2 ^ 64 = omega (arith, total, few) in
    let postscript_spelled : Spells post_script 0 0 postscript_part s =
    spells_again post_script post_script_text 0 0 s (postscript_bounded tail lim bits few_footer few_metadata) (tt, (tt, (tt, (tt, (some_top tail.writer_version, tt))))) (omega (arith, total, few)) (inl refl) in
    let footer_spelled : Spells footer 0 0 footer_part f =
    spells_again footer footer_text 0 0 f (footer_bounded tail lim bits)
    (footer_whole f lim.schema.kept (stats_whole tail.file_stats bits.file_stats) (kept_down 11 10 tail.other (lit≤ tt) lim.other)) few_footer (inl refl) in
    let metadata_spelled : Spells metadata 0 0 metadata_part m =
    spells_again metadata metadata_text 0 0 m (metadata_bounded tail lim bits) (stripes_whole tail.stripe_stats bits.stripe_stats) few_metadata (inl refl) in
    let stats = lim.file_stats in
    file_passes content metadata_part footer_part postscript_part s f tail.schema m refl refl (tail.file_stats, tail.stripe_stats)
    (s, postscript_spelled, (lim.version, (inr refl, (refl, (place, refl)))))
    (f, footer_spelled, (lim.other, (tail.schema, record { schema = lim.schema; listed = refl }, (omega (arith, stats.few, length-map tail.file_stats message_of), refl))))
    (m, metadata_spelled, (omega (arith, lim.stats_of_stripes, length-map tail.stripe_stats stripe_message), (stripes_few tail.schema tail.stripe_stats lim.stripe_stats, refl))) (
      read_within tail.schema tail.file_stats stats,
      (
        stripes_within tail.schema tail.stripe_stats lim.stripe_stats,
        (
          lim.stripes,
          (
            tt,
            laid_pass 0 3 (3 + length content) tail.stripes laid (omega (arith, len)) lim.stripe_rows,
            (
              lim.rows_are,
              (
                lim.rows,
                (
                  lim.bytes,
                  pair_is tail.file_stats (stats_read tail.schema 0 (map message_of tail.file_stats)) tail.stripe_stats (stripe_stats_read tail.schema (map stripe_message tail.stripe_stats))
                      (sym (stats_back tail.schema 0 tail.file_stats stats.kinds)) (sym (stripes_back tail.schema tail.stripe_stats lim.stripe_stats)),
                ),
              ),
            ),
          ),
        ),
      ),
    )
