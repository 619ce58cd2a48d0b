-- Bytes have a tail or a fault.
use Rattle.std.specs.Prelude.{◌≡◌, ℕ, ◌+◌, Bool, true, false, List, [], ◌∷◌, length, take, drop, ◌⊎◌, zero, suc, refl}
use Rattle.std.proofs.Common.{inl, inr}
use Rattle.std.specs.List.{list_all}
use Rattle.orc_bits.specs.Varint.{AllBytes}
use Rattle.orc_wire.specs.declared.fault.WireFault.{WireFault}
use Rattle.orc_wire.specs.declared.footer.Footer.{Footer}
use Rattle.orc_wire.specs.declared.column_stats.Metadata.{Metadata}
use Rattle.orc_wire.specs.declared.stripe_info.StripeInfo.{StripeInfo}
use Rattle.orc_wire.specs.declared.type_msg.TypeMsg.{TypeMsg}
use Rattle.orc_wire.specs.Members.{Member}
use Rattle.orc_wire.specs.Messages.{post_script, footer, metadata}
use Rattle.orc_wire.specs.Spells.{Spells, Faults}
use Rattle.orc_wire.specs.laws.SpellsCover.{some_spelled}
use Rattle.orc_wire.proofs.KeptLaws.{kept_or_not}
use Rattle.orc_wire.proofs.WholeLaws.{footer_kept}
use Rattle.orc_values.specs.Shapes.{Shape, width}
use Rattle.orc_types.specs.Schemas.{HasTypes}
use Rattle.orc_types.proofs.Decisions.{Decided, both, same_number, at_most, same_numbers}
use Rattle.orc_types.proofs.Cover.{SchemaCovered, schema_cover}
use Rattle.orc_stats.specs.Messages.{in_limits}
use Rattle.orc_io.specs.Devices.{bytes_at}
use Rattle.orc_tail.specs.Layout.{magic, postscript_length, postscript_place, postscript_bytes, footer_bytes, metadata_bytes, metadata_place}
use Rattle.orc_tail.specs.Tests.{schema_of}
use Rattle.orc_tail.specs.Stripes.{stripe_tests, stripe_end, stripes_rows, stripes_length, most_stripes, most_stripe_rows, most_rows, most_bytes}
use Rattle.orc_tail.specs.Statistics.{have_few, stats_read, stripe_stats_read}
use Rattle.orc_tail.specs.Tails.{most_versions, postscript_tests, end_tests, footer_tests, metadata_tests, limit_tests}
use Rattle.orc_tail.specs.Tails.{tail_of, IsTail, TailOpenFault}
use Rattle.orc_tail.specs.declared.tail.Tail.{Tail}
use Rattle.orc_tail.specs.declared.fault.FileFault.{FileFault}
use Rattle.orc_tail.specs.declared.fault.FileFault.TheVariants as fault

-- ---- decisions

either : {P Q : Type 0} → Decided P → Decided Q → Decided (P ⊎ Q)
either (inl p) q = inl (inl p)
either (inr p) (inl q) = inl (inr q)
either (inr p) (inr q) = inr (λ h. elim h [ inl x ↦ p x | inr y ↦ q y ])

is_true : (b : Bool) → Decided (b ≡ true)
is_true true = inl refl
is_true false = inr (λ e. cc)

-- ---- tests

-- something is found, or a fault
abbrev Covers : {A : Type 0} → (A → Type 0) → (FileFault → Type 0) → Type 0
Covers {A} Finds Fails = ((a : A) × Finds a) ⊎ ((f : FileFault) × Fails f)

-- a condition that is decided, then the rest
checked : {A P : Type 0} {fault : FileFault} {Finds : A → Type 0} {Fails : FileFault → Type 0} → Decided P → (P → Covers Finds Fails)
    → Covers (λ a. P × Finds a) (λ f. ((P → ⊥) × (f ≡ fault)) ⊎ (P × Fails f))
checked {A} {P} {fault} {Finds} {Fails} (inr wrong) rest = inr (fault, inl (wrong, refl))
checked {A} {P} {fault} {Finds} {Fails} (inl p) rest = by (rest p) where
  by : Covers Finds Fails → Covers (λ a. P × Finds a) (λ f. ((P → ⊥) × (f ≡ fault)) ⊎ (P × Fails f))
  by (inl found) = inl (found.0, (p, found.1))
  by (inr bad) = inr (bad.0, inr (p, bad.1))

-- what is found, then the rest
chained : {A B : Type 0} {Finds : A → Type 0} {Fails : FileFault → Type 0} {Next : A → B → Type 0} {NextFails : A → FileFault → Type 0} → Covers Finds Fails
    → ((a : A) → Finds a → Covers (Next a) (NextFails a)) → Covers (λ b. (a : A) × Finds a × Next a b) (λ f. Fails f ⊎ ((a : A) × Finds a × NextFails a f))
chained (inr bad) rest = inr (bad.0, inl bad.1)
chained {A} {B} {Finds} {Fails} {Next} {NextFails} (inl found) rest = by (rest found.0 found.1) where
  by : Covers (Next found.0) (NextFails found.0) → Covers (λ b. (a : A) × Finds a × Next a b) (λ f. Fails f ⊎ ((a : A) × Finds a × NextFails a f))
  by (inl more) = inl (more.0, (found.0, found.1, more.1))
  by (inr bad) = inr (bad.0, inr (found.0, found.1, bad.1))

-- a message
read : {C : Type 0} (members : Member C) (bytes : List ℕ) (fault : FileFault) → AllBytes bytes
    → Covers (Spells members 0 0 bytes) (λ f. ((why : WireFault) × Faults members 0 0 bytes why) × (f ≡ fault))
read {C} members bytes fault are = by (some_spelled members 0 0 bytes are) where
  by : ((c : C) × Spells members 0 0 bytes c) ⊎ ((why : WireFault) × Faults members 0 0 bytes why)
      → Covers (Spells members 0 0 bytes) (λ f. ((why : WireFault) × Faults members 0 0 bytes why) × (f ≡ fault))
  by (inl found) = inl found
  by (inr bad) = inr (fault, (bad, refl))

-- a schema
typed : (types : List TypeMsg) → SchemaCovered types → Covers (λ s. HasTypes s types) (schema_of types).fails
typed types (inl found) = inl found
typed types (inr bad) = inr (_, (bad.0, bad.2, bad.1, refl))

stripes : (n from before : ℕ) (ss : List StripeInfo) → Covers (stripe_tests n from before ss).finds (stripe_tests n from before ss).fails
stripes n from before [] = inl (tt, refl)
stripes n from before (s ∷ ss) =
    checked (both (at_most from s.offset) (at_most (stripe_end s) before)) (λ a.
    checked (at_most s.number_of_rows most_stripe_rows) (λ b. stripes (n + 1) (stripe_end s) before ss))

limits : (before : ℕ) (f : Footer) (s : Shape) (m : Metadata) → Covers (limit_tests before f s m).finds (limit_tests before f s m).fails
limits before f s m =
    checked (is_true (list_all in_limits (stats_read s 0 f.statistics))) (λ a.
    checked (is_true (list_all (list_all in_limits) (stripe_stats_read s m.stripe_stats))) (λ b.
    checked (at_most (length f.stripes) most_stripes) (λ c.
    chained (stripes 0 3 before f.stripes) (λ done d.
    checked (same_number (stripes_rows f.stripes) f.number_of_rows) (λ e.
    checked (at_most f.number_of_rows most_rows) (λ g.
    checked (at_most (stripes_length f.stripes) most_bytes) (λ h. inl (_, refl))))))))

-- ---- bytes

taken : (n : ℕ) (bytes : List ℕ) → AllBytes bytes → AllBytes (take n bytes)
taken zero bytes are = tt
taken (suc n) [] are = tt
taken (suc n) (b ∷ bytes) are = (are.0, taken n bytes are.1)

dropped : (n : ℕ) (bytes : List ℕ) → AllBytes bytes → AllBytes (drop n bytes)
dropped zero bytes are = are
dropped (suc n) [] are = tt
dropped (suc n) (b ∷ bytes) are = dropped n bytes are.1

-- a part of bytes is bytes
part : (at n : ℕ) (bytes : List ℕ) → AllBytes bytes → AllBytes (bytes_at at n bytes)
part at n bytes are = taken n (drop at bytes) (dropped at bytes are)

-- ---- a tail's tests

postscript_cover : (text : List ℕ) (place : ℕ) → AllBytes text → Covers (postscript_tests text place).finds (postscript_tests text place).fails
postscript_cover text place are =
    chained (read post_script text fault.BadPostscript are) (λ m is.
    checked (at_most (length m.version) most_versions) (λ a.
    checked (either (same_numbers m.magic []) (same_numbers m.magic magic)) (λ b.
    checked (same_number m.compression 0) (λ c.
    checked (at_most (3 + m.metadata_length + m.footer_length) place) (λ d. inl (m, refl))))))

end_cover : (bytes : List ℕ) → AllBytes bytes → Covers (end_tests bytes).finds (end_tests bytes).fails
end_cover bytes are =
    checked (at_most 4 (length bytes)) (λ a.
    checked (same_numbers (bytes_at 0 3 bytes) magic) (λ b.
    checked (at_most (postscript_length bytes + 4) (length bytes)) (λ c.
    postscript_cover (postscript_bytes bytes) (postscript_place bytes) (part _ _ bytes are))))

footer_cover : (text : List ℕ) → AllBytes text → Covers (footer_tests text).finds (footer_tests text).fails
footer_cover text are =
    chained (read footer text fault.BadFooter are) (λ f is.
    let kept = footer_kept 0 text f is in
    checked (kept_or_not 10 11 f.kept kept.0) (λ a.
    chained (typed f.types (schema_cover f.types kept.1)) (λ s has.
    checked (at_most (length f.statistics) (width s)) (λ b. inl ((f, s), refl)))))

metadata_cover : (text : List ℕ) (f : Footer) (s : Shape) → AllBytes text → Covers (metadata_tests text f s).finds (metadata_tests text f s).fails
metadata_cover text f s are =
    chained (read metadata text fault.BadMetadata are) (λ m is.
    checked (at_most (length m.stripe_stats) (length f.stripes)) (λ a.
    checked (is_true (have_few (width s) m.stripe_stats)) (λ b. inl (m, refl))))

-- bytes pass all tests of a tail, or one fails
pub tail_cover : (bytes : List ℕ) → AllBytes bytes → ((tail : Tail) × IsTail bytes tail) ⊎ ((fault : FileFault) × TailOpenFault bytes fault)
tail_cover bytes are =
    chained (end_cover bytes are) (λ m a.
    chained (footer_cover (footer_bytes bytes m) (part _ _ bytes are)) (λ f b.
    chained (metadata_cover (metadata_bytes bytes m) f.0 f.1 (part _ _ bytes are)) (λ x c.
    chained (limits (metadata_place bytes m) f.0 f.1 x) (λ stats d. inl (tail_of m f.0 f.1 stats, refl)))))
