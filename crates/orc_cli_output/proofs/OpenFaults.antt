-- A file that isn't opened is refused for its bytes or its source, never for an output.
use Rattle.std.proofs.Common.{◌≡◌, ℕ, ◌+◌, List, [], ◌∷◌, ◌⊎◌, inl, inr}
use Rattle.orc_wire.specs.declared.footer.Footer.{Footer}
use Rattle.orc_wire.specs.declared.column_stats.Metadata.{Metadata}
use Rattle.orc_wire.specs.declared.stripe_info.StripeInfo.{StripeInfo}
use Rattle.orc_values.specs.Shapes.{Shape}
use Rattle.orc_tail.specs.Layout.{postscript_bytes, postscript_place, footer_bytes, metadata_bytes, metadata_place}
use Rattle.orc_tail.specs.Stripes.{stripe_tests, stripe_end}
use Rattle.orc_tail.specs.Tails.{postscript_tests, end_tests, footer_tests, metadata_tests, limit_tests, TailOpenFault}
use Rattle.orc_tail.specs.Tests.{Test}
use Rattle.orc_tail.specs.declared.fault.FileFault.{FileFault}
use Rattle.orc_tail.specs.declared.fault.FileFault.TheVariants.{NotOrc, BadPostscript, Compressed, Encrypted, BadLengths, BadFooter, BadMetadata, BadStripe, RowCount, Limit, WriteFailed}

abbrev Never : {A : Type 0} → Test A → Type 0
Never test = test.fails WriteFailed → ⊥

-- a test of one fact, and one that finds what the rest needs
past : {P Q : Type 0} (fault : FileFault) → ((P → ⊥) × (WriteFailed ≡ fault)) ⊎ (P × Q) → (WriteFailed ≡ fault → ⊥) → (Q → ⊥) → ⊥
past fault (inl h) other later = other h.1
past fault (inr h) other later = later h.1

behind : {X A : Type 0} {F G : A → Type 0} → X ⊎ ((a : A) × F a × G a) → (X → ⊥) → ((a : A) → G a → ⊥) → ⊥
behind (inl h) here later = here h
behind (inr h) here later = later h.0 h.2

at_postscript : (text : List ℕ) (place : ℕ) → Never (postscript_tests text place)
at_postscript text place h =
    behind h (λ h. let e = h.1 in cc) (λ postscript h.
    past BadPostscript h (λ e. cc) (λ h. past NotOrc h (λ e. cc) (λ h. past (Compressed postscript.compression) h (λ e. cc) (λ h. past BadLengths h (λ e. cc) (λ h. h)))))

at_ends : (bytes : List ℕ) → Never (end_tests bytes)
at_ends bytes h = past NotOrc h (λ e. cc) (λ h. past NotOrc h (λ e. cc) (λ h. past BadLengths h (λ e. cc) (at_postscript (postscript_bytes bytes) (postscript_place bytes))))

at_footer : (text : List ℕ) → Never (footer_tests text)
at_footer text h =
    behind h (λ h. let e = h.1 in cc) (λ f h.
    past Encrypted h (λ e. cc) (λ h. behind h (λ h. let e = h.3 in cc) (λ s h. past BadFooter h (λ e. cc) (λ h. h))))

at_metadata : (text : List ℕ) (f : Footer) (s : Shape) → Never (metadata_tests text f s)
at_metadata text f s h = behind h (λ h. let e = h.1 in cc) (λ m h. past BadMetadata h (λ e. cc) (λ h. past BadMetadata h (λ e. cc) (λ h. h)))

at_stripes : (n from before : ℕ) (stripes : List StripeInfo) → Never (stripe_tests n from before stripes)
at_stripes n from before [] h = h
at_stripes n from before (s ∷ ss) h = past (BadStripe n) h (λ e. cc) (λ h. past Limit h (λ e. cc) (at_stripes (n + 1) (stripe_end s) before ss))

at_limits : (before : ℕ) (f : Footer) (s : Shape) (m : Metadata) → Never (limit_tests before f s m)
at_limits before f s m h =
    past Limit h (λ e. cc) (λ h. past Limit h (λ e. cc) (λ h. past Limit h (λ e. cc) (λ h.
    behind h (at_stripes 0 3 before f.stripes) (λ done h. past RowCount h (λ e. cc) (λ h. past Limit h (λ e. cc) (λ h. past Limit h (λ e. cc) (λ h. h)))))))

pub never_output : (bytes : List ℕ) → TailOpenFault bytes WriteFailed → ⊥
never_output bytes h =
    behind h (at_ends bytes) (λ postscript h.
    behind h (at_footer (footer_bytes bytes postscript)) (λ f h.
    behind h (at_metadata (metadata_bytes bytes postscript) f.0 f.1) (λ m h.
    behind h (at_limits (metadata_place bytes postscript) f.0 f.1 m) (λ stats h. h))))
