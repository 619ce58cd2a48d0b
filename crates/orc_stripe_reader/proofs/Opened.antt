-- Why a stripe isn't opened.
use Rattle.std.proofs.Common.{Bool, true, false, Option, Some, if◌then◌else◌, nat_le, ◌&&◌, ◌≡◌, ◌≢◌, ◌+◌, ◌-◌, ◌≤◌, ℕ, None, List, [], ◌∷◌, length, refl, inl, inr, ◌⊎◌, sym, ◌∙◌, subst, arith}
use Rattle.std.proofs.lemmas.Bool.{both_ways, and_parts, leb-true, le-leb}
use Rattle.orc_values.specs.Shapes.{width}
use Rattle.orc_wire.specs.Types.{types}
use Rattle.orc_types.proofs.Trees.{length-types}
use Rattle.orc_wire.specs.declared.encoding.Encoding.{Encoding}
use Rattle.orc_wire.specs.declared.stripe_footer.StreamMsg.{StreamMsg}
use Rattle.orc_wire.specs.declared.type_msg.TypeMsg.{TypeMsg}
use Rattle.orc_directory.specs.Directory.{have_room, names_once, have_columns, is_directory, first_wrong, takes_encoding}
use Rattle.orc_values.specs.Shapes.{Shape}
use Rattle.orc_wire.specs.declared.stripe_info.StripeInfo.{StripeInfo}
use Rattle.orc_wire.specs.declared.fault.WireFault.{WireFault}
use Rattle.orc_wire.specs.declared.fault.WireFault.TheVariants as wire
use Rattle.orc_wire.specs.Messages.{stripe_footer}
use Rattle.orc_wire.specs.Spells.{Faults}
use Rattle.orc_wire.specs.declared.stripe_footer.StripeFooter.{StripeFooter}
use Rattle.orc_stripe_reader.specs.Opening.{StripeOpenFault, stripe_footer_bytes}
use Rattle.orc_column_reader.specs.Stripe.{HasFooter}
use Rattle.orc_directory.specs.declared.fault.StripeFault.{StripeFault}
use Rattle.orc_directory.specs.declared.fault.StripeFault.TheVariants as fault

pub fault_of : (s : Shape) (info : StripeInfo) (bytes : List ℕ) (cause : WireFault) (f : StripeFault) → (f ≡ fault.OutOfMemory) ⊎ ((f ≡ fault.Wire cause) × (cause ≢ wire.OutOfMemory))
    → (cause ≡ wire.OutOfMemory) ⊎ Faults stripe_footer 0 0 (stripe_footer_bytes info bytes) cause → StripeOpenFault s info bytes f
fault_of s info bytes cause f (inl e) h = subst (StripeOpenFault s info bytes) (sym e) tt
fault_of s info bytes cause f (inr p) (inl m) = absurd (p.1 m)
fault_of s info bytes cause f (inr p) (inr h) = subst (StripeOpenFault s info bytes) (sym p.0) h

pub refused_for_memory : (f : StripeFault) (accepted : Bool) → (f ≡ fault.OutOfMemory) ⊎ ((f ≡ fault.BadDirectory) × (accepted ≡ false)) → accepted ≡ true → f ≡ fault.OutOfMemory
refused_for_memory f accepted (inl m) a = m
refused_for_memory f accepted (inr b) a = absurd (both_ways accepted b.1 a)

-- ---- what is known of a stripe that is opened

pub room_more : (m n : ℕ) (ss : List StreamMsg) → m ≤ n → have_room m ss ≡ true → have_room n ss ≡ true
room_more m n [] h r = refl
room_more m n (s ∷ ss) h r =
    let p = and_parts (nat_le s.length m) (have_room (m - s.length) ss) r in
    let fits = leb-true s.length m p.0 in
    rw (le-leb s.length n (omega (arith, fits, h))) (room_more (m - s.length) (n - s.length) ss (omega (arith, h)) p.1)

pub directory_room : (w room : ℕ) (ss : List StreamMsg) → is_directory w room ss ≡ true → have_room room ss ≡ true
directory_room w room ss h = (and_parts (have_room room ss) _ h).0

none_wrong : (b : Bool) (n : ℕ) (r : Option ℕ) → (if b then r else Some n) ≡ None → r ≡ None
none_wrong true n r h = h
none_wrong false n r h = cc

as_many : (n : ℕ) (ts : List TypeMsg) (es : List Encoding) → first_wrong n ts es ≡ None → length ts ≡ length es
as_many n [] [] h = refl
as_many n [] (e ∷ es) h = cc
as_many n (t ∷ ts) [] h = cc
as_many n (t ∷ ts) (e ∷ es) h = let k = as_many (n + 1) ts es (none_wrong (takes_encoding t.kind e.kind) n (first_wrong (n + 1) ts es) h) in omega (arith, k)

pub encodings_there : (s : Shape) (es : List Encoding) → first_wrong 0 (types s 0) es ≡ None → width s ≡ length es
encodings_there s es h = sym (length-types s 0) ∙ as_many 0 (types s 0) es h

pub footer_room : (s : Shape) (info : StripeInfo) (bytes : List ℕ) (footer : StripeFooter) → HasFooter s info bytes footer → have_room (length bytes) footer.streams ≡ true
footer_room s info bytes footer h =
    room_more (info.index_length + info.data_length) (length bytes) footer.streams (omega (arith, h.whole)) (directory_room (width s) (info.index_length + info.data_length) footer.streams h.directory)

pub footer_once : (s : Shape) (info : StripeInfo) (bytes : List ℕ) (footer : StripeFooter) → HasFooter s info bytes footer → names_once footer.streams ≡ true
footer_once s info bytes footer h =
    let room = info.index_length + info.data_length in
    (and_parts (names_once footer.streams) (have_columns (width s) footer.streams)
    (and_parts (have_room room footer.streams) (names_once footer.streams && have_columns (width s) footer.streams) h.directory).1).0

pub footer_columns : (s : Shape) (info : StripeInfo) (bytes : List ℕ) (footer : StripeFooter) → HasFooter s info bytes footer → width s ≡ length footer.columns
footer_columns s info bytes footer h = encodings_there s footer.columns h.encodings
