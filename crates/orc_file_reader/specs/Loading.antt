-- What loading a stripe promises, and the view of its bytes, with a file or with a tail that was kept (this project's).
use Rattle.std.specs.Prelude.{◌≡◌, ◌≢◌, ◌<◌, ◌+◌, ◌⊎◌, ℕ, List, Option, length, Result, IfOk, IfErr, IfSome, OnOk, IsErrOf, MatchResult}
use Rattle.orc_wire.specs.declared.stripe_info.StripeInfo.{StripeInfo}
use Rattle.orc_wire.specs.declared.stripe_footer.StripeFooter.{StripeFooter}
use Rattle.orc_column_reader.specs.Stripe.{HasFooter}
use Rattle.orc_directory.specs.declared.fault.StripeFault.{StripeFault}
use Rattle.orc_directory.specs.declared.fault.StripeFault.TheVariants as stripe
use Rattle.orc_stripe_reader.specs.Opened.{Opened}
use Rattle.orc_stripe_reader.specs.Opening.{StripeOpenFault}
use Rattle.orc_tail.specs.Stripes.{stripe_length, stripe_at, stripe_bytes}
use Rattle.orc_tail.specs.declared.tail.Tail.{Tail}
use Rattle.orc_tail.specs.declared.fault.FileFault.{FileFault}
use Rattle.orc_tail.specs.declared.fault.FileFault.TheVariants.{Stripe, SourceFailed, OutOfMemory}

-- A call that loads the stripe `info`; `old` and `new` are the source before and after it. `tells`, `size_of` and
-- `failures_of` give a source's known bytes, its length and its count of failures. The vector had this capacity before
-- the call and has the bytes `filled` after it.
pub record LoadsStripe {S : Type 0} {T : Type 0} (tells : S → Option (List ℕ)) (size_of failures_of : S → ℕ)
    (old new : S) (info : StripeInfo) (capacity : ℕ) (filled : List ℕ) (result : Result T FileFault) : Type 0 where
  -- If the source's bytes are known and the call succeeds, then the vector has the bytes of the stripe.
  pub bytes : OnOk result (IfSome (tells old) (λ bytes. filled ≡ stripe_bytes info bytes))
  -- If the call succeeds, then the vector has as many bytes as the stripe, even if the source's bytes are unknown.
  pub as_many : OnOk result (length filled ≡ stripe_length info)
  -- The call changes neither what is known of the source's bytes nor its length.
  pub told : tells new ≡ tells old
  pub size : size_of new ≡ size_of old
  -- The source's count of failures rises by one with SourceFailed, and is unchanged after a success and after any other
  -- error.
  pub kept : OnOk result (failures_of new ≡ failures_of old)
  pub failed : IsErrOf result SourceFailed → failures_of new ≡ failures_of old + 1
  pub others : IfErr result (λ fault. (fault ≡ SourceFailed) ⊎ (failures_of new ≡ failures_of old))
  -- OutOfMemory comes only if the vector's capacity was less than the stripe's length.
  pub room : IsErrOf result OutOfMemory → capacity < stripe_length info

-- A call that makes the view of stripe `number` over these bytes.
pub record ViewsStripe (tail : Tail) (number : ℕ) (bytes : List ℕ) (result : Result Opened FileFault) : Type 0 where
  -- The view's footer is a footer of the stripe in these bytes, for the tail's schema.
  pub found : IfOk result (λ view. HasFooter tail.schema (stripe_at tail.stripes number) bytes view.footer)
  -- The view is the view of this stripe over these bytes, with the tail's schema and stride.
  pub same : IfOk result (λ view. (view.schema ≡ tail.schema) × (view.info ≡ stripe_at tail.stripes number)
      × (view.stride ≡ tail.stride) × (view.bytes ≡ bytes))
  -- If the bytes have a footer of this stripe, then the view is returned with this footer, or there is no memory.
  pub only : (footer : StripeFooter) → HasFooter tail.schema (stripe_at tail.stripes number) bytes footer
      → MatchResult result (λ view. view.footer ≡ footer) (λ fault. fault ≡ OutOfMemory)
  -- An error is OutOfMemory, or it has the number of the stripe and the reason why the bytes aren't opened as this
  -- stripe.
  pub fault : IfErr result (λ fault. (fault ≡ OutOfMemory)
      ⊎ ((why : StripeFault) × (fault ≡ Stripe number why) × (why ≢ stripe.OutOfMemory)
      × StripeOpenFault tail.schema (stripe_at tail.stripes number) bytes why))
