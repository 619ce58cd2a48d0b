-- The one refusal that needs no reason.
use Rattle.std.proofs.Common.{◌≡◌, ◌≢◌, refl}
use Rattle.orc_directory.specs.declared.fault.StripeFault.{StripeFault}
use Rattle.orc_directory.specs.declared.fault.StripeFault.TheVariants as fault

pub only_memory : (f : StripeFault) → (f ≢ fault.OutOfMemory → ⊥) → f ≡ fault.OutOfMemory
only_memory fault.BadDirectory h = absurd (h (λ e. cc))
only_memory (fault.BadEncoding c) h = absurd (h (λ e. cc))
only_memory (fault.Run c k r) h = absurd (h (λ e. cc))
only_memory (fault.NotUtf8 c k) h = absurd (h (λ e. cc))
only_memory (fault.BadIndex c) h = absurd (h (λ e. cc))
only_memory (fault.LengthSum c k) h = absurd (h (λ e. cc))
only_memory (fault.NoIndex s) h = absurd (h (λ e. cc))
only_memory (fault.BadPosition s) h = absurd (h (λ e. cc))
only_memory (fault.Wire w) h = absurd (h (λ e. cc))
only_memory (fault.TooMany c) h = absurd (h (λ e. cc))
only_memory fault.OutOfMemory h = refl
only_memory (fault.OutOfRange c) h = absurd (h (λ e. cc))
only_memory fault.Failed h = absurd (h (λ e. cc))
