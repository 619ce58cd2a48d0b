-- Why a column has no index, and how many entries it should have.
use Rattle.std.specs.Prelude.{MatchResult, IfOk, IfErr}
use Rattle.std.proofs.Common.{◌≡◌, ◌≢◌, ℕ, ◌*◌, ◌<◌, Bool, true, Result, Ok, Err, List, length, subst, sym, inl, inr, ◌⊎◌}
use Rattle.std.proofs.lemmas.List.FromFn.{length-map-range_with_len}
use Rattle.orc_wire.specs.Messages.{row_index}
use Rattle.orc_wire.specs.Spells.{Faults}
use Rattle.orc_wire.specs.declared.fault.WireFault.{WireFault}
use Rattle.orc_wire.specs.declared.fault.WireFault.TheVariants as wire
use Rattle.orc_wire.specs.declared.row_index.RowIndexEntry.{RowIndexEntry}
use Rattle.orc_values.specs.Cells.{Cell}
use Rattle.orc_values.specs.Shapes.{Shape}
use Rattle.orc_directory.specs.Directory.{has_stream}
use Rattle.orc_column_reader.specs.Stripe.{Streams}
use Rattle.orc_directory.specs.declared.fault.StripeFault.{StripeFault}
use Rattle.orc_directory.specs.declared.fault.StripeFault.TheVariants as fault
use Rattle.orc_row_index_check.specs.Decided.{AreDecided}
use Rattle.orc_row_groups.specs.Groups.{group_count, starts_of_groups}
use Rattle.orc_stripe_reader.specs.Opened.{Opened}
use Rattle.orc_stripe_reader.specs.RowIndexes.{index_text, IndexFault}

pub index_fault : (view : Opened) (c : ℕ) (cause : WireFault) (f : StripeFault) → 0 < view.stride → has_stream c 6 view.footer.streams ≡ true → (f ≡ fault.OutOfMemory) ⊎ ((f ≡ fault.Wire cause) × (cause ≢ wire.OutOfMemory))
    → (cause ≡ wire.OutOfMemory) ⊎ Faults row_index 0 0 (index_text view.footer view.bytes c) cause → IndexFault view c f
index_fault view c cause f some there (inl e) h = subst (IndexFault view c) (sym e) tt
index_fault view c cause f some there (inr p) (inl m) = absurd (p.1 m)
index_fault view c cause f some there (inr p) (inr h) = subst (IndexFault view c) (sym p.0) (some, there, h)

-- a group begins with each of its starts
pub starts_long : (stride rows : ℕ) → length (starts_of_groups stride rows) ≡ group_count stride rows
starts_long stride rows = length-map-range_with_len (λ n. n * stride) 0 (group_count stride rows)

-- ---- answers

pub result_by : {T E : Type 0} {P Q : T → Type 0} {A B : E → Type 0} (r : Result T E) → ((t : T) → P t → Q t) → ((e : E) → A e → B e) → MatchResult r P A → MatchResult r Q B
result_by (Ok t) f g h = f t h
result_by (Err e) f g h = g e h

-- what is refused, where something would make the refusal another one
pub err_unless : {T E : Type 0} {K : Type 0} (P : T → Type 0) {A B C : E → Type 0} (r : Result T E) → IfErr r A → (K → MatchResult r P B) → ((e : E) → A e → (K → B e) → C e) → IfErr r C
err_unless P (Ok t) a m f = tt
err_unless P (Err e) a m f = f e a m

pub err_by : {T E : Type 0} {A B : E → Type 0} (r : Result T E) → ((e : E) → A e → B e) → IfErr r A → IfErr r B
err_by (Ok t) g h = tt
err_by (Err e) g h = g e h

pub ok_always : {T E : Type 0} {K : Type 0} (r : Result T E) → K → IfOk r (λ _. K)
ok_always (Ok t) k = k
ok_always (Err e) k = tt

pub decided_same : (s t : Shape) (x : Streams) (cs ds : List Cell) (bs fs : List ℕ) (ms ns : List RowIndexEntry) (right : List Bool) → s ≡ t → cs ≡ ds → bs ≡ fs → ms ≡ ns → AreDecided s x cs bs ms right → AreDecided t x ds fs ns right
decided_same s t x cs ds bs fs ms ns right es ec eb em h =
    subst (λ (y : Shape). AreDecided y x ds fs ns right) es
    (subst (λ (y : List Cell). AreDecided s x y fs ns right) ec
    (subst (λ (y : List ℕ). AreDecided s x cs y ns right) eb
    (subst (λ (y : List RowIndexEntry). AreDecided s x cs bs y right) em h)))

-- where only want of memory is refused, no other refusal needs a reason
pub err_memory : {T : Type 0} (P : T → Type 0) (Q : StripeFault → Type 0) (r : Result T StripeFault) → MatchResult r P (λ f. f ≡ fault.OutOfMemory) → IfErr r (λ f. f ≢ fault.OutOfMemory → Q f)
err_memory P Q (Ok t) h = tt
err_memory P Q (Err e) h = λ other. absurd (other h)
