-- A record of a statistic stands where a part is known, and then its text isn't empty.
use Rattle.std.proofs.Common.{◌≡◌, ℤ, [], Option, Some, None, refl, inl, inr, ℕ, List}
use Rattle.std.specs.Option.{IfSome}
use Rattle.orc_wire.specs.CanonicalMessages.{integer_stats_text, string_stats_text, date_stats_text, binary_stats_text, collection_stats_text}
use Rattle.orc_wire.proofs.WholeLaws.{integer_shown, string_shown, date_shown, binary_shown, collection_shown}
use Rattle.orc_stats.specs.declared.stat.Body.{Body}
use Rattle.orc_stats.specs.declared.stat.Body.TheVariants as body
use Rattle.orc_stats.specs.Messages.{ints_record, int_record, texts_record, text_record, dates_record, date_record, bins_record, bin_record, children_record, collection_record}

ints_shown : (l g s : Option ℤ) → IfSome (ints_record l g s) (λ r. integer_stats_text.text r ≡ [] → ⊥)
ints_shown (Some l) g s = integer_shown (record { minimum = Some l; maximum = g; sum = s }) (inl refl)
ints_shown None (Some g) s = integer_shown (record { minimum = None; maximum = Some g; sum = s }) (inr (inl refl))
ints_shown None None (Some s) = integer_shown (record { minimum = None; maximum = None; sum = Some s }) (inr (inr refl))
ints_shown None None None = tt

pub int_part : (b : Body) → IfSome (int_record b) (λ r. integer_stats_text.text r ≡ [] → ⊥)
int_part (body.Ints l g s) = ints_shown l g s
int_part _ = tt

texts_shown : (l g : Option (List ℕ)) (s : Option ℤ) → IfSome (texts_record l g s) (λ r. string_stats_text.text r ≡ [] → ⊥)
texts_shown (Some l) g s = string_shown (record { minimum = Some l; maximum = g; sum = s }) (inl refl)
texts_shown None (Some g) s = string_shown (record { minimum = None; maximum = Some g; sum = s }) (inr (inl refl))
texts_shown None None (Some s) = string_shown (record { minimum = None; maximum = None; sum = Some s }) (inr (inr refl))
texts_shown None None None = tt

pub text_part : (b : Body) → IfSome (text_record b) (λ r. string_stats_text.text r ≡ [] → ⊥)
text_part (body.Texts l g s) = texts_shown l g s
text_part _ = tt

dates_shown : (l g : Option ℤ) → IfSome (dates_record l g) (λ r. date_stats_text.text r ≡ [] → ⊥)
dates_shown (Some l) g = date_shown (record { minimum = Some l; maximum = g }) (inl refl)
dates_shown None (Some g) = date_shown (record { minimum = None; maximum = Some g }) (inr refl)
dates_shown None None = tt

pub date_part : (b : Body) → IfSome (date_record b) (λ r. date_stats_text.text r ≡ [] → ⊥)
date_part (body.Dates l g) = dates_shown l g
date_part _ = tt

bins_shown : (s : Option ℤ) → IfSome (bins_record s) (λ r. binary_stats_text.text r ≡ [] → ⊥)
bins_shown (Some s) = binary_shown (record { sum = Some s }) refl
bins_shown None = tt

pub bin_part : (b : Body) → IfSome (bin_record b) (λ r. binary_stats_text.text r ≡ [] → ⊥)
bin_part (body.Bins s) = bins_shown s
bin_part _ = tt

children_shown : (l g t : Option ℕ) → IfSome (children_record l g t) (λ r. collection_stats_text.text r ≡ [] → ⊥)
children_shown (Some l) g t = collection_shown (record { min_children = Some l; max_children = g; total_children = t }) (inl refl)
children_shown None (Some g) t = collection_shown (record { min_children = None; max_children = Some g; total_children = t }) (inr (inl refl))
children_shown None None (Some t) = collection_shown (record { min_children = None; max_children = None; total_children = Some t }) (inr (inr refl))
children_shown None None None = tt

pub collection_part : (b : Body) → IfSome (collection_record b) (λ r. collection_stats_text.text r ≡ [] → ⊥)
collection_part (body.Children l g t) = children_shown l g t
collection_part _ = tt
