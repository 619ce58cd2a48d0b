-- The parts of a tail, each read at its place.
use Rattle.std.specs.Prelude.{◌≡◌, ℕ, ◌-◌, ◌≤◌, List, length, true, Option, Some, None, refl}
use Rattle.std.proofs.Common.{sym, ◌∙◌, ap, subst, inl, inr}
use Rattle.std.specs.Option.{IfSome}
use Rattle.orc_wire.specs.declared.post_script.PostScript.{PostScript}
use Rattle.orc_wire.specs.declared.footer.Footer.{Footer}
use Rattle.orc_wire.specs.declared.column_stats.Metadata.{Metadata}
use Rattle.orc_values.specs.Shapes.{Shape, width}
use Rattle.orc_stats.specs.declared.stat.Stat.{Stat}
use Rattle.orc_io.specs.Devices.{bytes_at}
use Rattle.orc_tail.specs.Layout.{postscript_place, footer_bytes, metadata_bytes}
use Rattle.orc_tail.specs.Tails.{end_tests, footer_tests, metadata_tests, limit_tests, tail_of, IsTail, TailOpenFault}
use Rattle.orc_tail.specs.Statistics.{have_few}
use Rattle.orc_tail.specs.declared.fault.FileFault.{FileFault}

-- what passes has no more statistics than columns
pub footer_few : (text : List ℕ) (f : Footer) (s : Shape) → (footer_tests text).finds (f, s) → length f.statistics ≤ width s
footer_few text f s h = subst (λ (p : Footer × Shape). length p.0.statistics ≤ width p.1) (sym h.2.1.2.1) h.2.1.2.0

pub metadata_few : (text : List ℕ) (f : Footer) (s : Shape) (m : Metadata) → (metadata_tests text f s).finds m → have_few (width s) m.stripe_stats ≡ true
metadata_few text f s m h = subst (λ (n : Metadata). have_few (width s) n.stripe_stats ≡ true) (sym h.2.1.1) h.2.1.0

module _ (postscript : PostScript) (place : ℕ) (footer_text metadata_text : List ℕ) where
  abbrev pub Ends : List ℕ → Type 0
  Ends bytes = (end_tests bytes).finds postscript × (place ≡ postscript_place bytes)

  abbrev pub FooterAt : List ℕ → Type 0
  FooterAt bytes = footer_text ≡ bytes_at (place - postscript.footer_length) postscript.footer_length bytes

  abbrev pub MetadataAt : List ℕ → Type 0
  MetadataAt bytes = metadata_text ≡ bytes_at (place - postscript.footer_length - postscript.metadata_length) postscript.metadata_length bytes

  footer_are : (bytes : List ℕ) → Ends bytes → FooterAt bytes → footer_text ≡ footer_bytes bytes postscript
  footer_are bytes e p = p ∙ ap (λ (t : ℕ). bytes_at (t - postscript.footer_length) postscript.footer_length bytes) e.1

  metadata_are : (bytes : List ℕ) → Ends bytes → MetadataAt bytes → metadata_text ≡ metadata_bytes bytes postscript
  metadata_are bytes e p = p ∙ ap (λ (t : ℕ). bytes_at (t - postscript.footer_length - postscript.metadata_length) postscript.metadata_length bytes) e.1

  pub footer_fails : (told : Option (List ℕ)) (fault : FileFault) → IfSome told Ends → IfSome told FooterAt → (footer_tests footer_text).fails fault → IfSome told (λ bytes. TailOpenFault bytes fault)
  footer_fails None fault e p h = tt
  footer_fails (Some bytes) fault e p h = inr (postscript, e.0, inl (subst (λ (t : List ℕ). (footer_tests t).fails fault) (footer_are bytes e p) h))

  module _ (f : Footer) (s : Shape) (foot : (footer_tests footer_text).finds (f, s)) where
    pub metadata_fails : (told : Option (List ℕ)) (fault : FileFault) → IfSome told Ends → IfSome told FooterAt → IfSome told MetadataAt → (metadata_tests metadata_text f s).fails fault
        → IfSome told (λ bytes. TailOpenFault bytes fault)
    metadata_fails None fault e p q h = tt
    metadata_fails (Some bytes) fault e p q h =
        inr (
          postscript,
          e.0,
          inr (
            (f, s),
            subst (λ (t : List ℕ). (footer_tests t).finds (f, s)) (footer_are bytes e p) foot,
            inl (subst (λ (t : List ℕ). (metadata_tests t f s).fails fault) (metadata_are bytes e q) h),
          ),
        )

    module _ (m : Metadata) (meta : (metadata_tests metadata_text f s).finds m) where
      pub limits_fail : (told : Option (List ℕ)) (fault : FileFault) → IfSome told Ends → IfSome told FooterAt → IfSome told MetadataAt
          → (limit_tests (place - postscript.footer_length - postscript.metadata_length) f s m).fails fault → IfSome told (λ bytes. TailOpenFault bytes fault)
      limits_fail None fault e p q h = tt
      limits_fail (Some bytes) fault e p q h =
          inr (
            postscript,
            e.0,
            inr (
              (f, s),
              subst (λ (t : List ℕ). (footer_tests t).finds (f, s)) (footer_are bytes e p) foot,
              inr (
                m,
                subst (λ (t : List ℕ). (metadata_tests t f s).finds m) (metadata_are bytes e q) meta,
                inl (subst (λ (t : ℕ). (limit_tests (t - postscript.footer_length - postscript.metadata_length) f s m).fails fault) e.1 h),
              ),
            ),
          )

      pub tail_found : (stats : List Stat × List (List Stat)) (told : Option (List ℕ)) → IfSome told Ends → IfSome told FooterAt → IfSome told MetadataAt
          → (limit_tests (place - postscript.footer_length - postscript.metadata_length) f s m).finds stats → IfSome told (λ bytes. IsTail bytes (tail_of postscript f s stats))
      tail_found stats None e p q h = tt
      tail_found stats (Some bytes) e p q h = (
        postscript,
        e.0,
        (
          (f, s),
          subst (λ (t : List ℕ). (footer_tests t).finds (f, s)) (footer_are bytes e p) foot,
          (
            m,
            subst (λ (t : List ℕ). (metadata_tests t f s).finds m) (metadata_are bytes e q) meta,
            (stats, subst (λ (t : ℕ). (limit_tests (t - postscript.footer_length - postscript.metadata_length) f s m).finds stats) e.1 h, refl),
          ),
        ),
      )
