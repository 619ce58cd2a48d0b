-- What a row more leaves, where it fills a stripe.
use Rattle.std.proofs.Common.{◌≡◌, ℕ, ◌+◌, ◌<◌, Bool, true, false, List, [], ◌∷◌, ◌++◌, length, Option, Result, Ok, Err, sym, ap, subst, arith, length-append}
use Rattle.std.specs.Result.{OnOk, OnErr}
use Rattle.orc_row_batch.specs.declared.options.Options.{Options}
use Rattle.orc_wire.specs.declared.stripe_info.StripeInfo.{StripeInfo}
use Rattle.orc_values.specs.Shapes.{Shape}
use Rattle.orc_values.specs.Cells.{Cell}
use Rattle.orc_stats.specs.declared.stat.Stat.{Stat}
use Rattle.orc_file_writer.proofs.Spread.{HasKept, HasPushed}

-- what stands after a refusal stands where a writer has failed in a call
pub failed_only : {T E P : Type 0} (r : Result T E) (failed : Bool) → OnErr r P → OnOk r (failed ≡ false) → failed ≡ true → P
failed_only (Ok x) failed p q f = cc
failed_only (Err x) failed p q f = p

pub one_more : (before after : List Cell) (row : Cell) → after ≡ before ++ row ∷ [] → length after ≡ length before + 1
one_more before after row e = omega (arith, ap length e, length-append before (row ∷ []))

-- once the stripe is written, no row is kept
pub pushed_full : {T E : Type 0} (r : Result T E) (options : Options) (s : Shape) (first told : Option (List ℕ)) (written : ℕ) (infos : List StripeInfo) (stats : List (List Stat)) (kept rows : List Cell)
    → 0 < options.stripe_rows → OnOk r (kept ≡ []) → OnOk r (HasKept options s first told written infos stats [] rows) → OnOk r (HasPushed options s first told written infos stats kept rows)
pushed_full (Ok x) options s first told written infos stats kept rows l e h =
    subst (λ k. HasPushed options s first told written infos stats k rows) (sym e) (h, l)
pushed_full (Err x) options s first told written infos stats kept rows l e h = tt
