-- What a writer has done so far, field by field.
use Rattle.std.proofs.Common.{ℕ, List, Option}
use Rattle.orc_wire.specs.declared.stripe_info.StripeInfo.{StripeInfo}
use Rattle.orc_row_batch.specs.declared.options.Options.{Options}
use Rattle.orc_values.specs.Cells.{Cell}
use Rattle.orc_values.specs.Shapes.{Shape}
use Rattle.orc_stats.specs.declared.stat.Stat.{Stat}
use Rattle.orc_file_writer.specs.Writing as writing
use Rattle.orc_file_writer.specs.Writing.{Progress}

abbrev pub spread : Options → Shape → Option (List ℕ) → ℕ → List StripeInfo → List (List Stat) → List Cell → Progress
spread options s told written infos stats kept = record { options = options; schema = s; told = told; written = written; infos = infos; stats = stats; kept = kept }

abbrev pub HasKept : Options → Shape → Option (List ℕ) → Option (List ℕ) → ℕ → List StripeInfo → List (List Stat) → List Cell → List Cell → Type 0
HasKept options s first told written infos stats kept rows = writing.HasKept (spread options s told written infos stats kept) first rows

abbrev pub HasPushed : Options → Shape → Option (List ℕ) → Option (List ℕ) → ℕ → List StripeInfo → List (List Stat) → List Cell → List Cell → Type 0
HasPushed options s first told written infos stats kept rows = writing.HasPushed (spread options s told written infos stats kept) first rows

abbrev pub HasFilled : Options → Shape → Option (List ℕ) → Option (List ℕ) → ℕ → List StripeInfo → List (List Stat) → List Cell → List Cell → Type 0
HasFilled options s first told written infos stats kept rows = writing.HasFilled (spread options s told written infos stats kept) first rows
