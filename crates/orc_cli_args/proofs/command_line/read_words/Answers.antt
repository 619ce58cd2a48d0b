use Rattle.std.proofs.Common.{List, map, String, Global, string_bytes, inr, refl}
use Rattle.clap.specs.Walk.{Text}
use Rattle.orc_cli_args.proofs.CommandLemmas.{asks_text_of, not_understood_of}
use Rattle.orc_cli_args.proofs.command_line.read_words.Goals as goal

pub returns-in-Ok-print-clause-asked : goal.returns-in-Ok-print-clause-asked
returns-in-Ok-print-clause-asked g c =
    let words : List Text = map (λ (word : String Global). string_bytes word) c.args.words.now in
    asks_text_of words c.kind.result _ c.kind.ensures c.in-Err.ensures.refused c.in-DisplayHelp.is

pub returns-in-DisplayHelp-clause-refused : goal.returns-in-DisplayHelp-clause-refused
returns-in-DisplayHelp-clause-refused g c =
    let words : List Text = map (λ (word : String Global). string_bytes word) c.args.words.now in
    inr (refl, asks_text_of words c.kind.result _ c.kind.ensures c.in-Err.ensures.refused c.in-DisplayHelp.is)

pub returns : goal.returns
returns g c =
    let words : List Text = map (λ (word : String Global). string_bytes word) c.args.words.now in record {
      asked = tt;
      refused = not_understood_of words c.kind.result _ c.kind.ensures c.in-Err.ensures.refused c.in_default.not-OutOfMemory
          c.in_default.not-DisplayHelp c.in_default.not-DisplayVersion;
    }
