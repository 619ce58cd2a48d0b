use Rattle.std.proofs.Common.{ap, inl, inr}
use Rattle.orc_cli_output.specs.declared.fault.CliFault.TheVariants.{Run}
use Rattle.orc_cli_ints.proofs.IntsLemmas.{decoded_stream}
use Rattle.orc_cli_ints.proofs.ints.values_of.Goals as goal

pub returns-in-Ok-decode_all-clause-same : goal.returns-in-Ok-decode_all-clause-same
returns-in-Ok-decode_all-clause-same c = λ values spells.
    let decoded = rw (← c.deref.ensures.value) at c.in-Ok.ensures.ok in
    c.in-Ok-decode_all.ensures.only values (decoded_stream c.args.rle c.args.sign c.args.text.now c.deref.result.now values decoded spells)

pub returns-clause-only : goal.returns-clause-only
returns-clause-only c = λ values spells.
    let decoded = rw (← c.deref.ensures.value) at c.in-Ok.ensures.ok in
    inr (inl (ap Run (c.in-Err-decode_all.ensures.only values (decoded_stream c.args.rle c.args.sign c.args.text.now c.deref.result.now values decoded spells))))
