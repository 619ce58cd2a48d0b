use Rattle.std.proofs.Common.{◌≡◌, ◌++◌, take, sym, ap, ◌∙◌, arith}
use Rattle.std.specs.List.{flat_map}
use Rattle.std.proofs.lemmas.List.{take_all}
use Rattle.orc_stripe_writer.specs.declared.byte_string.ByteString.{ByteString}
use Rattle.orc_stripe_writer.proofs.CellValuesLemmas.{joined_is}
use Rattle.orc_stripe_writer.proofs.cell_values.append_byte_strings.Goals as goal

pub returns : goal.returns
returns c =
    let all : take c.loop-string.string-index c.args.strings.now ≡ c.args.strings.now = take_all c.loop-string.string-index c.args.strings.now (omega arith) in
    c.loop-string.invariant ∙ ap (λ ps. c.args.out.now.items ++ flat_map (λ (p : ByteString). p.0.now) ps) all ∙ ap (λ bs. c.args.out.now.items ++ bs) (sym (joined_is c.args.strings.now))
