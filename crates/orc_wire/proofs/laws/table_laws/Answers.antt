use Rattle.orc_wire.specs.Kinds.{packed}
use Rattle.orc_wire.proofs.TableLaws.{number_last, small_last, text_last, number_known, small_known, signed_known, small_signed_known, flag_known, text_known, text_each, all_parts, kept_parts}
use Rattle.orc_wire.proofs.laws.table_laws.Goals as goal

pub returns-clause-number_last : goal.returns-clause-number_last
returns-clause-number_last c = number_last

pub returns-clause-small_last : goal.returns-clause-small_last
returns-clause-small_last c = small_last

pub returns-clause-text_last : goal.returns-clause-text_last
returns-clause-text_last c = text_last

pub returns-clause-number_known : goal.returns-clause-number_known
returns-clause-number_known c = number_known

pub returns-clause-small_known : goal.returns-clause-small_known
returns-clause-small_known c = small_known

pub returns-clause-signed_known : goal.returns-clause-signed_known
returns-clause-signed_known c = signed_known

pub returns-clause-small_signed_known : goal.returns-clause-small_signed_known
returns-clause-small_signed_known c = small_signed_known

pub returns-clause-flag_known : goal.returns-clause-flag_known
returns-clause-flag_known c = flag_known

pub returns-clause-text_known : goal.returns-clause-text_known
returns-clause-text_known c = text_known

pub returns-clause-packed_list : goal.returns-clause-packed_list
returns-clause-packed_list c = λ limit n. all_parts (packed limit n)

pub returns-clause-texts : goal.returns-clause-texts
returns-clause-texts c = text_each

pub returns-clause-kept : goal.returns-clause-kept
returns-clause-kept c = kept_parts
