use Rattle.orc_tail.proofs.CapLemmas.{is_tail, is_capped, is_open, is_open_capped, one_more_fault}
use Rattle.orc_file_reader.proofs.StripeCapLemmas.{refused_within, capped_within}
use Rattle.orc_file_reader.proofs.laws.of_caps.cap_laws.Goals as goal

pub returns-clause-tail : goal.returns-clause-tail
returns-clause-tail c = is_tail

pub returns-clause-refusal : goal.returns-clause-refusal
returns-clause-refusal c = one_more_fault

pub returns-clause-greatest : goal.returns-clause-greatest
returns-clause-greatest c = is_capped

pub returns-clause-no_refusal : goal.returns-clause-no_refusal
returns-clause-no_refusal c = is_open

pub returns-clause-all_refusals : goal.returns-clause-all_refusals
returns-clause-all_refusals c = is_open_capped

pub returns-clause-refused : goal.returns-clause-refused
returns-clause-refused c = λ cap s bytes infos fault. refused_within cap s bytes 0 infos fault

pub returns-clause-first : goal.returns-clause-first
returns-clause-first c = λ cap s bytes infos fault. capped_within cap s bytes 0 infos fault
