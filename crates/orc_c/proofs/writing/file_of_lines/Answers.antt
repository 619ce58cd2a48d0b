use Rattle.std.proofs.Common.{inr}
use Rattle.orc_c.proofs.writing.file_of_lines.Goals as goal
use Rattle.std.proofs.lemmas.Result.{IfOk-weaker, IfErr-weaker}

pub returns-in-Some-clause-written : goal.returns-in-Some-clause-written
returns-in-Some-clause-written c =
    IfOk-weaker c.file_of_text.result _ _ (λ file is. (c.in-Some.options, c.in-Some.ensures, is)) c.file_of_text.ensures.written

pub returns-in-Some-clause-refused : goal.returns-in-Some-clause-refused
returns-in-Some-clause-refused c =
    IfErr-weaker c.file_of_text.result _ _ (λ fault why. inr (c.in-Some.options, c.in-Some.ensures, why)) c.file_of_text.ensures.refused
