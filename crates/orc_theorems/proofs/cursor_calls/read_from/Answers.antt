use Rattle.std.proofs.Common.{◌≡◌, ◌*◌, drop}
use Rattle.orc_values.specs.Views.{views}
use Rattle.orc_directory.specs.declared.fault.StripeFault.TheVariants.{OutOfMemory}
use Rattle.orc_theorems.proofs.CursorLemmas.{first_and_rest, after_first}
use Rattle.orc_theorems.proofs.cursor_calls.read_from.Goals as goal

pub returns-in-Err : goal.returns-in-Err
returns-in-Err c = λ x rows starts. c.in-Err.ensures.starts x rows starts

pub returns-in-Err-next : goal.returns-in-Err-next
returns-in-Err-next c = λ x rows starts. c.in-Err-next.ensures.only (drop (c.args.group * c.args.view.now.stride) rows) (c.in-Ok.ensures.starts x rows starts)

pub returns-in-Ok-rest : goal.returns-in-Ok-rest
returns-in-Ok-rest c = λ x rows starts.
    let all = drop (c.args.group * c.args.view.now.stride) rows in
    first_and_rest all c.next.new.self c.in-Ok-next.first (views c.in-Ok-rest.rest.items) (c.in-Ok-next.ensures.only all (c.in-Ok.ensures.starts x rows starts))
    (λ rest stands. c.in-Ok-rest.ensures.only rest stands)

pub returns : goal.returns
returns c = λ x rows starts.
    let all = drop (c.args.group * c.args.view.now.stride) rows in
    after_first all c.next.new.self c.in-Ok-next.first (c.in-Err-rest.fault ≡ OutOfMemory) (c.in-Ok-next.ensures.only all (c.in-Ok.ensures.starts x rows starts))
    (λ rest stands. c.in-Err-rest.ensures.only rest stands)
