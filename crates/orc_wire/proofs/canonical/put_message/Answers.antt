use Rattle.std.proofs.Common.{List, ℕ}
use Rattle.orc_wire.proofs.PutLemmas.{on_ok_then}
use Rattle.orc_wire.proofs.SizedLemmas.{begun_keeps, begun_text, begun_with}
use Rattle.orc_wire.proofs.canonical.put_message.Goals as goal

pub returns-clause-text : goal.returns-clause-text
returns-clause-text g c =
    let n = c.args.n in
    let old = c.args.out.now.items in
    let content = g.M.Message.canonical.text c.args.message.now in
    let mid = c.put_members.new.out.items in
    let place = c.in_ok-place.place in
    let begun = begun_with n old c.begin_sized.new.out.items content mid place c.in_ok-place.ensures.text c.in_ok-place.ensures.place c.in_ok-put_members.ensures.text in
    on_ok_then c.end_sized.result c.end_sized.ensures.text (λ e. begun_text n old content mid c.end_sized.new.out.items place begun e)

pub returns-clause-front : goal.returns-clause-front
returns-clause-front g c =
    let n = c.args.n in
    let old = c.args.out.now.items in
    let content = g.M.Message.canonical.text c.args.message.now in
    let mid = c.put_members.new.out.items in
    let place = c.in_ok-place.place in
    let begun = begun_with n old c.begin_sized.new.out.items content mid place c.in_ok-place.ensures.text c.in_ok-place.ensures.place c.in_ok-put_members.ensures.text in
    begun_keeps n old content mid c.end_sized.new.out.items place begun c.end_sized.ensures.front
