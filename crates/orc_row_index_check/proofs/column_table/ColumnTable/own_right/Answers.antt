use Rattle.std.proofs.Common.{◌≡◌, ◌∙◌, ◌-◌, length, take, drop, sym, ap, arith, length-drop}
use Rattle.std.proofs.lemmas.List.{take_all}
use Rattle.orc_row_groups.specs.Counts.{octets}
use Rattle.orc_row_index.specs.Walking.{lent_bytes}
use Rattle.orc_row_index_check.proofs.ColumnLemmas.{own_alone, own_first, own_behind, octets_there}
use Rattle.orc_row_index_check.proofs.column_table.ColumnTable.own_right.Goals as goal

pub returns-in_default : goal.returns-in_default
returns-in_default c = λ present content own before are counted there.
    own_alone content own c.args.self.now.own before c.args.counts.values c.args.positions.now c.right.result (sym are.of_content ∙ ap lent_bytes c.in_default.is) are.of_own there.in_own counted.values_are c.right.ensures

-- the first number is another one
pub returns-then-offset-octets_before : goal.returns-then-offset-octets_before
returns-then-offset-octets_before c = λ present content own before are counted there h.
    let is = sym are.of_content ∙ ap lent_bytes c.in-Some.is in
    let same = c.octets_before.ensures (octets before) counted.octets_are (octets_there content c.in-Some.bytes.now (octets before) is there.in_content) in
    c.if-offset-octets_before.true (own_first content c.in-Some.bytes.now own before c.args.positions.now is h ∙ sym same)

pub returns-else-offset-octets_before : goal.returns-else-offset-octets_before
returns-else-offset-octets_before c = λ present content own before are counted there.
    let ps = c.args.positions.now in
    let last : take (length ps - 1) (drop 1 ps) ≡ drop 1 ps = take_all (length ps - 1) (drop 1 ps) (omega (arith, length-drop 1 ps)) in
    let is = sym are.of_content ∙ ap lent_bytes c.in-Some.is in
    let same = c.octets_before.ensures (octets before) counted.octets_are (octets_there content c.in-Some.bytes.now (octets before) is there.in_content) in
    own_behind content c.in-Some.bytes.now own c.args.self.now.own before c.args.counts.values ps (take (length ps - 1) (drop 1 ps)) c.right-in-len1-up.result is are.of_own there.in_own counted.values_are
    c.in-len1-up.len_at_least (c.if-offset-octets_before.false ∙ same) last c.right-in-len1-up.ensures
