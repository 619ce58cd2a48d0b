use Rattle.std.specs.Prelude.{MatchBool}
use Rattle.std.specs.Bool.{OnTrue, OnFalse}
use Rattle.std.specs.Option.{option_map}
use Rattle.std.proofs.Common.{Bool, true, false, Option, Some, sym, subst}
use Rattle.orc_wire.specs.declared.column_stats.ColumnStats.{ColumnStats}
use Rattle.orc_values.specs.Views.{shape}
use Rattle.orc_stats.specs.Kinds.{kind_of}
use Rattle.orc_stats.specs.Known.{Agrees}
use Rattle.orc_stats.specs.Messages.{stat_read}
use Rattle.orc_stats.specs.declared.kind.StatKind.{StatKind}
use Rattle.orc_stats.specs.declared.stat.Stat.{Stat}
use Rattle.orc_check.specs.Agreeing.{Tells}
use Rattle.orc_check.proofs.entries.entry_tells.Goals as goal

either_way : (A : Type 0) (b : Bool) → OnTrue b A → OnFalse b (A → ⊥) → MatchBool b A (A → ⊥)
either_way A true is not = is
either_way A false is not = not

pub returns-in-Some : goal.returns-in-Some
returns-in-Some c = λ group is.
    let s = shape c.args.tree.now in
    let b = c.tells.result in
    let told = either_way (Agrees (stat_read c.of_type.result c.in-Some.message) c.args.right.now) b c.tells.ensures.yes c.tells.ensures.no in
    subst (λ (x : Stat). MatchBool b (Tells (option_map (stat_read (kind_of s)) c.args.entry.now.statistics) x) (Tells (option_map (stat_read (kind_of s)) c.args.entry.now.statistics) x → ⊥)) is
    (subst (λ (o : Option ColumnStats). MatchBool b (Tells (option_map (stat_read (kind_of s)) o) c.args.right.now) (Tells (option_map (stat_read (kind_of s)) o) c.args.right.now → ⊥)) (sym c.in-Some.is)
    (subst (λ (k : StatKind). MatchBool b (Tells (Some (stat_read k c.in-Some.message)) c.args.right.now) (Tells (Some (stat_read k c.in-Some.message)) c.args.right.now → ⊥)) c.of_type.ensures told))
