-- A fault that is met behind a group's positions is one of the stripe itself, where they are right as far as they go.
use Rattle.std.proofs.Common.{◌≡◌, ℕ, ◌+◌, ◌-◌, ◌*◌, List, length, subst, arith}
use Rattle.std.proofs.lemmas.Option.{slice_get_within}
use Rattle.orc_values.specs.Cells.{Cell}
use Rattle.orc_column_reader.specs.Faults.{FaultDown, HasFault}
use Rattle.orc_column_reader.specs.Stripe.{columns_of}
use Rattle.orc_directory.specs.declared.fault.StripeFault.{StripeFault}
use Rattle.orc_group_reader.proofs.ColumnsBehind.{readers_behind}
use Rattle.orc_stripe_reader.specs.Opened.{Opened}
use Rattle.orc_stripe_reader.specs.GroupCursors.{LeadsBehind, MeetsFrom}

pub fault_behind : (view : Opened) (before : List Cell) (group : ℕ) (f : StripeFault) → LeadsBehind view before group → MeetsFrom view group f
    → HasFault view.schema (columns_of view.footer view.bytes) view.info.number_of_rows f
fault_behind view before group f leads m =
    let x = columns_of view.footer view.bytes in
    let left = view.info.number_of_rows - group * view.stride in
    let all : length before + left ≡ view.info.number_of_rows = (let there = leads.has_group.there in omega (arith, there, leads.counted)) in
    let entered = m.entered in (
      m.all,
      subst (λ (n : ℕ). FaultDown view.schema x 0 m.all n f) all
          (readers_behind view.schema x before entered.entries m.readers m.all left f leads.fit
          (λ c entry at. leads.column c entry (omega (arith, slice_get_within entered.entries c entry at, entered.counted)) (entered.of_group c entry at)) entered.stand m.met),
    )
