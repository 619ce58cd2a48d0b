use Rattle.std.proofs.Common.{◌≡◌, ◌+◌, ◌++◌, drop}
use Rattle.orc_values.specs.Shapes.{widths, starts}
use Rattle.orc_values.specs.Views.{fields}
use Rattle.orc_types.proofs.listing.starts_of.Given as goal

-- the starts so far, before those of the fields that are left, are all
abbrev pub invariant-loop-field : goal.invariant-loop-field
invariant-loop-field l =
    record {
      whole : l.starts.items ++ starts (fields (drop l.field-index l.fields)) l.next ≡ starts (fields l.fields) l.from;
      left : l.next + widths (fields (drop l.field-index l.fields)) ≡ l.from + widths (fields l.fields);
    }
