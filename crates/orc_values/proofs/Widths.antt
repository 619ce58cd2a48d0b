-- How many columns a type has.
use Rattle.std.proofs.Common.{◌≤◌, arith}
use Rattle.orc_values.specs.Shapes.{Shape, scalar, list_of, map_of, struct_of, width}

pub some_width : (s : Shape) → 1 ≤ width s
some_width (scalar k o) = omega arith
some_width (list_of s o) = omega arith
some_width (map_of k v o) = omega arith
some_width (struct_of fs o) = omega arith
