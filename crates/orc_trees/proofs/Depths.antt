-- A tree has one level at least.
use Rattle.std.proofs.Common.{◌<◌, arith}
use Rattle.orc_values.specs.Shapes.{Shape, scalar, list_of, map_of, struct_of, depth}

pub depth_pos : (s : Shape) → 0 < depth s
depth_pos (scalar k o) = omega arith
depth_pos (list_of s o) = omega arith
depth_pos (map_of s t o) = omega arith
depth_pos (struct_of fs o) = omega arith
