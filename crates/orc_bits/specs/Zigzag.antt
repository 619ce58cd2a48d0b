-- Zigzag numbers (Protocol Buffers encoding, "Signed Integers"): 2 n for n of 0 or more, else -2 n - 1.
use Rattle.std.specs.Prelude.{ℕ, ◌+◌, ◌*◌, ℤ, pos, negsuc}

-- 0, -1, 1, -2 .. become 0, 1, 2, 3 ..
abbrev pub zig : ℤ → ℕ
zig (pos n) = 2 * n
zig (negsuc n) = 2 * n + 1
