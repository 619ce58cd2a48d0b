use Rattle.std.proofs.Common.{◌≤◌, ℕ, ℤ, List, length}
use Rattle.orc_rle.specs.declared.sign.Sign.{Sign}
use Rattle.orc_rle.proofs.SizeLemmas.{SpellsMore}
use Rattle.orc_rle.proofs.values.varints_len.Given as goal

abbrev pub invariant-loop : goal.invariant-loop
invariant-loop l = record {
  within : l.at ≤ length l.bytes;
  more : (sign : Sign) (vs : List ℤ) (front rest : List ℕ) → SpellsMore sign vs front rest l.bytes l.count 0 0 → SpellsMore sign vs front rest l.bytes l.count l.counter l.at;
}
