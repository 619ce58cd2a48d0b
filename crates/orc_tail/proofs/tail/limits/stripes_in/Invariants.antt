use Rattle.std.proofs.Common.{◌≡◌, ◌+◌, ◌*◌, ◌≤◌, drop}
use Rattle.orc_tail.specs.Stripes.{stripe_tests, stripes_rows, stripes_length}
use Rattle.orc_tail.specs.declared.fault.FileFault.{FileFault}
use Rattle.orc_tail.proofs.tail.limits.stripes_in.Given as goal

-- what is true of the stripes that are left is true of all of them
abbrev pub invariant-loop-i : goal.invariant-loop-i
invariant-loop-i l = record {
  pass : (stripe_tests l.i l.from l.before (drop l.i l.stripes)).finds tt → (stripe_tests 0 3 l.before l.stripes).finds tt;
  fail : (fault : FileFault) → (stripe_tests l.i l.from l.before (drop l.i l.stripes)).fails fault → (stripe_tests 0 3 l.before l.stripes).fails fault;
  rows_are : l.rows + stripes_rows (drop l.i l.stripes) ≡ stripes_rows l.stripes;
  bytes_are : l.bytes + stripes_length (drop l.i l.stripes) ≡ stripes_length l.stripes;
  few_rows : l.rows ≤ l.i * 2147483647;
  few_bytes : l.bytes + 3 ≤ l.from;
}
