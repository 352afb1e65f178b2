-- `test_dump::dump_record` meets its contract. The invariant: the part from i on is readable.
use Prim.Native.Nat.{◌≤◌, ◌-◌}
use mathlib.Core.Path.{◌≡◌}
use mathlib.Core.Bool.{true}
use lib.ListN.{length, drop}
use Rattle.records.specs.Places.{is_readable}
use Rattle.test_dump.proofs.dump_record.Given as goal

abbrev pub invariant-loop-start : goal.invariant-loop-start
invariant-loop-start l = (l.i ≤ length l.s) × (is_readable (drop l.i l.s) ≡ true)

abbrev pub decreases-loop-start : goal.decreases-loop-start
decreases-loop-start l = length l.s - l.i
