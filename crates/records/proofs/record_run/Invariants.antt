-- `records::record_run` meets its contract. The invariant: the part from i on is readable, and the run goes on there with what was found so far.
-- The measure is what is left of the length.
use Prim.Native.Nat.{◌-◌, ◌≤◌}
use mathlib.Core.Path.{◌≡◌}
use mathlib.Core.Bool.{true}
use lib.ListN.{length, drop}
use Rattle.format.specs.Pieces.{read_of}
use Rattle.records.specs.Places.{is_readable}
use Rattle.records.specs.Walk.{run_from}
use Rattle.records.proofs.record_run.Given as goal

abbrev pub invariant-loop-size : goal.invariant-loop-size
invariant-loop-size l = (l.i ≤ length l.s) × (is_readable (drop l.i l.s) ≡ true) × (run_from 0 0 l.described (read_of l.s) ≡ run_from l.i l.end l.descriptor (read_of (drop l.i l.s)))

abbrev pub decreases-loop-size : goal.decreases-loop-size
decreases-loop-size l = length l.s - l.i
