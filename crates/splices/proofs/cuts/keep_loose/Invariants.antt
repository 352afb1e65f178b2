-- `splices::cuts::keep_loose` meets its contract. The invariant: what stays of the bytes before i stands in front, and those from i on are as they were.
-- The measure is what is left of the part.
use Prim.Native.Nat.{◌-◌}
use lib.ListN.{length}
use Rattle.splices.proofs.Left.{Keeping}
use Rattle.splices.proofs.cuts.keep_loose.Given as goal

abbrev pub invariant-loop-start : goal.invariant-loop-start
invariant-loop-start l = Keeping l.initial.part l.part l.n l.i

abbrev pub decreases-loop-start : goal.decreases-loop-start
decreases-loop-start l = length l.initial.part - l.i
