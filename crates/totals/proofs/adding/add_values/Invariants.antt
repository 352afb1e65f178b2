-- n values are added, those of the fields from i on are to come. The measure is what is left of the text.
use Prim.Native.Nat.{◌-◌}
use lib.ListN.{length}
use Rattle.totals.proofs.Walking.{Adds}
use Rattle.totals.proofs.adding.add_values.Given as goal

abbrev pub invariant-loop-value : goal.invariant-loop-value
invariant-loop-value l = Adds l.name l.s l.sum l.n l.i

abbrev pub decreases-loop-value : goal.decreases-loop-value
decreases-loop-value l = length l.s - l.i
