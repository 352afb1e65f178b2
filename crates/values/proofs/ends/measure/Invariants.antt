-- `values::ends::measure` meets its contract. The invariant: n bytes of the value were read on the way to i. The measure is what is left of the text.
use Prim.Native.Nat.{◌+◌, ◌-◌}
use mathlib.Core.Path.{◌≡◌}
use lib.ListN.{length, drop}
use Rattle.values.specs.Value.{value_from, Reaches}
use Rattle.values.proofs.ends.measure.Given as goal

abbrev pub invariant-loop-next : goal.invariant-loop-next
invariant-loop-next l = Reaches l.v 0 l.i × (l.n + length (value_from (drop l.i l.v)) ≡ length (value_from l.v))

abbrev pub decreases-loop-next : goal.decreases-loop-next
decreases-loop-next l = length l.v - l.i
