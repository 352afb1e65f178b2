-- `values::ends::last_difference` meets its contract. The invariant: the values are alike from p and q on, and place bytes stand before. The measure is p.
use Prim.Native.Nat.{◌+◌}
use mathlib.Core.Path.{◌≡◌}
use lib.ListN.{length, drop}
use Rattle.values.specs.Value.{value_from, Reaches}
use Rattle.values.proofs.ends.last_difference.Given as goal

abbrev pub invariant-loop-c : goal.invariant-loop-c
invariant-loop-c l = Reaches l.a 0 l.p × Reaches l.b 0 l.q × (value_from (drop l.p l.a) ≡ value_from (drop l.q l.b)) × (l.place + length (value_from (drop l.p l.a)) ≡ length (value_from l.a))

abbrev pub decreases-loop-c : goal.decreases-loop-c
decreases-loop-c l = l.p
