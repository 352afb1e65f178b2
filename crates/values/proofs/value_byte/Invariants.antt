-- `values::value_byte` meets its contract. The invariant: the value from i on is the value from at on, which is not before i and which decoding comes to from there.
-- The measure is what is left of the text.
use Prim.Native.Nat.{◌-◌, ◌≤◌}
use mathlib.Core.Path.{◌≡◌}
use lib.ListN.{length, drop}
use Rattle.values.specs.Value.{value_from, Reaches}
use Rattle.values.proofs.value_byte.Given as goal

abbrev pub invariant-loop-at : goal.invariant-loop-at
invariant-loop-at l = (l.i ≤ l.at) × (value_from (drop l.i l.s) ≡ value_from (drop l.at l.s)) × Reaches l.s l.i l.at

abbrev pub decreases-loop-at : goal.decreases-loop-at
decreases-loop-at l = length l.s - l.at
