-- `values::byte_before` meets its contract. The invariant: decoding comes to at, and the value from there on is the value from k on. The measure is at.
use Prim.Native.Nat.{◌≤◌}
use mathlib.Core.Path.{◌≡◌}
use lib.ListN.{drop}
use Rattle.values.specs.Value.{value_from, Reaches}
use Rattle.values.proofs.byte_before.Given as goal

abbrev pub invariant-loop-at : goal.invariant-loop-at
invariant-loop-at l = (l.at ≤ l.k) × Reaches l.s 0 l.at × (value_from (drop l.at l.s) ≡ value_from (drop l.k l.s))

abbrev pub decreases-loop-at : goal.decreases-loop-at
decreases-loop-at l = l.at
