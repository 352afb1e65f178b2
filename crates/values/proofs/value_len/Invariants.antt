-- `values::value_len` meets its contract. The invariant: n and the length of the value from i on make up the whole length.
-- The measure is what is left of the text.
use Prim.Native.Nat.{◌+◌, ◌-◌}
use mathlib.Core.Path.{◌≡◌}
use lib.ListN.{length, drop}
use Rattle.values.specs.Value.{value_from}
use Rattle.values.proofs.value_len.Given as goal

abbrev pub invariant-loop-next : goal.invariant-loop-next
invariant-loop-next l = l.n + length (value_from (drop l.i l.s)) ≡ length (value_from l.s)

abbrev pub decreases-loop-next : goal.decreases-loop-next
decreases-loop-next l = length l.s - l.i
