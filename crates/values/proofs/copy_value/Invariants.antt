-- `values::copy_value` meets its contract. The invariant: n and the length of the value from i on make up the whole length, and writing that value
-- at n gives what writing the whole one at the front of out gives. The measure is what is left of the text.
use Prim.Native.Nat.{◌+◌, ◌-◌}
use mathlib.Core.Path.{◌≡◌}
use lib.ListN.{length, drop}
use lib.Seq.{sets}
use Rattle.values.specs.Value.{value_from}
use Rattle.values.proofs.copy_value.Given as goal

abbrev pub invariant-loop-byte : goal.invariant-loop-byte
invariant-loop-byte l = (length l.out ≡ length l.initial.out) × (l.n + length (value_from (drop l.i l.s)) ≡ length (value_from l.s)) × (sets l.out l.n (value_from (drop l.i l.s)) ≡ sets l.initial.out 0 (value_from l.s))

abbrev pub decreases-loop-byte : goal.decreases-loop-byte
decreases-loop-byte l = length l.s - l.i
