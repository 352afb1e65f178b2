-- `numbering::adding::put_decimal` meets its contract. The invariant: the digits are those of what is left of the number, and then those written. The measure is the place reached.
use Prim.Native.Nat.{◌+◌, ◌-◌, ◌≤◌}
use mathlib.Core.Path.{◌≡◌}
use mathlib.Core.List.{◌++◌}
use lib.ListN.{length, drop}
use Rattle.format.specs.Numbering.{decimal}
use Rattle.numbering.proofs.adding.put_decimal.Given as goal

abbrev pub invariant-loop-n : goal.invariant-loop-n
invariant-loop-n l = (length l.text ≡ length l.initial.text) × (l.at ≤ length l.text) × (length (decimal l.n) ≤ l.at) × (decimal l.number ≡ decimal l.n ++ drop l.at l.text)

abbrev pub decreases-loop-n : goal.decreases-loop-n
decreases-loop-n l = l.at
