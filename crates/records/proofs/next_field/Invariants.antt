-- `records::next_field` meets its contract. The invariant: no field stands before i, and the part from there on is readable.
-- The measure is what is left of the length.
use Prim.Native.Nat.{◌-◌, ◌≤◌}
use mathlib.Core.Path.{◌≡◌}
use mathlib.Core.Bool.{true}
use lib.ListN.{length, drop}
use Rattle.records.specs.Places.{is_readable}
use Rattle.records.specs.Fields.{Fieldless}
use Rattle.records.proofs.next_field.Given as goal

abbrev pub invariant-loop-size : goal.invariant-loop-size
invariant-loop-size l = (l.i ≤ length l.s) × (is_readable (drop l.i l.s) ≡ true) × Fieldless l.s 0 l.i

abbrev pub decreases-loop-size : goal.decreases-loop-size
decreases-loop-size l = length l.s - l.i
