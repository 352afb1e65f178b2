-- `records::next_named` meets its contract. The invariant: no field of the name stands before i, and the part from there on is readable.
-- The measure is what is left of the length.
use Prim.Native.Nat.{◌-◌, ◌≤◌}
use mathlib.Core.Path.{◌≡◌}
use mathlib.Core.Bool.{true}
use lib.ListN.{length, drop}
use Rattle.records.specs.Places.{is_readable}
use Rattle.records.proofs.Named.{Unnamed}
use Rattle.records.proofs.next_named.Given as goal

abbrev pub invariant-loop-f : goal.invariant-loop-f
invariant-loop-f l = (l.i ≤ length l.s) × (is_readable (drop l.i l.s) ≡ true) × Unnamed l.s l.name l.i

abbrev pub decreases-loop-f : goal.decreases-loop-f
decreases-loop-f l = length l.s - l.i
