-- `records::find_field` meets its contract. The invariant: the part from i on is readable, and the search goes on there with what is left to be passed.
-- The measure is what is left of the length.
use Prim.Native.Nat.{◌-◌, ◌≤◌}
use mathlib.Core.Path.{◌≡◌}
use mathlib.Core.Bool.{true}
use lib.ListN.{length, drop}
use Rattle.records.specs.Places.{is_readable, field_place}
use Rattle.records.specs.Named.{occurrence}
use Rattle.records.proofs.find_field.Given as goal

abbrev pub invariant-loop-start : goal.invariant-loop-start
invariant-loop-start l = (l.i ≤ length l.s) × (is_readable (drop l.i l.s) ≡ true) × (field_place l.name l.s l.o ≡ occurrence l.s l.name l.i l.left)

abbrev pub decreases-loop-start : goal.decreases-loop-start
decreases-loop-start l = length l.s - l.i
