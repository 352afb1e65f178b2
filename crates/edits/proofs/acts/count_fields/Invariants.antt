-- `edits::acts::count_fields` meets its contract. The invariant: the part from i on is readable, and what was counted and its fields are all fields.
-- The measure is what is left of the length.
use Prim.Native.Nat.{◌+◌, ◌-◌, ◌≤◌}
use mathlib.Core.Path.{◌≡◌}
use mathlib.Core.Bool.{true}
use lib.ListN.{length, drop}
use Rattle.records.specs.Places.{is_readable}
use Rattle.records.specs.Walk.{record_in}
use Rattle.edits.proofs.acts.count_fields.Given as goal

abbrev pub invariant-loop-end : goal.invariant-loop-end
invariant-loop-end l = (l.i ≤ length l.s) × (is_readable (drop l.i l.s) ≡ true) × (l.n ≤ l.i) × (length (record_in l.s) ≡ l.n + length (record_in (drop l.i l.s)))

abbrev pub decreases-loop-end : goal.decreases-loop-end
decreases-loop-end l = length l.s - l.i
