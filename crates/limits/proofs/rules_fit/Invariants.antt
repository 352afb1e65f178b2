-- `limits::rules_fit` meets its contract. The invariant: c counts the fields before i, and goes on over those from i on; its numbers are small.
-- The measure is what is left of the part.
use Prim.Native.Nat.{◌*◌, ◌-◌, ◌≤◌}
use mathlib.Core.Path.{◌≡◌}
use mathlib.Core.Bool.{true}
use lib.ListN.{length, drop}
use Rattle.format.specs.Pieces.{read_of}
use Rattle.format.specs.Records.{fields_of}
use Rattle.records.specs.Places.{is_readable}
use Rattle.records.specs.Fields.{fields_from}
use Rattle.limits.specs.Counts.{total}
use Rattle.limits.proofs.Tallies.{count_from, no_counts}
use Rattle.limits.proofs.rules_fit.Given as goal

abbrev pub invariant-loop-f : goal.invariant-loop-f
invariant-loop-f l = (l.i ≤ length l.d) × (is_readable (drop l.i l.d) ≡ true) × (total l.c ≤ 2 * l.i) × (count_from no_counts (fields_of (read_of l.d)) ≡ count_from l.c (fields_from l.d l.i))

abbrev pub decreases-loop-f : goal.decreases-loop-f
decreases-loop-f l = length l.d - l.i
