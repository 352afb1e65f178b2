-- `typedefs::all_well` meets its contract. The invariant: all fields are well formed if those from i on are, and only then. The measure is what is left of the length.
use Prim.Native.Nat.{◌-◌, ◌≤◌}
use mathlib.Core.Path.{◌≡◌}
use mathlib.Core.Bool.{true}
use lib.ListN.{length, drop}
use Rattle.format.specs.Bytes.{text, all}
use Rattle.records.specs.Places.{is_readable}
use Rattle.records.specs.Named.{values_from}
use Rattle.typedefs.specs.Walks.{names_from, fit_from}
use Rattle.typedefs.specs.Targets.{targets_in, well_by}
use Rattle.typedefs.proofs.all_well.Given as goal

abbrev pub invariant-loop-value : goal.invariant-loop-value
invariant-loop-value l = (l.i ≤ length l.d) × (is_readable (drop l.i l.d) ≡ true) × (length l.scratch ≡ length l.initial.scratch) × (fit_from (length l.initial.scratch) l.d (text "%type") l.i ≡ true) × (all (well_by (names_from l.d 0) (targets_in l.targets)) (values_from l.d (text "%type") 0) ≡ all (well_by (names_from l.d 0) (targets_in l.targets)) (values_from l.d (text "%type") l.i))

abbrev pub decreases-loop-value : goal.decreases-loop-value
decreases-loop-value l = length l.d - l.i
