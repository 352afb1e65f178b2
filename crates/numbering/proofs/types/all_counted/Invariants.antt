-- `numbering::types::all_counted` meets its contract. The invariant: all types are counted if those from here on are, and only then. The measure is what is left of the text.
use Prim.Native.Nat.{◌-◌, ◌≤◌}
use mathlib.Core.Path.{◌≡◌}
use mathlib.Core.Bool.{true}
use lib.ListN.{length, drop}
use Rattle.format.specs.Bytes.{text, all}
use Rattle.records.specs.Places.{is_readable}
use Rattle.records.specs.Named.{values_from}
use Rattle.numbering.specs.Types.{is_type_counted}
use Rattle.numbering.proofs.Counted.{TypedFrom}
use Rattle.numbering.proofs.types.all_counted.Given as goal

abbrev pub invariant-loop-value : goal.invariant-loop-value
invariant-loop-value l = (l.i ≤ length l.d) × (is_readable (drop l.i l.d) ≡ true) × TypedFrom l.d l.i × (length l.scratch ≡ length l.initial.scratch) × (all (is_type_counted l.d) (values_from l.d (text "%type") 0) ≡ all (is_type_counted l.d) (values_from l.d (text "%type") l.i))

abbrev pub decreases-loop-value : goal.decreases-loop-value
decreases-loop-value l = length l.d - l.i
