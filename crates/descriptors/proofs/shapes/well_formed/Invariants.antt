-- `descriptors::shapes::well_formed` meets its contract. The invariant: the part from i on is readable and holds the limits, the scratch keeps its length, and the descriptor is well formed
-- if the fields from i on are, behind those that were met, and only then. The measure is what is left of the length.
use Prim.Native.Nat.{◌-◌, ◌≤◌}
use mathlib.Core.Path.{◌≡◌}
use mathlib.Core.Bool.{true}
use lib.ListN.{length, drop}
use Rattle.format.specs.Bytes.{all}
use Rattle.format.specs.Numbers.{int_bounds}
use Rattle.format.specs.Questions.{fits_field}
use Rattle.format.specs.Rules.{is_well_formed}
use Rattle.records.specs.Places.{is_readable}
use Rattle.records.specs.Walk.{record_in}
use Rattle.records.specs.Fields.{fields_from}
use Rattle.descriptors.proofs.Judging.{formed_from}
use Rattle.descriptors.proofs.shapes.well_formed.Given as goal

abbrev pub invariant-loop-f : goal.invariant-loop-f
invariant-loop-f l = (l.i ≤ length l.d) × (is_readable (drop l.i l.d) ≡ true) × (all fits_field (fields_from l.d l.i) ≡ true) × (length l.scratch ≡ length l.initial.scratch) × (is_well_formed int_bounds (record_in l.d) ≡ formed_from l.keyed l.sized (fields_from l.d l.i))

abbrev pub decreases-loop-f : goal.decreases-loop-f
decreases-loop-f l = length l.d - l.i
