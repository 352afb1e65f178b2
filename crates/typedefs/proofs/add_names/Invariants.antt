-- `typedefs::add_names` meets its contract. The invariant: the values passed have their places, and their names are put. The measure is what is left of the length.
use Prim.Native.Nat.{◌-◌, ◌≤◌}
use mathlib.Core.Path.{◌≡◌}
use lib.ListN.{length}
use Rattle.format.specs.Bytes.{text}
use Rattle.records.specs.Named.{values_from}
use Rattle.typedefs.proofs.Placing.{Placed}
use Rattle.typedefs.proofs.add_names.Given as goal

abbrev pub invariant-loop-value : goal.invariant-loop-value
invariant-loop-value l = Placed l.d l.initial.entries l.rows l.entries l.count l.i × (l.count ≤ length (values_from l.d (text "%typedef") 0)) × (length l.entries ≡ length l.initial.entries)

abbrev pub decreases-loop-value : goal.decreases-loop-value
decreases-loop-value l = length l.d - l.i
