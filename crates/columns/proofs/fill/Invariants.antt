-- `columns::fill` meets its contract. The invariant: the rows so far are those of the fields passed. The measure is what is left of the text.
use Prim.Native.Nat.{◌-◌, ◌≤◌}
use mathlib.Core.Path.{◌≡◌}
use lib.ListN.{length}
use Rattle.format.specs.Bytes.{text}
use Rattle.records.specs.Named.{values_from}
use Rattle.typedefs.proofs.Placing.{Passed}
use Rattle.columns.proofs.Filling.{Filled}
use Rattle.columns.proofs.fill.Given as goal

abbrev pub invariant-loop-value : goal.invariant-loop-value
invariant-loop-value l = Passed l.d (text "%type") l.count l.i × (l.count ≤ length (values_from l.d (text "%type") 0)) × (length l.scratch ≡ length l.initial.scratch) × (length l.rows ≡ 32) × (length l.texts ≡ 32) × Filled l.d l.rows l.texts l.count

abbrev pub decreases-loop-value : goal.decreases-loop-value
decreases-loop-value l = length l.d - l.i
