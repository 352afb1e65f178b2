-- `selection::walks::list_found` meets its contract. The invariant: the record that goes on has its comparisons marked, of those before it the list has the numbers found, and the values to come fit the scratch.
-- The measure is what is left of the part.
use Prim.Native.Nat.{◌-◌}
use mathlib.Core.Path.{◌≡◌}
use mathlib.Core.Bool.{true}
use lib.ListN.{length}
use Rattle.format.specs.Bytes.{all}
use Rattle.records.specs.Fields.{fields_from}
use Rattle.rules.specs.Members.{fits_in}
use Rattle.selection.proofs.Walking.{Walked}
use Rattle.selection.proofs.walks.list_found.Given as goal

abbrev pub invariant-loop-bytes : goal.invariant-loop-bytes
invariant-loop-bytes l = (length l.scratch ≡ length l.initial.scratch) × (length l.list ≡ length l.initial.list) × Walked l.e l.p l.s l.initial.list l.set l.fields l.t.met l.t.found l.list l.i × (all (fits_in (length l.initial.scratch)) (fields_from l.s l.i) ≡ true)

abbrev pub decreases-loop-bytes : goal.decreases-loop-bytes
decreases-loop-bytes l = length l.s - l.i
