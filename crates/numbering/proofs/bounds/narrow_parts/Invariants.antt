-- `numbering::bounds::narrow_parts` meets its contract. The invariant: what is at the places, put together with what the rest says, is what was there, put together with what all parts say. The measure is the rest.
use Prim.Native.Nat.{◌≤◌}
use mathlib.Core.Path.{◌≡◌}
use lib.ListN.{length}
use Rattle.format.specs.Numbering.{above, from}
use Rattle.format.specs.Rules.{auto}
use Rattle.numbers.specs.Meaning.{int_in}
use Rattle.records.specs.Walk.{record_in}
use Rattle.numbering.proofs.Bounding.{PartsLeft}
use Rattle.numbering.proofs.bounds.narrow_parts.Given as goal

abbrev pub invariant-loop-rest : goal.invariant-loop-rest
invariant-loop-rest l = (length l.rest ≤ length l.s) × (length l.floors ≡ length l.initial.floors) × (length l.limits ≡ length l.initial.limits) × PartsLeft (auto (record_in l.d)) (from (int_in l.range.low)) (above (int_in l.range.high)) l.s l.initial.floors l.initial.limits l.rest l.floors l.limits

abbrev pub decreases-loop-rest : goal.decreases-loop-rest
decreases-loop-rest l = length l.rest
