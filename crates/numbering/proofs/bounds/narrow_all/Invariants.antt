-- `numbering::bounds::narrow_all` meets its contract. The invariant: what is at the places, put together with what the types from here on say, is what was there, put together with what all say. The measure is what is left of the text.
use Prim.Native.Nat.{◌-◌, ◌≤◌}
use mathlib.Core.Path.{◌≡◌}
use mathlib.Core.Bool.{true}
use lib.ListN.{length, drop}
use Rattle.format.specs.Rules.{auto}
use Rattle.records.specs.Places.{is_readable}
use Rattle.records.specs.Walk.{record_in}
use Rattle.numbering.proofs.Counted.{TypedFrom}
use Rattle.numbering.proofs.Narrowing.{TypesLeft}
use Rattle.numbering.proofs.bounds.narrow_all.Given as goal

abbrev pub invariant-loop-value : goal.invariant-loop-value
invariant-loop-value l = (l.i ≤ length l.d) × (is_readable (drop l.i l.d) ≡ true) × TypedFrom l.d l.i × (length l.scratch ≡ length l.initial.scratch) × (length l.floors ≡ length l.initial.floors) × (length l.limits ≡ length l.initial.limits) × TypesLeft l.d (auto (record_in l.d)) l.initial.floors l.initial.limits l.i l.floors l.limits

abbrev pub decreases-loop-value : goal.decreases-loop-value
decreases-loop-value l = length l.d - l.i
