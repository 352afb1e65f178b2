-- `numbering::bounds::raise_all` meets its contract. The invariant: what is at the places, put together with what the fields from here on say, is what was there, put together with what all say. The measure is what is left of the text.
use Prim.Native.Nat.{◌-◌, ◌≤◌}
use mathlib.Core.Path.{◌≡◌}
use mathlib.Core.Bool.{true}
use lib.ListN.{length, drop}
use Rattle.format.specs.Bytes.{all}
use Rattle.format.specs.Rules.{auto}
use Rattle.records.specs.Places.{is_readable}
use Rattle.records.specs.Walk.{record_in}
use Rattle.records.specs.Fields.{fields_from}
use Rattle.numbering.specs.Types.{fits_in}
use Rattle.numbering.proofs.Narrowing.{FieldsLeft}
use Rattle.numbering.proofs.bounds.raise_all.Given as goal

abbrev pub invariant-loop-start : goal.invariant-loop-start
invariant-loop-start l = (l.i ≤ length l.s) × (is_readable (drop l.i l.s) ≡ true) × (length l.scratch ≡ length l.initial.scratch) × (length l.floors ≡ length l.initial.floors) × (all (fits_in (length l.initial.scratch)) (fields_from l.s l.i) ≡ true) × FieldsLeft l.s (auto (record_in l.d)) l.initial.floors l.i l.floors

abbrev pub decreases-loop-start : goal.decreases-loop-start
decreases-loop-start l = length l.s - l.i
