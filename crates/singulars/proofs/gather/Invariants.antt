-- `singulars::gather` meets its contract. The invariant: n fields are entered, those from i on are to come. The measure is what is left of the text.
use Prim.Native.Nat.{◌-◌, ◌≤◌}
use mathlib.Core.Path.{◌≡◌}
use lib.ListN.{length}
use Rattle.format.specs.Rules.{singular}
use Rattle.records.specs.Walk.{record_in}
use Rattle.singulars.proofs.Gathering.{Enters}
use Rattle.singulars.proofs.gather.Given as goal

abbrev pub invariant-loop-f : goal.invariant-loop-f
invariant-loop-f l = (length l.entries ≡ length l.initial.entries) × (l.n ≤ l.i) × Enters (singular (record_in l.d)) l.s l.entries l.n l.i

abbrev pub decreases-loop-f : goal.decreases-loop-f
decreases-loop-f l = length l.s - l.i
