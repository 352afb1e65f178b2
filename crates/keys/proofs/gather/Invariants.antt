-- `keys::gather` meets its contract. The invariant: n values are entered, those of the fields from i on are to come. The measure is what is left of the text.
use Prim.Native.Nat.{◌-◌, ◌≤◌}
use mathlib.Core.Path.{◌≡◌}
use lib.ListN.{length}
use Rattle.keys.proofs.Gathering.{Enters}
use Rattle.keys.proofs.gather.Given as goal

abbrev pub invariant-loop-value : goal.invariant-loop-value
invariant-loop-value l = (length l.entries ≡ length l.initial.entries) × (l.n ≤ l.i) × Enters l.name l.s l.entries l.n l.i

abbrev pub decreases-loop-value : goal.decreases-loop-value
decreases-loop-value l = length l.s - l.i
