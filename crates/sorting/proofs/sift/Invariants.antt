-- `sorting::sift` meets its contract. The invariant: the entries were only moved, and the root is in the heap. The measure is what lies between the root and the end.
use Prim.Native.Nat.{◌-◌, ◌≤◌}
use mathlib.Core.Path.{◌≡◌}
use lib.ListN.{length}
use Rattle.sorting.specs.Moves.{Moved}
use Rattle.sorting.proofs.sift.Given as goal

abbrev pub invariant-loop-root : goal.invariant-loop-root
invariant-loop-root l = (Moved l.initial.entries l.entries) × (l.lo ≤ l.root) × (length l.entries ≡ length l.initial.entries)

abbrev pub decreases-loop-root : goal.decreases-loop-root
decreases-loop-root l = l.end - l.root
