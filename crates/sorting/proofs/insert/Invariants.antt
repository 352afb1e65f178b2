-- `sorting::insert` meets its contract. The invariant: the entries were only moved, and the place reached is among them. The measure is that place.
use Prim.Native.Nat.{◌<◌}
use mathlib.Core.Path.{◌≡◌}
use lib.ListN.{length}
use Rattle.sorting.specs.Moves.{Moved}
use Rattle.sorting.proofs.insert.Given as goal

abbrev pub invariant-loop-at : goal.invariant-loop-at
invariant-loop-at l = (Moved l.initial.entries l.entries) × (l.at < length l.entries) × (length l.entries ≡ length l.initial.entries)

abbrev pub decreases-loop-at : goal.decreases-loop-at
decreases-loop-at l = l.at
