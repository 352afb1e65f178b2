-- `writing::moves::move_down` meets its contract. The loop's invariant: the first i bytes of the run are pasted at their new place.
-- The measure is what is left of n.
use Prim.Native.Nat.{◌-◌, ◌≤◌}
use mathlib.Core.Path.{◌≡◌}
use lib.ListN.{length, drop}
use lib.Seq.{paste}
use Rattle.writing.proofs.moves.move_down.Given as goal

abbrev pub invariant-loop-i : goal.invariant-loop-i
invariant-loop-i l = (l.i ≤ l.n) × (length l.buf ≡ length l.initial.buf) × (l.buf ≡ paste l.initial.buf l.to (drop l.from l.initial.buf) l.i)

abbrev pub decreases-loop-i : goal.decreases-loop-i
decreases-loop-i l = l.n - l.i
