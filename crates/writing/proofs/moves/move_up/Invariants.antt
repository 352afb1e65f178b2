-- `writing::moves::move_up` meets its contract. The loop's invariant: the last n - i bytes of the run stand at their new place, all else is as it was.
-- The measure is i.
use Prim.Native.Nat.{◌≤◌}
use mathlib.Core.Path.{◌≡◌}
use lib.ListN.{length, take, drop}
use Rattle.writing.proofs.Moving.{hung}
use Rattle.writing.proofs.moves.move_up.Given as goal

abbrev pub invariant-loop-i : goal.invariant-loop-i
invariant-loop-i l = (l.i ≤ l.n) × (length l.buf ≡ length l.initial.buf) × (l.buf ≡ hung l.initial.buf l.to (take l.n (drop l.from l.initial.buf)) l.i)

abbrev pub decreases-loop-i : goal.decreases-loop-i
decreases-loop-i l = l.i
