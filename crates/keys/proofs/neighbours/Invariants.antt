-- `keys::neighbours` meets its contract. The invariant: each up to i is before the next.
use Prim.Native.Nat.{◌≤◌}
use lib.ListN.{length}
use Rattle.keys.specs.Marks.{mark_at}
use Rattle.keys.proofs.Apart.{Rising}
use Rattle.keys.proofs.neighbours.Given as goal

abbrev pub invariant-loop-i : goal.invariant-loop-i
invariant-loop-i l = (1 ≤ l.i) × Rising (mark_at l.s) l.i l.entries
