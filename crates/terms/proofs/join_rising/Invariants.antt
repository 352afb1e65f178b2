-- `terms::join_rising` meets its contract. The invariant: the sets from i on are filled, and the last one filled is at hand.
use Prim.Native.Nat.{◌≤◌}
use mathlib.Core.Path.{◌≡◌}
use lib.ListN.{length}
use Rattle.terms.specs.Joined.{TagsFrom}
use Rattle.terms.proofs.Joining.{JoinedFrom}
use Rattle.terms.proofs.join_rising.Given as goal

abbrev pub invariant-loop-i : goal.invariant-loop-i
invariant-loop-i l = (l.i ≤ length l.entries) × (length l.sets ≡ length l.initial.sets) × TagsFrom l.s l.entries l.i l.set × JoinedFrom l.s l.entries l.sets l.i
