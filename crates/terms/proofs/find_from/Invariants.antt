-- `terms::find_from` meets its contract. The invariant: the tags of the word are those in the set and those that entries from i on have.
use Prim.Native.Nat.{◌≤◌}
use lib.ListN.{length}
use Rattle.terms.proofs.Search.{Left}
use Rattle.terms.proofs.find_from.Given as goal

abbrev pub invariant-loop-i : goal.invariant-loop-i
invariant-loop-i l = (l.i ≤ length l.entries) × Left l.s l.entries l.w l.set l.i
