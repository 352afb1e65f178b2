-- `dictionary::add_lists` meets its contract. The invariant: what is left are the lists from a byte on. The measure is what is left of the text.
use Prim.Native.Nat.{◌-◌}
use lib.ListN.{length}
use Rattle.dictionary.proofs.Reading.{ListsLeft}
use Rattle.dictionary.proofs.add_lists.Given as goal

abbrev pub invariant-loop-start : goal.invariant-loop-start
invariant-loop-start l = ListsLeft l.d l.initial.entries l.entries l.n l.i

abbrev pub decreases-loop-start : goal.decreases-loop-start
decreases-loop-start l = length l.d - l.i
