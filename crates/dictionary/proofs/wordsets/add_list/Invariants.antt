-- `dictionary::wordsets::add_list` meets its contract. The invariant: what is left are the words of the fields from a byte on. The measure is what is left of the text.
use Prim.Native.Nat.{◌-◌}
use lib.ListN.{length}
use Rattle.dictionary.proofs.Places.{ListLeft}
use Rattle.dictionary.proofs.wordsets.add_list.Given as goal

abbrev pub invariant-loop-value : goal.invariant-loop-value
invariant-loop-value l = ListLeft l.d l.name l.initial.entries l.entries l.n l.i

abbrev pub decreases-loop-value : goal.decreases-loop-value
decreases-loop-value l = length l.d - l.i
