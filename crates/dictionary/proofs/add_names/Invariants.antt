-- `dictionary::add_names` meets its contract. The invariant: what is left are the names from a place on. The measure is what is left of the text.
use Prim.Native.Nat.{◌-◌}
use lib.ListN.{length}
use Rattle.dictionary.proofs.Reading.{NamesLeft}
use Rattle.dictionary.proofs.add_names.Given as goal

abbrev pub invariant-loop-next : goal.invariant-loop-next
invariant-loop-next l = NamesLeft l.d l.initial.entries l.n l.tag l.i l.entries l.k l.at

abbrev pub decreases-loop-next : goal.decreases-loop-next
decreases-loop-next l = length l.d - l.at
