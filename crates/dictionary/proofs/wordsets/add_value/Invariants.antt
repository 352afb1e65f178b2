-- `dictionary::wordsets::add_value` meets its contract. The invariant: what is left are the words from a place on. The measure is what is left of the text.
use Prim.Native.Nat.{◌-◌}
use lib.ListN.{length}
use Rattle.dictionary.proofs.Places.{ValueLeft}
use Rattle.dictionary.proofs.wordsets.add_value.Given as goal

abbrev pub invariant-loop-start : goal.invariant-loop-start
invariant-loop-start l = ValueLeft l.d l.initial.entries l.n l.i l.entries l.k l.from

abbrev pub decreases-loop-start : goal.decreases-loop-start
decreases-loop-start l = length l.d - l.from
