-- `typing::symbols::next_symbol` meets its contract. The invariant: no word is passed over, and no gap stands where the search has come to. The measure is what is left of the text.
use Prim.Native.Nat.{◌-◌}
use lib.ListN.{length}
use Rattle.typing.proofs.Comments.{Reached}
use Rattle.typing.proofs.symbols.next_symbol.Given as goal

abbrev pub invariant-loop-at : goal.invariant-loop-at
invariant-loop-at l = Reached l.s 0 l.at

abbrev pub decreases-loop-at : goal.decreases-loop-at
decreases-loop-at l = length l.s - l.at
