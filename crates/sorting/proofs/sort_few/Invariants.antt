-- `sorting::sort_few` meets its contract. The invariant: the entries were only moved.
use Rattle.sorting.specs.Moves.{Moved}
use Rattle.sorting.proofs.sort_few.Given as goal

abbrev pub invariant-loop-i : goal.invariant-loop-i
invariant-loop-i l = Moved l.initial.entries l.entries
