-- `sorting::sort_part` meets its contract. The invariant: since the heap was made the entries were only moved.
use Rattle.sorting.specs.Moves.{Moved}
use Rattle.sorting.proofs.sort_part.Given as goal

abbrev pub invariant-loop-end : goal.invariant-loop-end
invariant-loop-end l = Moved l.initial.entries l.entries
