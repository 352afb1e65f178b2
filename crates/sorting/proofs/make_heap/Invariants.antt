-- `sorting::make_heap` meets its contract. The invariant: the entries were only moved.
use Rattle.sorting.specs.Moves.{Moved}
use Rattle.sorting.proofs.make_heap.Given as goal

abbrev pub invariant-loop-top : goal.invariant-loop-top
invariant-loop-top l = Moved l.initial.entries l.entries
