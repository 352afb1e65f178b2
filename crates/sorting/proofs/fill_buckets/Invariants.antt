-- `sorting::fill_buckets` meets its contract. The invariant: the entries were only moved.
use Rattle.sorting.specs.Moves.{Moved}
use Rattle.sorting.proofs.fill_buckets.Given as goal

abbrev pub invariant-loop-b : goal.invariant-loop-b
invariant-loop-b l = Moved l.initial.entries l.entries
