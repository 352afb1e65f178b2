-- `sorting::fill_bucket` meets its contract. The invariant: the entries were only moved.
use Rattle.sorting.specs.Moves.{Moved}
use Rattle.sorting.proofs.fill_bucket.Given as goal

abbrev pub invariant-loop : goal.invariant-loop
invariant-loop l = Moved l.initial.entries l.entries
