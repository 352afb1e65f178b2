-- `sorting::sum_counts` returns: each place is less than 32768.
use Prim.Native.Nat.{◌<◌}
use Rattle.sorting.proofs.sum_counts.Given as goal

abbrev pub invariant-loop-c : goal.invariant-loop-c
invariant-loop-c l = l.total < 32768
