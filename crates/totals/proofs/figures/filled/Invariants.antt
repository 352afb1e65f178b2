-- The zeros that are still to come make of the number reached what all of them make of the first.
use Prim.Native.Nat.{◌+◌, ◌^◌, ◌≤◌, ◌<◌}
use mathlib.Core.Path.{◌≡◌}
use Rattle.totals.specs.Totals.{whole_digits, fraction_digits}
use Rattle.totals.specs.Figures.{filled_from}
use Rattle.totals.proofs.figures.filled.Given as goal

abbrev pub invariant-loop-k : goal.invariant-loop-k
invariant-loop-k l = (l.k ≤ fraction_digits) × (l.m < 10 ^ (whole_digits + l.k)) × (filled_from l.digits l.number ≡ filled_from l.k l.m)
