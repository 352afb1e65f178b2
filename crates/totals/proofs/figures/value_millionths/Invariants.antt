-- What has been seen so far, with the value's bytes that are left, makes what the whole value makes. The measure is what is left of the text.
use Prim.Native.Nat.{◌-◌}
use mathlib.Core.Path.{◌≡◌}
use lib.ListN.{length, drop}
use Rattle.values.specs.Value.{value_from}
use Rattle.totals.specs.Totals.{millionths_of}
use Rattle.totals.specs.Figures.{read_on, Within}
use Rattle.totals.proofs.figures.value_millionths.Given as goal

abbrev pub invariant-loop-byte : goal.invariant-loop-byte
invariant-loop-byte l = Within l.f × (millionths_of (value_from l.s) ≡ read_on l.f (value_from (drop l.i l.s)))

abbrev pub decreases-loop-byte : goal.decreases-loop-byte
decreases-loop-byte l = length l.s - l.i
