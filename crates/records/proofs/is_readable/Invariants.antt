-- `records::is_readable` meets its contract. The invariant: the whole part is ended, and it is readable if the part from i on is, and only then.
-- The measure is what is left of the length.
use Prim.Native.Nat.{◌-◌, ◌≤◌}
use mathlib.Core.Path.{◌≡◌}
use mathlib.Core.Bool.{true}
use lib.ListN.{length, drop}
use Rattle.format.specs.Lines.{is_ended}
use Rattle.records.specs.Places.{is_readable}
use Rattle.records.proofs.is_readable.Given as goal

abbrev pub invariant-loop-size : goal.invariant-loop-size
invariant-loop-size l = (l.i ≤ length l.s) × (is_ended l.s ≡ true) × (is_readable l.s ≡ is_readable (drop l.i l.s))

abbrev pub decreases-loop-size : goal.decreases-loop-size
decreases-loop-size l = length l.s - l.i
