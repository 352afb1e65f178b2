-- `merging::twins::are_twins` meets its contract. The invariant: what is left of both is to be compared. The measure is what is left of the first.
use mathlib.Core.Path.{◌≡◌}
use mathlib.Core.Bool.{true}
use lib.ListN.{length}
use Rattle.records.specs.Places.{is_readable}
use Rattle.merging.proofs.Twinning.{twins_from}
use Rattle.merging.proofs.twins.are_twins.Given as goal

abbrev pub invariant-loop-f : goal.invariant-loop-f
invariant-loop-f l = (is_readable l.p ≡ true) × (is_readable l.q ≡ true) × (twins_from l.a 0 l.b 0 ≡ twins_from l.p 0 l.q 0)

abbrev pub decreases-loop-f : goal.decreases-loop-f
decreases-loop-f l = length l.p
