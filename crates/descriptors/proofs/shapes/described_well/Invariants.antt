-- `descriptors::shapes::described_well` meets its contract. The invariant is the walk's: the n names met so far stand where the arrays say, and the descriptors from row n on are asked
-- behind them.
use mathlib.Core.Path.{◌≡◌}
use lib.ListN.{length}
use Rattle.descriptors.proofs.Walks.{WalkAt}
use Rattle.descriptors.proofs.shapes.described_well.Given as goal

abbrev pub invariant-loop-n : goal.invariant-loop-n
invariant-loop-n l = WalkAt l.s l.starts l.ends l.count l.n l.from l.to × (length l.scratch ≡ length l.initial.scratch)
