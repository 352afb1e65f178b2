use Rattle.sorting.specs.Moves.{none}
use Rattle.sorting.proofs.Moves.{moved_on}
use Rattle.sorting.proofs.fill_buckets.Goals as goal

pub loop-b-init : goal.loop-b-init
loop-b-init c = none

pub loop-b-preserved : goal.loop-b-preserved
loop-b-preserved c =
    moved_on c.args.entries.now c.loop-b.entries c.fill_bucket.new.entries c.loop-b.invariant c.fill_bucket.ensures
