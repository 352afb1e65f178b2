use Rattle.sorting.specs.Moves.{none}
use Rattle.sorting.proofs.Moves.{moved_on}
use Rattle.sorting.proofs.fill_bucket.Goals as goal

pub loop-init : goal.loop-init
loop-init c = none

pub returns-then-not-settle : goal.returns-then-not-settle
returns-then-not-settle c =
    moved_on c.args.entries.now c.loop.entries c.settle.new.entries c.loop.invariant c.settle.ensures

pub loop-preserved : goal.loop-preserved
loop-preserved c =
    moved_on c.args.entries.now c.loop.entries c.settle.new.entries c.loop.invariant c.settle.ensures
