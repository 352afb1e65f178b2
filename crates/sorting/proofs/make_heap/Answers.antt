use Rattle.sorting.specs.Moves.{none}
use Rattle.sorting.proofs.Moves.{moved_on}
use Rattle.sorting.proofs.make_heap.Goals as goal

pub loop-top-init : goal.loop-top-init
loop-top-init c = none

pub loop-top-preserved : goal.loop-top-preserved
loop-top-preserved c =
    moved_on c.args.entries.now c.loop-top.entries c.sift.new.entries c.loop-top.invariant c.sift.ensures
