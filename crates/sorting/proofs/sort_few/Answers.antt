use Rattle.sorting.specs.Moves.{none}
use Rattle.sorting.proofs.Moves.{moved_on}
use Rattle.sorting.proofs.sort_few.Goals as goal

pub loop-i-init : goal.loop-i-init
loop-i-init c = none

pub loop-i-preserved : goal.loop-i-preserved
loop-i-preserved c =
    moved_on c.args.entries.now c.loop-i.entries c.insert.new.entries c.loop-i.invariant c.insert.ensures
