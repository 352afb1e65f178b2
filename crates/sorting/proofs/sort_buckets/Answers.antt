use Rattle.sorting.specs.Moves.{none}
use Rattle.sorting.proofs.Moves.{moved_on}
use Rattle.sorting.proofs.sort_buckets.Goals.{then-hi-entries+then-lo-hi, then-hi-entries+else-lo-hi, else-hi-entries}
use Rattle.sorting.proofs.sort_buckets.Goals as goal

pub loop-b-init : goal.loop-b-init
loop-b-init c = none

pub loop-b-preserved : goal.loop-b-preserved
loop-b-preserved c =
    let v = c.loop-b.invariant in
    elim c.if-hi-entries.branch [ then-hi-entries+then-lo-hi w ↦ rw w.entries-is (moved_on c.args.entries.now c.loop-b.entries w.sort_bucket.new.entries v w.sort_bucket.ensures) | then-hi-entries+else-lo-hi w ↦ rw w.entries-is v | else-hi-entries w ↦ rw w.entries-is v ]
