use Prim.Native.Nat.{◌-◌}
use native.Mathlib.Omega.{arith}
use Rattle.sorting.specs.Moves.{none}
use Rattle.sorting.proofs.Moves.{moved_on, moved-swapped}
use Rattle.sorting.proofs.sort_part.Goals as goal

pub loop-end-init : goal.loop-end-init
loop-end-init c = none

pub loop-end-preserved : goal.loop-end-preserved
loop-end-preserved c =
    let l = c.loop-end.entries in
    let m = moved-swapped l c.swap.new.entries c.args.lo (c.loop-end.end - 1) (omega arith) (omega arith) c.swap.ensures in
    let k = moved_on l c.swap.new.entries c.sift.new.entries m c.sift.ensures in
    moved_on c.make_heap.new.entries l c.sift.new.entries c.loop-end.invariant k

pub returns : goal.returns
returns c =
    moved_on c.args.entries.now c.make_heap.new.entries c.loop-end.entries c.make_heap.ensures c.loop-end.invariant
