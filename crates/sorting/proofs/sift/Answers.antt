use native.Mathlib.Omega.{arith}
use mathlib.Core.Path.{refl}
use Rattle.sorting.specs.Moves.{none}
use Rattle.sorting.proofs.Moves.{moved_length, moved_on, moved-swapped}
use Rattle.sorting.proofs.sift.Goals as goal

pub loop-root-init : goal.loop-root-init
loop-root-init c =
    (none, c.requires.0, refl)

pub shape_of-entries-then-end-left : goal.shape_of-entries-then-end-left
shape_of-entries-then-end-left c =
    c.loop-root.invariant.2

pub returns-then-end-left : goal.returns-then-end-left
returns-then-end-left c =
    c.loop-root.invariant.0

pub loop-root-preserved : goal.loop-root-preserved
loop-root-preserved c =
    let n = c.loop-root.invariant.2 in
    let h = c.requires.1 in
    let l = c.loop-root.entries in
    let v = moved_on c.args.entries.now l _ c.loop-root.invariant.0 (moved-swapped l _ c.loop-root.root c.last_child-child.result (omega arith) (omega arith) c.swap.ensures) in
    (v, omega arith, moved_length c.args.entries.now _ v)

pub shape_of-entries-else-is_before : goal.shape_of-entries-else-is_before
shape_of-entries-else-is_before c =
    c.loop-root.invariant.2

pub returns-else-is_before : goal.returns-else-is_before
returns-else-is_before c =
    c.loop-root.invariant.0

pub shape_of-entries : goal.shape_of-entries
shape_of-entries c =
    c.loop-root.invariant.2

pub returns : goal.returns
returns c =
    c.loop-root.invariant.0
