use Prim.Native.Nat.{◌-◌}
use native.Mathlib.Omega.{arith}
use mathlib.Core.Path.{refl}
use Rattle.sorting.specs.Moves.{none}
use Rattle.sorting.proofs.Moves.{moved_length, moved_on, moved-swapped}
use Rattle.sorting.proofs.insert.Goals as goal

pub loop-at-init : goal.loop-at-init
loop-at-init c =
    (none, c.requires, refl)

pub loop-at-preserved : goal.loop-at-preserved
loop-at-preserved c =
    let l = c.loop-at.entries in
    let m = moved-swapped l c.swap.new.entries c.loop-at.at (c.loop-at.at - 1) c.loop-at.invariant.1 (omega (arith, c.loop-at.invariant.1)) c.swap.ensures in
    let v = moved_on c.args.entries.now l c.swap.new.entries c.loop-at.invariant.0 m in
    (v, omega (arith, moved_length l c.swap.new.entries m, c.loop-at.invariant.1), moved_length c.args.entries.now c.swap.new.entries v)

pub shape_of-entries-else-is_before : goal.shape_of-entries-else-is_before
shape_of-entries-else-is_before c =
    c.loop-at.invariant.2

pub returns-else-is_before : goal.returns-else-is_before
returns-else-is_before c =
    c.loop-at.invariant.0

pub shape_of-entries : goal.shape_of-entries
shape_of-entries c =
    c.loop-at.invariant.2

pub returns : goal.returns
returns c =
    c.loop-at.invariant.0
