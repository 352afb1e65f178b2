use Prim.Native.Nat.{◌-◌}
use native.Mathlib.Omega.{arith}
use lib.ListN.{length}
use Rattle.records.proofs.Readings.{part-readable}
use Rattle.records.proofs.NextFields.{next-told}
use Rattle.splices.proofs.Left.{keeping-begins, keeping-readable, keeping-field, keeping-ends}
use Rattle.splices.proofs.cuts.keep_loose.Goals as goal

pub loop-start-init : goal.loop-start-init
loop-start-init c =
    keeping-begins c.args.part.now c.requires

pub next_field-f-requires : goal.next_field-f-requires
next_field-f-requires c =
    (part-readable c.loop-start.part c.loop-start.i (keeping-readable c.loop-start.invariant))

pub overflow_sub-last : goal.overflow_sub-last
overflow_sub-last c =
    omega (arith, c.loop-start.invariant.inside, c.loop-start.invariant.same)

pub move_down-requires : goal.move_down-requires
move_down-requires c =
    (c.loop-start.invariant.low, omega (arith, c.loop-start.invariant.inside, c.loop-start.invariant.same))

pub overflow_add-result : goal.overflow_add-result
overflow_add-result c =
    omega (arith, c.loop-start.invariant.low, c.loop-start.invariant.inside, c.loop-start.invariant.same, c.well_formed.0.0)

pub returns-in_default : goal.returns-in_default
returns-in_default c =
    let m = next-told c.loop-start.part c.loop-start.i c.next_field-f.result c.next_field-f.ensures c.in_default.is in
    keeping-ends c.loop-start.invariant (length c.loop-start.part - c.loop-start.i) (omega (arith, c.loop-start.invariant.inside, c.loop-start.invariant.same)) _ c.move_down.ensures (omega (arith, c.loop-start.invariant.inside, c.loop-start.invariant.same)) m

pub move_down-requires-in-loop-start : goal.move_down-requires-in-loop-start
move_down-requires-in-loop-start c =
    let m = next-told c.loop-start.part c.loop-start.i c.next_field-f.result c.next_field-f.ensures c.in-Some.is in
    (c.loop-start.invariant.low, omega (arith, m.begins, m.moves, m.inside))

pub overflow_add-n : goal.overflow_add-n
overflow_add-n c =
    let m = next-told c.loop-start.part c.loop-start.i c.next_field-f.result c.next_field-f.ensures c.in-Some.is in
    omega (arith, c.loop-start.invariant.low, m.begins, m.moves, m.inside, c.well_formed.0.0)

pub overflow_add-i : goal.overflow_add-i
overflow_add-i c =
    let m = next-told c.loop-start.part c.loop-start.i c.next_field-f.result c.next_field-f.ensures c.in-Some.is in
    omega (arith, m.inside, c.well_formed.0.0)

pub loop-start-smaller : goal.loop-start-smaller
loop-start-smaller c =
    let m = next-told c.loop-start.part c.loop-start.i c.next_field-f.result c.next_field-f.ensures c.in-Some.is in
    omega (arith, m.begins, m.moves, m.inside, c.loop-start.invariant.same)

pub loop-start-preserved : goal.loop-start-preserved
loop-start-preserved c =
    let m = next-told c.loop-start.part c.loop-start.i c.next_field-f.result c.next_field-f.ensures c.in-Some.is in
    keeping-field c.loop-start.invariant _ _ _ _ m _ c.move_down-in-loop-start.ensures
