use Prim.Native.Nat.{◌-◌}
use native.Mathlib.Omega.{arith}
use Rattle.records.proofs.Readings.{part-readable}
use Rattle.records.proofs.NextFields.{next-told}
use Rattle.test_dump.proofs.dump_record.Goals as goal

pub loop-start-init : goal.loop-start-init
loop-start-init c =
    (omega arith, c.requires)

pub next_field-requires : goal.next_field-requires
next_field-requires c =
    (part-readable c.args.s.now c.loop-start.i c.loop-start.invariant.1)

pub overflow_add-i : goal.overflow_add-i
overflow_add-i c =
    let h = next-told c.args.s.now c.loop-start.i c.next_field.result c.next_field.ensures c.in-Some.is in
    omega (arith, h.named, h.name-inside, h.inside)

pub overflow_add-i-in-loop-start : goal.overflow_add-i-in-loop-start
overflow_add-i-in-loop-start c =
    let h = next-told c.args.s.now c.loop-start.i c.next_field.result c.next_field.ensures c.in-Some.is in
    omega (arith, h.name-inside, h.inside)

pub slice_bounds-write_all-count : goal.slice_bounds-write_all-count
slice_bounds-write_all-count c =
    let h = next-told c.args.s.now c.loop-start.i c.next_field.result c.next_field.ensures c.in-Some.is in
    omega (arith, h.begins, h.moves, h.inside)

pub slice_bounds-write_all-start : goal.slice_bounds-write_all-start
slice_bounds-write_all-start c =
    let h = next-told c.args.s.now c.loop-start.i c.next_field.result c.next_field.ensures c.in-Some.is in
    omega (arith, h.begins, h.moves, h.inside)

pub slice_bounds-write_all-end-in-loop-start : goal.slice_bounds-write_all-end-in-loop-start
slice_bounds-write_all-end-in-loop-start c =
    let h = next-told c.args.s.now c.loop-start.i c.next_field.result c.next_field.ensures c.in-Some.is in
    omega (arith, h.begins, h.moves, h.inside)

pub overflow_add-i-in-loop-start-2 : goal.overflow_add-i-in-loop-start-2
overflow_add-i-in-loop-start-2 c =
    let h = next-told c.args.s.now c.loop-start.i c.next_field.result c.next_field.ensures c.in-Some.is in
    omega (arith, h.value-inside, h.inside)

pub overflow_add-i-in-loop-start-3 : goal.overflow_add-i-in-loop-start-3
overflow_add-i-in-loop-start-3 c =
    let h = next-told c.args.s.now c.loop-start.i c.next_field.result c.next_field.ensures c.in-Some.is in
    omega (arith, h.inside)

pub slice_bounds-dump_value-count : goal.slice_bounds-dump_value-count
slice_bounds-dump_value-count c =
    let h = next-told c.args.s.now c.loop-start.i c.next_field.result c.next_field.ensures c.in-Some.is in
    omega (arith, h.begins, h.moves, h.inside)

pub slice_bounds-dump_value-start : goal.slice_bounds-dump_value-start
slice_bounds-dump_value-start c =
    let h = next-told c.args.s.now c.loop-start.i c.next_field.result c.next_field.ensures c.in-Some.is in
    omega (arith, h.begins, h.moves, h.inside)

pub slice_bounds-dump_value-end : goal.slice_bounds-dump_value-end
slice_bounds-dump_value-end c =
    let h = next-told c.args.s.now c.loop-start.i c.next_field.result c.next_field.ensures c.in-Some.is in
    omega (arith, h.begins, h.moves, h.inside)

pub overflow_add-i-in-loop-start-4 : goal.overflow_add-i-in-loop-start-4
overflow_add-i-in-loop-start-4 c =
    let h = next-told c.args.s.now c.loop-start.i c.next_field.result c.next_field.ensures c.in-Some.is in
    omega (arith, h.inside)

pub loop-start-smaller : goal.loop-start-smaller
loop-start-smaller c =
    let h = next-told c.args.s.now c.loop-start.i c.next_field.result c.next_field.ensures c.in-Some.is in
    omega (arith, h.begins, h.moves, h.inside)

pub loop-start-preserved : goal.loop-start-preserved
loop-start-preserved c =
    let h = next-told c.args.s.now c.loop-start.i c.next_field.result c.next_field.ensures c.in-Some.is in
    (h.inside, h.readable)
