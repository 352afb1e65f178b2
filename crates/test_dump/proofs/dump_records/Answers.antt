use Prim.Native.Nat.{◌-◌}
use native.Mathlib.Omega.{arith}
use Rattle.records.proofs.Readings.{part-readable, reads-readable}
use Rattle.records.proofs.Searches.{meets}
use Rattle.test_dump.proofs.dump_records.Goals as goal

pub next_record-requires : goal.next_record-requires
next_record-requires c =
    (part-readable c.args.s.now c.loop-p.i c.loop-p.invariant.1)

pub overflow_add-a : goal.overflow_add-a
overflow_add-a c =
    let m = meets c.args.s.now c.loop-p.i c.next_record.result c.loop-p.invariant.0 c.loop-p.invariant.1 c.next_record.ensures c.in-Some.is in omega (arith, m.stand.filled, m.stand.within, m.stand.inside)

pub overflow_add-e : goal.overflow_add-e
overflow_add-e c =
    let m = meets c.args.s.now c.loop-p.i c.next_record.result c.loop-p.invariant.0 c.loop-p.invariant.1 c.next_record.ensures c.in-Some.is in omega (arith, m.stand.filled, m.stand.within, m.stand.inside)

pub slice_bounds-dump_record-count : goal.slice_bounds-dump_record-count
slice_bounds-dump_record-count c =
    let m = meets c.args.s.now c.loop-p.i c.next_record.result c.loop-p.invariant.0 c.loop-p.invariant.1 c.next_record.ensures c.in-Some.is in omega (arith, m.stand.filled, m.stand.within, m.stand.inside)

pub slice_bounds-dump_record-start : goal.slice_bounds-dump_record-start
slice_bounds-dump_record-start c =
    let m = meets c.args.s.now c.loop-p.i c.next_record.result c.loop-p.invariant.0 c.loop-p.invariant.1 c.next_record.ensures c.in-Some.is in omega (arith, m.stand.filled, m.stand.within, m.stand.inside)

pub slice_bounds-dump_record-end : goal.slice_bounds-dump_record-end
slice_bounds-dump_record-end c =
    let m = meets c.args.s.now c.loop-p.i c.next_record.result c.loop-p.invariant.0 c.loop-p.invariant.1 c.next_record.ensures c.in-Some.is in omega (arith, m.stand.filled, m.stand.within, m.stand.inside)

pub dump_record-requires : goal.dump_record-requires
dump_record-requires c =
    let m = meets c.args.s.now c.loop-p.i c.next_record.result c.loop-p.invariant.0 c.loop-p.invariant.1 c.next_record.ensures c.in-Some.is in (reads-readable m.stand.own-reads)

pub overflow_add-i : goal.overflow_add-i
overflow_add-i c =
    let m = meets c.args.s.now c.loop-p.i c.next_record.result c.loop-p.invariant.0 c.loop-p.invariant.1 c.next_record.ensures c.in-Some.is in omega (arith, m.stand.filled, m.stand.within, m.stand.inside)

pub loop-p-smaller : goal.loop-p-smaller
loop-p-smaller c =
    let m = meets c.args.s.now c.loop-p.i c.next_record.result c.loop-p.invariant.0 c.loop-p.invariant.1 c.next_record.ensures c.in-Some.is in omega (arith, m.stand.filled, m.stand.within, m.stand.inside)

pub loop-p-preserved : goal.loop-p-preserved
loop-p-preserved c =
    let m = meets c.args.s.now c.loop-p.i c.next_record.result c.loop-p.invariant.0 c.loop-p.invariant.1 c.next_record.ensures c.in-Some.is in (m.stand.inside, m.stand.readable)
