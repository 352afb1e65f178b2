use Prim.Native.Nat.{◌+◌}
use native.Mathlib.Omega.{arith}
use mathlib.Core.Path.{ap, sym, ◌∙◌}
use Rattle.records.specs.Sets.{first_set}
use Rattle.records.proofs.Readings.{part-readable}
use Rattle.records.proofs.Searches.{places-all, meets}
use Rattle.records.proofs.Sets.{members-inside, set-none, set_here, set-later}
use Rattle.records.proofs.next_set.Goals as goal

pub loop-p-init : goal.loop-p-init
loop-p-init c =
    (omega arith, c.requires, ap first_set (places-all c.args.s.now))

pub next_record-requires : goal.next_record-requires
next_record-requires c =
    part-readable c.args.s.now c.loop-p.i c.loop-p.invariant.1

pub returns-in_err-p : goal.returns-in_err-p
returns-in_err-p c =
    c.from_residual.ensures ∙ sym (c.loop-p.invariant.2 ∙ set-none c.args.s.now c.loop-p.i (meets c.args.s.now c.loop-p.i c.next_record.result c.loop-p.invariant.0 c.loop-p.invariant.1 c.next_record.ensures c.in_err-p.was))

pub overflow_add-begin : goal.overflow_add-begin
overflow_add-begin c =
    let m = meets c.args.s.now c.loop-p.i c.next_record.result c.loop-p.invariant.0 c.loop-p.invariant.1 c.next_record.ensures c.in_ok-p.was in
    omega (arith, m.stand.inside)

pub slice_bounds-next_members-count : goal.slice_bounds-next_members-count
slice_bounds-next_members-count c =
    let m = meets c.args.s.now c.loop-p.i c.next_record.result c.loop-p.invariant.0 c.loop-p.invariant.1 c.next_record.ensures c.in_ok-p.was in
    omega (arith, m.stand.inside)

pub slice_bounds-next_members-start : goal.slice_bounds-next_members-start
slice_bounds-next_members-start c =
    let m = meets c.args.s.now c.loop-p.i c.next_record.result c.loop-p.invariant.0 c.loop-p.invariant.1 c.next_record.ensures c.in_ok-p.was in
    omega (arith, m.stand.inside)

pub next_members-m-requires : goal.next_members-m-requires
next_members-m-requires c =
    let m = meets c.args.s.now c.loop-p.i c.next_record.result c.loop-p.invariant.0 c.loop-p.invariant.1 c.next_record.ensures c.in_ok-p.was in
    part-readable c.args.s.now (c.loop-p.i + c.in_ok-p.p.after) m.stand.readable

pub overflow_add-result : goal.overflow_add-result
overflow_add-result c =
    let m = meets c.args.s.now c.loop-p.i c.next_record.result c.loop-p.invariant.0 c.loop-p.invariant.1 c.next_record.ensures c.in_ok-p.was in
    omega (arith, m.stand.filled, m.stand.within, m.stand.inside)

pub overflow_add-result-then-p : goal.overflow_add-result-then-p
overflow_add-result-then-p c =
    let m = meets c.args.s.now c.loop-p.i c.next_record.result c.loop-p.invariant.0 c.loop-p.invariant.1 c.next_record.ensures c.in_ok-p.was in
    omega (arith, m.stand.within, m.stand.inside)

pub overflow_add-result-then-p-2 : goal.overflow_add-result-then-p-2
overflow_add-result-then-p-2 c =
    let m = meets c.args.s.now c.loop-p.i c.next_record.result c.loop-p.invariant.0 c.loop-p.invariant.1 c.next_record.ensures c.in_ok-p.was in
    omega (arith, members-inside c.args.s.now (c.loop-p.i + c.in_ok-p.p.after) c.next_members-m.result c.next_members-m.ensures m.stand.inside m.stand.readable)

pub returns-then-p : goal.returns-then-p
returns-then-p c =
    let m = meets c.args.s.now c.loop-p.i c.next_record.result c.loop-p.invariant.0 c.loop-p.invariant.1 c.next_record.ensures c.in_ok-p.was in
    sym (c.loop-p.invariant.2 ∙ set_here c.args.s.now c.loop-p.i c.in_ok-p.p m c.next_members-m.result c.if-p.true c.next_members-m.ensures)

pub loop-p-smaller : goal.loop-p-smaller
loop-p-smaller c =
    let m = meets c.args.s.now c.loop-p.i c.next_record.result c.loop-p.invariant.0 c.loop-p.invariant.1 c.next_record.ensures c.in_ok-p.was in
    omega (arith, m.stand.filled, m.stand.within, m.stand.inside)

pub loop-p-preserved : goal.loop-p-preserved
loop-p-preserved c =
    let m = meets c.args.s.now c.loop-p.i c.next_record.result c.loop-p.invariant.0 c.loop-p.invariant.1 c.next_record.ensures c.in_ok-p.was in
    (m.stand.inside, m.stand.readable, c.loop-p.invariant.2 ∙ set-later c.args.s.now c.loop-p.i c.in_ok-p.p m c.if-p.false)
