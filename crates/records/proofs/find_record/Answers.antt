use Prim.Native.Nat.{◌-◌}
use native.Mathlib.Omega.{arith}
use mathlib.Core.Path.{sym, ap, ◌∙◌}
use Rattle.records.specs.Places.{record_place}
use Rattle.records.proofs.Readings.{part-readable}
use Rattle.records.proofs.Searches.{places-all, meets, record-end, record-stops, record-here, record-later}
use Rattle.records.proofs.find_record.Goals as goal

pub loop-p-init : goal.loop-p-init
loop-p-init c =
    (omega arith, c.requires, ap (λ ps. record_place ps c.args.k) (places-all c.args.s.now))

pub next_record-requires : goal.next_record-requires
next_record-requires c =
    (part-readable c.args.s.now c.loop-p.i c.loop-p.invariant.1)

pub returns-in_err-p : goal.returns-in_err-p
returns-in_err-p c =
    c.from_residual.ensures ∙ sym (c.loop-p.invariant.2 ∙ record-end c.args.s.now c.loop-p.i c.loop-p.left (meets c.args.s.now c.loop-p.i c.next_record.result c.loop-p.invariant.0 c.loop-p.invariant.1 c.next_record.ensures c.in_err-p.was))

pub returns-then-p : goal.returns-then-p
returns-then-p c =
    let m = meets c.args.s.now c.loop-p.i c.next_record.result c.loop-p.invariant.0 c.loop-p.invariant.1 c.next_record.ensures c.in_ok-p.was in
    sym (c.loop-p.invariant.2 ∙ record-stops c.args.s.now c.loop-p.i c.in_ok-p.p m c.loop-p.left c.if-p.true)

pub overflow_add-result : goal.overflow_add-result
overflow_add-result c =
    let m = meets c.args.s.now c.loop-p.i c.next_record.result c.loop-p.invariant.0 c.loop-p.invariant.1 c.next_record.ensures c.in_ok-p.was in
    omega (arith, m.stand.filled, m.stand.within, m.stand.inside)

pub overflow_add-result-then-left-eq0 : goal.overflow_add-result-then-left-eq0
overflow_add-result-then-left-eq0 c =
    let m = meets c.args.s.now c.loop-p.i c.next_record.result c.loop-p.invariant.0 c.loop-p.invariant.1 c.next_record.ensures c.in_ok-p.was in
    omega (arith, m.stand.filled, m.stand.within, m.stand.inside)

pub overflow_add-result-then-left-eq0-2 : goal.overflow_add-result-then-left-eq0-2
overflow_add-result-then-left-eq0-2 c =
    let m = meets c.args.s.now c.loop-p.i c.next_record.result c.loop-p.invariant.0 c.loop-p.invariant.1 c.next_record.ensures c.in_ok-p.was in
    omega (arith, m.stand.inside)

pub returns-then-left-eq0 : goal.returns-then-left-eq0
returns-then-left-eq0 c =
    let m = meets c.args.s.now c.loop-p.i c.next_record.result c.loop-p.invariant.0 c.loop-p.invariant.1 c.next_record.ensures c.in_ok-p.was in
    sym (c.loop-p.invariant.2 ∙ record-here c.args.s.now c.loop-p.i c.in_ok-p.p m c.loop-p.left c.if-p.false c.if-left-eq0.true)

pub overflow_add-i : goal.overflow_add-i
overflow_add-i c =
    let m = meets c.args.s.now c.loop-p.i c.next_record.result c.loop-p.invariant.0 c.loop-p.invariant.1 c.next_record.ensures c.in_ok-p.was in
    omega (arith, m.stand.inside)

pub loop-p-smaller : goal.loop-p-smaller
loop-p-smaller c =
    let m = meets c.args.s.now c.loop-p.i c.next_record.result c.loop-p.invariant.0 c.loop-p.invariant.1 c.next_record.ensures c.in_ok-p.was in
    omega (arith, m.stand.filled, m.stand.within, m.stand.inside)

pub loop-p-preserved : goal.loop-p-preserved
loop-p-preserved c =
    let m = meets c.args.s.now c.loop-p.i c.next_record.result c.loop-p.invariant.0 c.loop-p.invariant.1 c.next_record.ensures c.in_ok-p.was in
    (m.stand.inside, m.stand.readable, c.loop-p.invariant.2 ∙ record-later c.args.s.now c.loop-p.i c.in_ok-p.p m c.loop-p.left (c.loop-p.left - 1) c.if-p.false (omega (arith, c.if-left-eq0.false)))
