use native.Mathlib.Omega.{arith}
use mathlib.Core.Path.{sym, ap, ◌∙◌}
use Rattle.records.specs.Places.{places_of, descriptor_head}
use Rattle.records.proofs.Readings.{part-readable, reads-readable}
use Rattle.records.proofs.Searches.{places-all, meets, head-default, head-named, head-end, head-member, head-here, head-other}
use Rattle.records.proofs.find_head.Goals as goal
use Rattle.records.proofs.find_head.Goals.{then-p+else-opens_set, else-p}

pub returns-then-name-eq0 : goal.returns-then-name-eq0
returns-then-name-eq0 c =
    sym (head-default c.args.name.now (places_of c.args.s.now) c.if-name-eq0.true)

pub loop-p-init : goal.loop-p-init
loop-p-init c =
    (omega arith, c.requires, head-named c.args.name.now (places_of c.args.s.now) c.if-name-eq0.false ∙ ap (descriptor_head c.args.name.now) (places-all c.args.s.now))

pub next_record-requires : goal.next_record-requires
next_record-requires c =
    (part-readable c.args.s.now c.loop-p.i c.loop-p.invariant.1)

pub returns-in_err-p : goal.returns-in_err-p
returns-in_err-p c =
    c.from_residual.ensures ∙ sym (c.loop-p.invariant.2 ∙ head-end c.args.s.now c.loop-p.i c.args.name.now (meets c.args.s.now c.loop-p.i c.next_record.result c.loop-p.invariant.0 c.loop-p.invariant.1 c.next_record.ensures c.in_err-p.was))

pub overflow_add-a : goal.overflow_add-a
overflow_add-a c =
    let m = meets c.args.s.now c.loop-p.i c.next_record.result c.loop-p.invariant.0 c.loop-p.invariant.1 c.next_record.ensures c.in_ok-p.was in
    omega (arith, m.stand.filled, m.stand.within, m.stand.inside)

pub overflow_add-e : goal.overflow_add-e
overflow_add-e c =
    let m = meets c.args.s.now c.loop-p.i c.next_record.result c.loop-p.invariant.0 c.loop-p.invariant.1 c.next_record.ensures c.in_ok-p.was in
    omega (arith, m.stand.within, m.stand.inside)

pub slice_bounds-opens_set-count : goal.slice_bounds-opens_set-count
slice_bounds-opens_set-count c =
    let m = meets c.args.s.now c.loop-p.i c.next_record.result c.loop-p.invariant.0 c.loop-p.invariant.1 c.next_record.ensures c.in_ok-p.was in
    omega (arith, m.stand.filled)

pub slice_bounds-opens_set-start : goal.slice_bounds-opens_set-start
slice_bounds-opens_set-start c =
    let m = meets c.args.s.now c.loop-p.i c.next_record.result c.loop-p.invariant.0 c.loop-p.invariant.1 c.next_record.ensures c.in_ok-p.was in
    omega (arith, m.stand.filled)

pub slice_bounds-opens_set-end : goal.slice_bounds-opens_set-end
slice_bounds-opens_set-end c =
    let m = meets c.args.s.now c.loop-p.i c.next_record.result c.loop-p.invariant.0 c.loop-p.invariant.1 c.next_record.ensures c.in_ok-p.was in
    omega (arith, m.stand.within, m.stand.inside)

pub opens_set-requires : goal.opens_set-requires
opens_set-requires c =
    let m = meets c.args.s.now c.loop-p.i c.next_record.result c.loop-p.invariant.0 c.loop-p.invariant.1 c.next_record.ensures c.in_ok-p.was in
    (reads-readable m.stand.own-reads)

pub overflow_add-result : goal.overflow_add-result
overflow_add-result c =
    let m = meets c.args.s.now c.loop-p.i c.next_record.result c.loop-p.invariant.0 c.loop-p.invariant.1 c.next_record.ensures c.in_ok-p.was in
    omega (arith, m.stand.inside, c.well_formed.1.0.0)

pub returns-then-opens_set : goal.returns-then-opens_set
returns-then-opens_set c =
    let m = meets c.args.s.now c.loop-p.i c.next_record.result c.loop-p.invariant.0 c.loop-p.invariant.1 c.next_record.ensures c.in_ok-p.was in
    sym (c.loop-p.invariant.2 ∙ head-here c.args.s.now c.loop-p.i c.in_ok-p.p m c.args.name.now c.opens_set.result c.opens_set.ensures c.if-opens_set.true)

pub overflow_add-i : goal.overflow_add-i
overflow_add-i c =
    let m = meets c.args.s.now c.loop-p.i c.next_record.result c.loop-p.invariant.0 c.loop-p.invariant.1 c.next_record.ensures c.in_ok-p.was in
    omega (arith, m.stand.inside)

pub loop-p-smaller : goal.loop-p-smaller
loop-p-smaller c =
    let m = meets c.args.s.now c.loop-p.i c.next_record.result c.loop-p.invariant.0 c.loop-p.invariant.1 c.next_record.ensures c.in_ok-p.was in
    omega (arith, m.stand.filled, m.stand.within, m.stand.inside)

pub loop-p-preserved : goal.loop-p-preserved
loop-p-preserved c =
    let m = meets c.args.s.now c.loop-p.i c.next_record.result c.loop-p.invariant.0 c.loop-p.invariant.1 c.next_record.ensures c.in_ok-p.was in
    (m.stand.inside, m.stand.readable, c.loop-p.invariant.2 ∙ elim c.if-p.branch [ then-p+else-opens_set w ↦ head-other c.args.s.now c.loop-p.i c.in_ok-p.p m c.args.name.now w.opens_set.result w.opens_set.ensures w.if-opens_set.false | else-p w ↦ head-member c.args.s.now c.loop-p.i c.in_ok-p.p m c.args.name.now w.if-p.false ])
