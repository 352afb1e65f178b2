use native.Mathlib.Omega.{arith}
use mathlib.Core.Path.{◌≡◌, ap, sym, ◌∙◌}
use Rattle.records.specs.Places.{places_of, count_before}
use Rattle.records.specs.Sets.{set_end}
use Rattle.records.proofs.Readings.{part-readable}
use Rattle.records.proofs.Searches.{places-all, meets, count-end, count-stops, count-more}
use Rattle.records.proofs.SetEnds.{end-nothing, end-stops, end_later}
use Rattle.records.proofs.next_members.Goals as goal

pub loop-p-init : goal.loop-p-init
loop-p-init c =
    (omega arith, c.requires, omega arith, omega (arith, ap count_before (places-all c.args.s.now)), ap (set_end 0) (places-all c.args.s.now))

pub next_record-requires : goal.next_record-requires
next_record-requires c =
    part-readable c.args.s.now c.loop-p.end c.loop-p.invariant.1

pub returns-in_default : goal.returns-in_default
returns-in_default c =
    let m = meets c.args.s.now c.loop-p.end c.next_record.result c.loop-p.invariant.0 c.loop-p.invariant.1 c.next_record.ensures c.in_default.is in
    let n : c.loop-p.count ≡ count_before (places_of c.args.s.now) = omega (arith, c.loop-p.invariant.3, count-end c.args.s.now c.loop-p.end m) in
    let e : c.loop-p.end ≡ set_end 0 (places_of c.args.s.now) = sym (c.loop-p.invariant.4 ∙ end-nothing c.args.s.now c.loop-p.end m) in
    λ i. record { count = n i; end = e i }

pub returns-then-p : goal.returns-then-p
returns-then-p c =
    let m = meets c.args.s.now c.loop-p.end c.next_record.result c.loop-p.invariant.0 c.loop-p.invariant.1 c.next_record.ensures c.in-Some.is in
    let n : c.loop-p.count ≡ count_before (places_of c.args.s.now) = omega (arith, c.loop-p.invariant.3, count-stops c.args.s.now c.loop-p.end c.in-Some.p m c.if-p.true) in
    let e : c.loop-p.end ≡ set_end 0 (places_of c.args.s.now) = sym (c.loop-p.invariant.4 ∙ end-stops c.args.s.now c.loop-p.end c.in-Some.p m c.if-p.true) in
    λ i. record { count = n i; end = e i }

pub overflow_add-count : goal.overflow_add-count
overflow_add-count c =
    let m = meets c.args.s.now c.loop-p.end c.next_record.result c.loop-p.invariant.0 c.loop-p.invariant.1 c.next_record.ensures c.in-Some.is in
    omega (arith, c.loop-p.invariant.2, c.loop-p.invariant.0, m.stand.filled, m.stand.within, m.stand.inside)

pub overflow_add-end : goal.overflow_add-end
overflow_add-end c =
    let m = meets c.args.s.now c.loop-p.end c.next_record.result c.loop-p.invariant.0 c.loop-p.invariant.1 c.next_record.ensures c.in-Some.is in
    omega (arith, m.stand.inside)

pub loop-p-smaller : goal.loop-p-smaller
loop-p-smaller c =
    let m = meets c.args.s.now c.loop-p.end c.next_record.result c.loop-p.invariant.0 c.loop-p.invariant.1 c.next_record.ensures c.in-Some.is in
    omega (arith, m.stand.filled, m.stand.within, m.stand.inside)

pub loop-p-preserved : goal.loop-p-preserved
loop-p-preserved c =
    let m = meets c.args.s.now c.loop-p.end c.next_record.result c.loop-p.invariant.0 c.loop-p.invariant.1 c.next_record.ensures c.in-Some.is in
    (m.stand.inside, m.stand.readable, omega (arith, c.loop-p.invariant.2, m.stand.filled, m.stand.within), omega (arith, c.loop-p.invariant.3, count-more c.args.s.now c.loop-p.end c.in-Some.p m c.if-p.false), c.loop-p.invariant.4 ∙ end_later c.args.s.now c.loop-p.end c.in-Some.p m c.if-p.false)
