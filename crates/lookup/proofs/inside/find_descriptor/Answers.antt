use Prim.Native.Nat.{◌-◌}
use native.Mathlib.Omega.{arith}
use mathlib.Core.Path.{sym, ap, ◌∙◌}
use mathlib.Core.Bool.{true}
use Rattle.records.proofs.Readings.{part-readable}
use Rattle.records.proofs.Searches.{places-all}
use Rattle.records.proofs.Sets.{raise_set, sets-met}
use Rattle.lookup.specs.Names.{descriptor_at}
use Rattle.lookup.proofs.Names.{descriptor-none, descriptor-here, descriptor-later}
use Rattle.lookup.proofs.inside.find_descriptor.Goals as goal

pub loop-p-init : goal.loop-p-init
loop-p-init c =
    (omega arith, c.requires, ap (λ ps. descriptor_at ps c.args.k) (places-all c.args.s.now))

pub next_set-requires : goal.next_set-requires
next_set-requires c =
    part-readable c.args.s.now c.loop-p.i c.loop-p.invariant.1

pub returns-in_default : goal.returns-in_default
returns-in_default c =
    sym (c.loop-p.invariant.2 ∙ descriptor-none c.args.s.now c.loop-p.i c.loop-p.left (sets-met c.args.s.now c.loop-p.i c.next_set.result c.loop-p.invariant.0 c.loop-p.invariant.1 c.next_set.ensures c.in_default.is))

pub overflow_add-result : goal.overflow_add-result
overflow_add-result c =
    let m = sets-met c.args.s.now c.loop-p.i c.next_set.result c.loop-p.invariant.0 c.loop-p.invariant.1 c.next_set.ensures c.in-Some.is in
    omega (arith, m.stand.filled, m.stand.within, m.stand.inside)

pub overflow_add-result-then-left-eq0 : goal.overflow_add-result-then-left-eq0
overflow_add-result-then-left-eq0 c =
    let m = sets-met c.args.s.now c.loop-p.i c.next_set.result c.loop-p.invariant.0 c.loop-p.invariant.1 c.next_set.ensures c.in-Some.is in
    omega (arith, m.stand.filled, m.stand.within, m.stand.inside)

pub overflow_add-result-then-left-eq0-2 : goal.overflow_add-result-then-left-eq0-2
overflow_add-result-then-left-eq0-2 c =
    let m = sets-met c.args.s.now c.loop-p.i c.next_set.result c.loop-p.invariant.0 c.loop-p.invariant.1 c.next_set.ensures c.in-Some.is in
    omega (arith, m.stand.filled, m.stand.within, m.stand.inside)

pub returns-then-left-eq0 : goal.returns-then-left-eq0
returns-then-left-eq0 c =
    let m = sets-met c.args.s.now c.loop-p.i c.next_set.result c.loop-p.invariant.0 c.loop-p.invariant.1 c.next_set.ensures c.in-Some.is in
    sym (c.loop-p.invariant.2 ∙ descriptor-here c.args.s.now c.loop-p.i (raise_set c.loop-p.i c.in-Some.p) m c.loop-p.left c.if-left-eq0.true)

pub overflow_add-i : goal.overflow_add-i
overflow_add-i c =
    let m = sets-met c.args.s.now c.loop-p.i c.next_set.result c.loop-p.invariant.0 c.loop-p.invariant.1 c.next_set.ensures c.in-Some.is in
    omega (arith, m.behind.inside)

pub loop-p-smaller : goal.loop-p-smaller
loop-p-smaller c =
    let m = sets-met c.args.s.now c.loop-p.i c.next_set.result c.loop-p.invariant.0 c.loop-p.invariant.1 c.next_set.ensures c.in-Some.is in
    omega (arith, m.stand.filled, m.stand.within, m.behind.low, m.behind.inside)

pub loop-p-preserved : goal.loop-p-preserved
loop-p-preserved c =
    let m = sets-met c.args.s.now c.loop-p.i c.next_set.result c.loop-p.invariant.0 c.loop-p.invariant.1 c.next_set.ensures c.in-Some.is in
    (m.behind.inside, m.behind.readable, c.loop-p.invariant.2 ∙ descriptor-later c.args.s.now c.loop-p.i (raise_set c.loop-p.i c.in-Some.p) m c.loop-p.left (c.loop-p.left - 1) (omega (arith, c.if-left-eq0.false)))
