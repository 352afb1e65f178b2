use native.Mathlib.Omega.{arith}
use lib.ListN.{length-set}
use Rattle.terms.proofs.Merging.{merged-start, merged-twin, merged-next, merged-end, merged-none}
use Rattle.terms.proofs.merge.Goals as goal

pub returns-then-entries-eq0 : goal.returns-then-entries-eq0
returns-then-entries-eq0 c =
    merged-none c.args.s.now c.args.entries.now c.if-entries-eq0.true

pub loop-i-init : goal.loop-i-init
loop-i-init c =
    merged-start c.args.s.now c.args.entries.now (omega arith) (c.requires)

pub bounds-entries-last : goal.bounds-entries-last
bounds-entries-last c =
    let b = c.loop-i.invariant.behind in
    omega arith

pub is_twin-requires : goal.is_twin-requires
is_twin-requires c =
    let b = c.loop-i.invariant.behind in
    (c.loop-i.invariant.entries c.loop-i.last (omega arith), c.loop-i.invariant.entries c.loop-i.i c.loop-i-test.true)

pub loop-i-preserved-then-is_twin : goal.loop-i-preserved-then-is_twin
loop-i-preserved-then-is_twin c =
    merged-twin c.args.s.now c.args.entries.now c.loop-i.entries c.loop-i.last c.loop-i.i c.loop-i.invariant c.loop-i-test.true (c.is_twin.ensures c.if-is_twin.true)

pub overflow_add-last : goal.overflow_add-last
overflow_add-last c =
    let b = c.loop-i.invariant.behind in
    omega arith

pub bounds-entries-last-else-is_twin : goal.bounds-entries-last-else-is_twin
bounds-entries-last-else-is_twin c =
    let b = c.loop-i.invariant.behind in
    omega arith

pub loop-i-smaller : goal.loop-i-smaller
loop-i-smaller c = simp length-set (omega arith)

pub loop-i-preserved : goal.loop-i-preserved
loop-i-preserved c =
    merged-next c.args.s.now c.args.entries.now c.loop-i.entries c.loop-i.last c.loop-i.i c.loop-i.invariant c.loop-i-test.true

pub overflow_add-result : goal.overflow_add-result
overflow_add-result c =
    let b = c.loop-i.invariant.behind in
    let h = c.loop-i.invariant.inside in
    omega arith

pub returns : goal.returns
returns c =
    let b = c.loop-i.invariant.behind in
    let h = c.loop-i.invariant.inside in
    (omega arith, λ q g. c.loop-i.invariant.entries q (omega arith), merged-end c.args.s.now c.args.entries.now c.loop-i.entries c.loop-i.last c.loop-i.i c.loop-i.invariant c.loop-i-test.false)
