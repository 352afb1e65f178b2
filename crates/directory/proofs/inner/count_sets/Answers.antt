use native.Mathlib.Omega.{arith}
use Rattle.records.proofs.Readings.{part-readable}
use Rattle.directory.proofs.Entries.{counted-first, counted-all, counted-inside, counted-moves, counted-on}
use Rattle.directory.proofs.inner.count_sets.Goals as goal

pub loop-q-init : goal.loop-q-init
loop-q-init c =
    counted-first c.args.s.now c.requires c.next_members-m.result c.next_members-m.ensures

pub next_set-requires : goal.next_set-requires
next_set-requires c =
    part-readable c.args.s.now c.loop-q.i c.loop-q.invariant.begins.readable

pub returns-in_default : goal.returns-in_default
returns-in_default c =
    counted-all c.args.s.now c.requires c.loop-q.n c.loop-q.i c.loop-q.invariant c.next_set.result c.next_set.ensures c.in_default.is

pub overflow_add-n : goal.overflow_add-n
overflow_add-n c =
    omega (arith, c.loop-q.invariant.few, c.loop-q.invariant.begins.inside)

pub overflow_add-i : goal.overflow_add-i
overflow_add-i c =
    omega (arith, counted-inside c.args.s.now c.requires c.loop-q.n c.loop-q.i c.loop-q.invariant c.next_set.result c.next_set.ensures c.in-Some.q c.in-Some.is)

pub loop-q-smaller : goal.loop-q-smaller
loop-q-smaller c =
    omega (arith, counted-inside c.args.s.now c.requires c.loop-q.n c.loop-q.i c.loop-q.invariant c.next_set.result c.next_set.ensures c.in-Some.q c.in-Some.is, counted-moves c.args.s.now c.requires c.loop-q.n c.loop-q.i c.loop-q.invariant c.next_set.result c.next_set.ensures c.in-Some.q c.in-Some.is)

pub loop-q-preserved : goal.loop-q-preserved
loop-q-preserved c =
    counted-on c.args.s.now c.requires c.loop-q.n c.loop-q.i c.loop-q.invariant c.next_set.result c.next_set.ensures c.in-Some.q c.in-Some.is
