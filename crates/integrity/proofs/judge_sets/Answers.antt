use borrow.Author.Rules.{rules}
use Prim.Native.Nat.{◌-◌}
use native.Mathlib.Omega.{arith}
use mathlib.Core.Path.{refl}
use lib.ListN.{get_or}
use Rattle.format.specs.Refusals.{no_of}
use Rattle.words.proofs.Spans.{span-length}
use Rattle.integrity.proofs.Granting.{sets-start, sets_end, sets-row, sets-rules, sets-members, members-fit, sets-on}
use Rattle.integrity.proofs.judge_sets.Goals as goal

pub loop-k-init : goal.loop-k-init
loop-k-init c =
    (sets-start c.args.s.now c.args.starts.now c.args.ends.now c.args.afters.now c.args.count c.requires.head_rows c.requires.granted, refl, refl)

pub bounds-starts-k : goal.bounds-starts-k
bounds-starts-k c =
    omega (arith, c.loop-k-test.true, c.loop-k.invariant.0.rows.begun)

pub bounds-ends-k : goal.bounds-ends-k
bounds-ends-k c =
    omega (arith, c.loop-k-test.true, c.loop-k.invariant.0.rows.ended)

pub bounds-afters-k : goal.bounds-afters-k
bounds-afters-k c =
    omega (arith, c.loop-k-test.true, c.loop-k.invariant.0.rows.passed)

pub members_end-next-requires : goal.members_end-next-requires
members_end-next-requires c =
    c.loop-k.invariant.0.rows.begun

pub slice_bounds-d-count : goal.slice_bounds-d-count
slice_bounds-d-count c =
    let r = sets-row c.loop-k.invariant.0 c.loop-k-test.true in omega (arith, r.filled)

pub slice_bounds-d-start : goal.slice_bounds-d-start
slice_bounds-d-start c =
    let r = sets-row c.loop-k.invariant.0 c.loop-k-test.true in omega (arith, r.filled)

pub slice_bounds-d-end : goal.slice_bounds-d-end
slice_bounds-d-end c =
    let r = sets-row c.loop-k.invariant.0 c.loop-k-test.true in omega (arith, r.within, r.inside)

pub slice_bounds-judge_set-count : goal.slice_bounds-judge_set-count
slice_bounds-judge_set-count c =
    let m = sets-members c.loop-k.invariant.0 c.loop-k-test.true c.members_end-next.result c.members_end-next.ensures in m.ordered

pub slice_bounds-judge_set-start : goal.slice_bounds-judge_set-start
slice_bounds-judge_set-start c =
    let m = sets-members c.loop-k.invariant.0 c.loop-k-test.true c.members_end-next.result c.members_end-next.ensures in m.ordered

pub slice_bounds-judge_set-end : goal.slice_bounds-judge_set-end
slice_bounds-judge_set-end c =
    let m = sets-members c.loop-k.invariant.0 c.loop-k-test.true c.members_end-next.result c.members_end-next.ensures in m.inside

pub judge_set-n-requires : goal.judge_set-n-requires
judge_set-n-requires c =
    let r = sets-row c.loop-k.invariant.0 c.loop-k-test.true in let m = sets-members c.loop-k.invariant.0 c.loop-k-test.true c.members_end-next.result c.members_end-next.ensures in
    record { rules = (sets-rules c.loop-k.invariant.0 c.loop-k-test.true, omega (arith, span-length c.args.s.now (get_or c.args.starts.now c.loop-k.k 0) (get_or c.args.ends.now c.loop-k.k 0) (omega (arith, r.filled)) (omega (arith, r.within, r.inside)), r.within, r.inside, c.requires.s_len_bound)); part_value = (m.reads, omega (arith, span-length c.args.s.now (get_or c.args.afters.now c.loop-k.k 0) c.members_end-next.result m.ordered m.inside, m.inside, c.requires.s_len_bound), members-fit c.loop-k.invariant.0 c.loop-k-test.true c.members_end-next.result c.members_end-next.ensures); value_bytes_in_bounds = (omega (arith, c.requires.value_bytes_in_bounds, c.loop-k.invariant.1), omega (arith, c.loop-k.invariant.2)) }

pub loop-k-preserved : goal.loop-k-preserved
loop-k-preserved c =
    (sets-on c.loop-k.invariant.0 c.loop-k-test.true c.members_end-next.result c.members_end-next.ensures (no_of c.judge_set-n.result) (no_of c.lesser-worst.result) c.judge_set-n.ensures c.lesser-worst.ensures, omega (arith, c.judge_set-n.auto.scratch, c.loop-k.invariant.1), omega (arith, c.judge_set-n.auto.entries, c.loop-k.invariant.2))

pub shape_of-scratch : goal.shape_of-scratch
shape_of-scratch c =
    c.loop-k.invariant.1

pub returns : goal.returns
returns c =
    sets_end c.loop-k.invariant.0 c.loop-k-test.false
