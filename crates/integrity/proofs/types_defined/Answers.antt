use borrow.Author.Tests.{not-true, not-false}
use Prim.Native.Nat.{◌-◌}
use native.Mathlib.Omega.{arith}
use mathlib.Core.Path.{refl}
use lib.ListN.{get_or}
use Rattle.words.proofs.Spans.{span-length}
use Rattle.integrity.proofs.Granting.{types-start, types-end, types-row, types-formed, types-stop, types-on}
use mathlib.Core.Bool.{not}
use mathlib.Core.Path.{ap}
use Rattle.integrity.proofs.types_defined.Goals as goal

pub loop-k-init : goal.loop-k-init
loop-k-init c =
    (types-start c.args.s.now c.args.starts.now c.args.ends.now c.args.count c.requires.head_parts.0 c.requires.s_value.0 c.requires.s_value.1, refl)

pub bounds-starts-k : goal.bounds-starts-k
bounds-starts-k c =
    omega (arith, c.loop-k-test.true, c.loop-k.invariant.0.rows.begun)

pub bounds-ends-k : goal.bounds-ends-k
bounds-ends-k c =
    omega (arith, c.loop-k-test.true, c.loop-k.invariant.0.rows.ended)

pub slice_bounds-typed_well-count : goal.slice_bounds-typed_well-count
slice_bounds-typed_well-count c =
    let r = types-row c.loop-k.invariant.0 c.loop-k-test.true in omega (arith, r.filled)

pub slice_bounds-typed_well-start : goal.slice_bounds-typed_well-start
slice_bounds-typed_well-start c =
    let r = types-row c.loop-k.invariant.0 c.loop-k-test.true in omega (arith, r.filled)

pub slice_bounds-typed_well-end : goal.slice_bounds-typed_well-end
slice_bounds-typed_well-end c =
    let r = types-row c.loop-k.invariant.0 c.loop-k-test.true in omega (arith, r.within, r.inside)

pub typed_well-requires : goal.typed_well-requires
typed_well-requires c =
    let r = types-row c.loop-k.invariant.0 c.loop-k-test.true in
    let a = get_or c.args.starts.now c.loop-k.k 0 in
    let e = get_or c.args.ends.now c.loop-k.k 0 in
    let short = span-length c.args.s.now a e (omega (arith, r.filled)) (omega (arith, r.within, r.inside)) in
    record { formed = (types-formed c.loop-k.invariant.0 c.loop-k-test.true, omega (arith, short, c.requires.head_parts.1, r.within, r.inside)); value_bytes_in_bounds = omega (arith, c.requires.value_bytes_in_bounds, c.loop-k.invariant.1) }

pub shape_of-scratch-then-not-typed_well : goal.shape_of-scratch-then-not-typed_well
shape_of-scratch-then-not-typed_well c =
    omega (arith, c.typed_well.auto.scratch, c.loop-k.invariant.1)

pub returns-then-not-typed_well : goal.returns-then-not-typed_well
returns-then-not-typed_well c =
    types-stop c.loop-k.invariant.0 c.loop-k-test.true c.typed_well.result c.typed_well.ensures (not-true c.typed_well.result (ap not c.if-not-typed_well.true))

pub loop-k-preserved : goal.loop-k-preserved
loop-k-preserved c =
    (types-on c.loop-k.invariant.0 c.loop-k-test.true c.typed_well.result c.typed_well.ensures (not-false c.typed_well.result (ap not c.if-not-typed_well.false)), omega (arith, c.typed_well.auto.scratch, c.loop-k.invariant.1))

pub shape_of-scratch : goal.shape_of-scratch
shape_of-scratch c =
    c.loop-k.invariant.1

pub returns : goal.returns
returns c =
    types-end c.loop-k.invariant.0 c.loop-k-test.false
