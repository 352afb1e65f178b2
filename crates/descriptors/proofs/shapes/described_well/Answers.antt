use native.Mathlib.Omega.{arith}
use mathlib.Core.Path.{refl, sym, ◌∙◌}
use lib.Seq.{length-take-le}
use Rattle.descriptors.proofs.Walks.{walk-starts, walk-done, walk-stops, walk-head, row, part-fits}
use Rattle.descriptors.proofs.shapes.described_well.Goals as goal

pub loop-n-init : goal.loop-n-init
loop-n-init c =
    (walk-starts c.args.s.now c.args.starts.now c.args.ends.now c.args.count _ _ refl refl c.requires.head_parts.0 c.requires.head_parts.1 c.requires.s_value, refl)

pub bounds-starts-n : goal.bounds-starts-n
bounds-starts-n c =
    omega (arith, c.loop-n-test.true, c.loop-n.invariant.0.rows.begun)

pub bounds-ends-n : goal.bounds-ends-n
bounds-ends-n c =
    omega (arith, c.loop-n-test.true, c.loop-n.invariant.0.rows.ended)

pub slice_bounds-from-end : goal.slice_bounds-from-end
slice_bounds-from-end c =
    omega (arith, c.loop-n-test.true, c.loop-n.invariant.0.few, c.loop-n.invariant.0.room)

pub slice_bounds-head_of-end : goal.slice_bounds-head_of-end
slice_bounds-head_of-end c =
    sym (length-take-le c.loop-n.n c.loop-n.from (omega (arith, c.loop-n-test.true, c.loop-n.invariant.0.few, c.loop-n.invariant.0.room)))

pub slice_bounds-to-end : goal.slice_bounds-to-end
slice_bounds-to-end c =
    omega (arith, c.loop-n-test.true, c.loop-n.invariant.0.few, c.loop-n.invariant.0.room-beside)

pub slice_bounds-head_of-end-in-loop-n : goal.slice_bounds-head_of-end-in-loop-n
slice_bounds-head_of-end-in-loop-n c =
    sym (length-take-le c.loop-n.n c.loop-n.to (omega (arith, c.loop-n-test.true, c.loop-n.invariant.0.few, c.loop-n.invariant.0.room-beside)))

pub head_of-requires : goal.head_of-requires
head_of-requires c =
    let r = row c.args.s.now c.args.starts.now c.args.ends.now c.args.count c.loop-n.n c.loop-n.from c.loop-n.to c.loop-n.invariant.0 c.loop-n-test.true in record { a_le_e = (omega (arith, r.filled), omega (arith, r.within, r.inside)); s_value = r.own; s_value_2 = part-fits c.args.s.now c.args.starts.now c.args.ends.now c.args.count c.loop-n.n c.loop-n.from c.loop-n.to c.loop-n.invariant.0 c.loop-n-test.true; inside = c.loop-n.invariant.0.places; value_bytes_in_bounds = omega (arith, c.requires.value_bytes_in_bounds, c.loop-n.invariant.1) }

pub shape_of-scratch-in_default : goal.shape_of-scratch-in_default
shape_of-scratch-in_default c =
    c.head_of.ensures.1 ∙ c.loop-n.invariant.1

pub returns-in_default : goal.returns-in_default
returns-in_default c =
    (sym (walk-stops c.args.s.now c.args.starts.now c.args.ends.now c.args.count c.loop-n.n c.loop-n.from c.loop-n.to c.loop-n.invariant.0 c.loop-n-test.true c.head_of.result c.head_of.ensures.0 c.in_default.is), c.head_of.ensures.1 ∙ c.loop-n.invariant.1)

pub bounds-from-n : goal.bounds-from-n
bounds-from-n c =
    omega (arith, c.loop-n-test.true, c.loop-n.invariant.0.few, c.loop-n.invariant.0.room)

pub bounds-to-n : goal.bounds-to-n
bounds-to-n c =
    omega (arith, c.loop-n-test.true, c.loop-n.invariant.0.few, c.loop-n.invariant.0.room-beside)

pub loop-n-preserved : goal.loop-n-preserved
loop-n-preserved c =
    (walk-head c.args.s.now c.args.starts.now c.args.ends.now c.args.count c.loop-n.n c.loop-n.from c.loop-n.to c.loop-n.invariant.0 c.loop-n-test.true c.head_of.result c.head_of.ensures.0 c.in-Some.field-0.start c.in-Some.field-0.end c.in-Some.is, c.head_of.ensures.1 ∙ c.loop-n.invariant.1)

pub shape_of-scratch : goal.shape_of-scratch
shape_of-scratch c =
    c.loop-n.invariant.1

pub returns : goal.returns
returns c =
    (sym (walk-done c.args.s.now c.args.starts.now c.args.ends.now c.args.count c.loop-n.n c.loop-n.from c.loop-n.to c.loop-n.invariant.0 c.loop-n-test.false), c.loop-n.invariant.1)
