use Prim.Native.Nat.{◌+◌}
use mathlib.Core.Path.{refl, sym, ap, ◌∙◌}
use lib.ListN.{length}
use lib.Seq.{length-take-le}
use native.Mathlib.Omega.{arith}
use Rattle.joints.proofs.Joints.{dense-start, dense-end, dense-next, line-within}
use Rattle.joints.proofs.make_dense.Goals as goal

pub loop-i-init : goal.loop-i-init
loop-i-init c =
    dense-start c.args.text.now c.args.used

pub slice_bounds-line_len-end : goal.slice_bounds-line_len-end
slice_bounds-line_len-end c =
    omega (arith, c.loop-i.invariant.size, c.requires.0)

pub overflow_add-end : goal.overflow_add-end
overflow_add-end c =
    omega (arith, c.requires.0, line-within c.loop-i.invariant c.requires.0 c.requires.1 c.loop-i-test.true c.line_len.result c.line_len.ensures)

pub overflow_add-end-in-loop-i : goal.overflow_add-end-in-loop-i
overflow_add-end-in-loop-i c =
    omega (arith, c.requires.0, line-within c.loop-i.invariant c.requires.0 c.requires.1 c.loop-i-test.true c.line_len.result c.line_len.ensures)

pub keep_line-n-requires : goal.keep_line-n-requires
keep_line-n-requires c =
    let w = line-within c.loop-i.invariant c.requires.0 c.requires.1 c.loop-i-test.true c.line_len.result c.line_len.ensures in (c.loop-i.invariant.low, omega (arith, w), omega (arith, w, c.loop-i.invariant.size, c.requires.0))

pub loop-i-smaller : goal.loop-i-smaller
loop-i-smaller c =
    let w = line-within c.loop-i.invariant c.requires.0 c.requires.1 c.loop-i-test.true c.line_len.result c.line_len.ensures in omega (arith, w)

pub loop-i-preserved : goal.loop-i-preserved
loop-i-preserved c =
    dense-next c.loop-i.invariant c.requires.0 c.requires.1 c.loop-i-test.true c.line_len.result c.line_len.ensures (c.loop-i.i + c.line_len.result + 1) refl _ c.keep_line-n.result c.keep_line-n.ensures.text_after c.keep_line-n.ensures.value

pub shape_of-text : goal.shape_of-text
shape_of-text c =
    c.loop-i.invariant.size

pub returns : goal.returns
returns c =
    let d = dense-end c.loop-i.invariant c.requires.0 c.requires.1 (omega (arith, c.loop-i-test.false)) in (omega (arith, c.loop-i.invariant.low, c.loop-i.invariant.high), sym (length-take-le c.loop-i.n c.loop-i.text (omega (arith, c.loop-i.invariant.low, c.loop-i.invariant.high, c.loop-i.invariant.size, c.requires.0))) ∙ ap length d, d)
