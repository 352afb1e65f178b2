use Prim.Native.Nat.{◌+◌, ◌<◌}
use native.Mathlib.Omega.{arith}
use mathlib.Core.Bool.{true, false}
use borrow.Author.Tests.{eq-eqb, ne_eqb}
use lib.ListN.{length}
use Rattle.lines.proofs.Cuts.{line-le, line-inside, line-at-inside}
use Rattle.lines.proofs.Extents.{extent-step, extent-end, extent-plus, extent-past, extent-from, newline-before}
use Rattle.lines.proofs.field_extent.Goals as goal

pub loop-i-init : goal.loop-i-init
loop-i-init c =
    let s = c.args.s.now in
    let g = c.requires.goes_on in
    let some : 0 < length s = omega (arith, g.0, g.1, line-le s) in
    let h : c.args.at < length s = omega (arith, g.1, line-inside s c.requires.s_value some) in
    (h, g.0, g.2, extent-from s c.args.at h g)

pub line_end-e-requires : goal.line_end-e-requires
line_end-e-requires c =
    record { s_value = c.requires.s_value; i_in_bounds = c.loop-i.invariant.0 }

pub overflow_sub-taken : goal.overflow_sub-taken
overflow_sub-taken c =
    omega (arith, c.line_end-e.ensures.0, c.loop-i.invariant.1)

pub bounds-s-e : goal.bounds-s-e
bounds-s-e c =
    omega (arith, c.line_end-e.ensures.0, line-at-inside c.args.s.now c.loop-i.i c.requires.s_value c.loop-i.invariant.0)

pub overflow_add-i : goal.overflow_add-i
overflow_add-i c =
    omega (arith, c.line_end-e.ensures.0, line-at-inside c.args.s.now c.loop-i.i c.requires.s_value c.loop-i.invariant.0)

pub returns-then-taken : goal.returns-then-taken
returns-then-taken c =
    rw (c.loop-i.invariant.3, extent-past c.args.s.now c.loop-i.i c.line_end-e.result c.loop-i.invariant.0 c.loop-i.invariant.1 c.loop-i.invariant.2 c.line_end-e.ensures.0, c.if-taken.true, extent-end c.args.s.now true (c.line_end-e.result + 1) (omega (arith, c.if-i-s.true)))

pub returns-then-i-s : goal.returns-then-i-s
returns-then-i-s c =
    rw (c.loop-i.invariant.3, extent-past c.args.s.now c.loop-i.i c.line_end-e.result c.loop-i.invariant.0 c.loop-i.invariant.1 c.loop-i.invariant.2 c.line_end-e.ensures.0, ne_eqb _ _ c.if-taken.false, extent-end c.args.s.now false (c.line_end-e.result + 1) (omega (arith, c.if-i-s.true)))

pub bounds-s-i : goal.bounds-s-i
bounds-s-i c =
    omega (arith, c.line_end-e.ensures.0, c.if-i-s.false, line-at-inside c.args.s.now c.loop-i.i c.requires.s_value c.loop-i.invariant.0)

pub returns-then-s-i-ne43 : goal.returns-then-s-i-ne43
returns-then-s-i-ne43 c =
    rw (c.loop-i.invariant.3, extent-past c.args.s.now c.loop-i.i c.line_end-e.result c.loop-i.invariant.0 c.loop-i.invariant.1 c.loop-i.invariant.2 c.line_end-e.ensures.0, ne_eqb _ _ c.if-not-taken.true, extent-step c.args.s.now false (c.line_end-e.result + 1) (omega (arith, c.line_end-e.ensures.0, c.if-i-s.false, line-at-inside c.args.s.now c.loop-i.i c.requires.s_value c.loop-i.invariant.0)), ne_eqb _ _ c.if-s-i-ne43.true)

pub loop-i-smaller-else-s-i-ne43 : goal.loop-i-smaller-else-s-i-ne43
loop-i-smaller-else-s-i-ne43 c =
    omega (arith, c.line_end-e.ensures.0, line-at-inside c.args.s.now c.loop-i.i c.requires.s_value c.loop-i.invariant.0)

pub loop-i-preserved-else-s-i-ne43 : goal.loop-i-preserved-else-s-i-ne43
loop-i-preserved-else-s-i-ne43 c =
    let h : c.line_end-e.result + 1 < length c.args.s.now = omega (arith, c.line_end-e.ensures.0, c.if-i-s.false, line-at-inside c.args.s.now c.loop-i.i c.requires.s_value c.loop-i.invariant.0) in
    (h, omega arith, newline-before c.args.s.now c.line_end-e.result c.line_end-e.ensures.1, rw (c.loop-i.invariant.3, extent-past c.args.s.now c.loop-i.i c.line_end-e.result c.loop-i.invariant.0 c.loop-i.invariant.1 c.loop-i.invariant.2 c.line_end-e.ensures.0, ne_eqb _ _ c.if-not-taken.true, extent-plus c.args.s.now (c.line_end-e.result + 1) h c.if-s-i-ne43.false))

pub loop-i-smaller : goal.loop-i-smaller
loop-i-smaller c =
    omega (arith, c.line_end-e.ensures.0, line-at-inside c.args.s.now c.loop-i.i c.requires.s_value c.loop-i.invariant.0)

pub loop-i-preserved : goal.loop-i-preserved
loop-i-preserved c =
    (omega (arith, c.line_end-e.ensures.0, c.if-i-s.false, line-at-inside c.args.s.now c.loop-i.i c.requires.s_value c.loop-i.invariant.0), omega arith, newline-before c.args.s.now c.line_end-e.result c.line_end-e.ensures.1, rw (c.loop-i.invariant.3, extent-past c.args.s.now c.loop-i.i c.line_end-e.result c.loop-i.invariant.0 c.loop-i.invariant.1 c.loop-i.invariant.2 c.line_end-e.ensures.0, eq-eqb _ _ c.if-not-taken.false))
