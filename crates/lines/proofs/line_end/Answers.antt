use native.Mathlib.Omega.{arith}
use mathlib.Core.Path.{refl}
use Rattle.lines.proofs.Cuts.{line-more, line-stop, line-at-inside}
use Rattle.lines.proofs.line_end.Goals as goal

pub loop-at-init : goal.loop-at-init
loop-at-init c =
    (c.requires.i_in_bounds, refl)

pub returns-then-s-at-eq10 : goal.returns-then-s-at-eq10
returns-then-s-at-eq10 c =
    (omega (arith, line-stop c.args.s.now c.loop-at.at c.loop-at.invariant.0 c.if-s-at-eq10.true), c.if-s-at-eq10.true)

pub loop-at-preserved : goal.loop-at-preserved
loop-at-preserved c =
    let m = line-more c.args.s.now c.loop-at.at c.loop-at.invariant.0 c.if-s-at-eq10.false in
    (omega (arith, m, line-at-inside c.args.s.now c.loop-at.at c.requires.s_value c.loop-at.invariant.0), omega (arith, m))
