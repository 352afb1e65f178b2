-- `numbering::bounds::exceed` meets its contract.
use native.Mathlib.Omega.{arith}
use Rattle.numbering.proofs.Bounding.{above-plus, above_zero, above-minus, above_low}
use Rattle.numbering.proofs.bounds.exceed.Goals as goal

pub overflow_add-result : goal.overflow_add-result
overflow_add-result c =
    omega (arith, above-plus c.args.x _ c.in-Plus.is, c.requires)

pub returns-then-floor-n : goal.returns-then-floor-n
returns-then-floor-n c =
    omega (arith, above-plus c.args.x _ c.in-Plus.is, c.if-floor-n.true)

pub returns-then-floor-gt0 : goal.returns-then-floor-gt0
returns-then-floor-gt0 c =
    omega (arith, above_low c.args.x _ c.in-Minus.is, c.if-floor-gt0.true)

pub returns-then-n-eq0 : goal.returns-then-n-eq0
returns-then-n-eq0 c =
    omega (arith, above_zero c.args.x _ c.in-Minus.is c.if-n-eq0.true, c.if-floor-gt0.false)

pub returns-else-floor-n : goal.returns-else-floor-n
returns-else-floor-n c =
    omega (arith, above-plus c.args.x _ c.in-Plus.is, c.if-floor-n.false)

pub returns-else-n-eq0 : goal.returns-else-n-eq0
returns-else-n-eq0 c =
    omega (arith, above-minus c.args.x _ c.in-Minus.is c.if-n-eq0.false, c.if-floor-gt0.false)
