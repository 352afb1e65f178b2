-- `numbering::bounds::lower` meets its contract.
use native.Mathlib.Omega.{arith}
use Rattle.numbering.proofs.Bounding.{above-plus, above_zero, above-minus}
use Rattle.numbering.proofs.bounds.lower.Goals as goal

pub returns-then-end-limit : goal.returns-then-end-limit
returns-then-end-limit c =
    omega (arith, above-plus c.args.high _ c.in-Plus.is, c.if-end-limit.true)

pub returns-then-limit-eq0 : goal.returns-then-limit-eq0
returns-then-limit-eq0 c =
    omega (arith, c.if-limit-eq0.true)

pub returns-then-end-eq0 : goal.returns-then-end-eq0
returns-then-end-eq0 c =
    omega (arith, above_zero c.args.high _ c.in-Minus.is c.if-end-eq0.true, c.if-limit-eq0.false)

pub returns-else-end-limit : goal.returns-else-end-limit
returns-else-end-limit c =
    omega (arith, above-plus c.args.high _ c.in-Plus.is, c.if-end-limit.false)

pub returns-else-end-eq0 : goal.returns-else-end-eq0
returns-else-end-eq0 c =
    omega (arith, above-minus c.args.high _ c.in-Minus.is c.if-end-eq0.false)
