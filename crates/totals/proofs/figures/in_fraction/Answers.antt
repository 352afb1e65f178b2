-- A byte by the tests in their order.
-- src/figures.rt:108:9
use Prim.Native.Nat.{◌+◌}
use native.Mathlib.Omega.{arith}
use mathlib.Core.Path.{sym, ◌∙◌}
use Rattle.totals.proofs.Stepping.{fraction-digit, fraction-many, fraction-gap, fraction-other, power_below}
use Rattle.totals.proofs.figures.in_fraction.Goals as goal

-- src/figures.rt:114:25
pub overflow_mul-result : goal.overflow_mul-result
overflow_mul-result c = let at_pre = c.requires in record { fits = omega (arith, power_below 14 (8 + c.args.digits) c.args.number (omega (arith, at_pre.0)) at_pre.1) }

-- src/figures.rt:114:25
pub overflow_add-result-then-digits-lt6 : goal.overflow_add-result-then-digits-lt6
overflow_add-result-then-digits-lt6 c = let at_pre = c.requires in record { fits = omega (arith, power_below 14 (8 + c.args.digits) c.args.number (omega (arith, at_pre.0)) at_pre.1, c.if-d-lt10.true) }

-- src/figures.rt:111:13
pub returns-then-digits-lt6 : goal.returns-then-digits-lt6
returns-then-digits-lt6 c =
    fraction-digit c.args.b c.digit_of-d.result c.digit_of-d.ensures c.args.negative c.args.digits c.args.number c.if-d-lt10.true c.if-digits-lt6.true

-- src/figures.rt:117:9
pub returns-then-d-lt10 : goal.returns-then-d-lt10
returns-then-d-lt10 c =
    fraction-many c.args.b c.digit_of-d.result c.digit_of-d.ensures c.args.negative c.args.digits c.args.number c.if-d-lt10.true c.if-digits-lt6.false

-- src/figures.rt:120:9
pub returns-then-is_gap : goal.returns-then-is_gap
returns-then-is_gap c =
    fraction-gap c.args.b c.digit_of-d.result c.digit_of-d.ensures c.args.negative c.args.digits c.args.number c.if-d-lt10.false (sym c.is_gap.ensures ∙ c.if-is_gap.true)

-- src/figures.rt:104:1
pub returns : goal.returns
returns c =
    fraction-other c.args.b c.digit_of-d.result c.digit_of-d.ensures c.args.negative c.args.digits c.args.number c.if-d-lt10.false (sym c.is_gap.ensures ∙ c.if-is_gap.false)
