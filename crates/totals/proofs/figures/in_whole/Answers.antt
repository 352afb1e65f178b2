-- A byte by the tests in their order.
-- src/figures.rt:62:9
use native.Mathlib.Omega.{arith}
use mathlib.Core.Path.{sym, ◌∙◌}
use Rattle.totals.proofs.Stepping.{whole-digit, whole-many, whole-dot, whole-gap, whole-other, power_below}
use Rattle.totals.proofs.figures.in_whole.Goals as goal

-- src/figures.rt:68:25
pub overflow_mul-result : goal.overflow_mul-result
overflow_mul-result c = let at_pre = c.requires in record { fits = omega (arith, power_below 8 c.args.digits c.args.number at_pre.0 at_pre.1) }

-- src/figures.rt:68:25
pub overflow_add-result-then-digits-lt8 : goal.overflow_add-result-then-digits-lt8
overflow_add-result-then-digits-lt8 c = let at_pre = c.requires in record { fits = omega (arith, power_below 8 c.args.digits c.args.number at_pre.0 at_pre.1, c.if-d-lt10.true) }

-- src/figures.rt:65:13
pub returns-then-digits-lt8 : goal.returns-then-digits-lt8
returns-then-digits-lt8 c =
    whole-digit c.args.b c.digit_of-d.result c.digit_of-d.ensures c.args.negative c.args.digits c.args.number c.if-d-lt10.true c.if-digits-lt8.true

-- src/figures.rt:71:9
pub returns-then-d-lt10 : goal.returns-then-d-lt10
returns-then-d-lt10 c =
    whole-many c.args.b c.digit_of-d.result c.digit_of-d.ensures c.args.negative c.args.digits c.args.number c.if-d-lt10.true c.if-digits-lt8.false

-- src/figures.rt:74:9
pub returns-then-b-eq46 : goal.returns-then-b-eq46
returns-then-b-eq46 c =
    whole-dot c.args.b c.digit_of-d.result c.digit_of-d.ensures c.args.negative c.args.digits c.args.number c.if-d-lt10.false c.if-b-eq46.true

-- src/figures.rt:77:9
pub returns-then-is_gap : goal.returns-then-is_gap
returns-then-is_gap c =
    whole-gap c.args.b c.digit_of-d.result c.digit_of-d.ensures c.args.negative c.args.digits c.args.number c.if-d-lt10.false c.if-b-eq46.false (sym c.is_gap.ensures ∙ c.if-is_gap.true)

-- src/figures.rt:58:1
pub returns : goal.returns
returns c =
    whole-other c.args.b c.digit_of-d.result c.digit_of-d.ensures c.args.negative c.args.digits c.args.number c.if-d-lt10.false c.if-b-eq46.false (sym c.is_gap.ensures ∙ c.if-is_gap.false)
