-- A byte by the tests in their order.
-- src/figures.rt:133:8
use mathlib.Core.Path.{sym, ◌∙◌}
use Rattle.totals.proofs.Stepping.{start-gap, start-sign, start-digit}
use Rattle.totals.proofs.figures.at_start.Goals as goal

-- src/figures.rt:134:9
pub returns-then-is_gap : goal.returns-then-is_gap
returns-then-is_gap c = start-gap c.args.b (sym c.is_gap.ensures ∙ c.if-is_gap.true)

-- src/figures.rt:137:9
pub returns-then-b-eq45 : goal.returns-then-b-eq45
returns-then-b-eq45 c = start-sign c.args.b (sym c.is_gap.ensures ∙ c.if-is_gap.false) c.if-b-eq45.true

-- src/figures.rt:130:1
pub returns : goal.returns
returns c = c.begin.ensures ∙ start-digit c.args.b (sym c.is_gap.ensures ∙ c.if-is_gap.false) c.if-b-eq45.false
