-- A byte by the test.
-- src/figures.rt:146:8
use mathlib.Core.Path.{sym, ◌∙◌}
use Rattle.totals.proofs.Stepping.{behind-gap, behind-other}
use Rattle.totals.proofs.figures.behind_value.Goals as goal

-- src/figures.rt:143:1
pub returns-then-is_gap : goal.returns-then-is_gap
returns-then-is_gap c = let at-args = c.args in behind-gap at-args.b at-args.negative at-args.digits at-args.number (sym c.is_gap.ensures ∙ c.if-is_gap.true)

-- src/figures.rt:143:1
pub returns-else-is_gap : goal.returns-else-is_gap
returns-else-is_gap c = let at-args = c.args in behind-other at-args.b at-args.negative at-args.digits at-args.number (sym c.is_gap.ensures ∙ c.if-is_gap.false)
