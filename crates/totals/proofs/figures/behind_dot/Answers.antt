-- A byte is a digit, or its number is not below 10.
-- src/figures.rt:91:9
use Rattle.totals.proofs.Stepping.{dot-digit, dot-other}
use Rattle.totals.proofs.figures.behind_dot.Goals as goal

-- src/figures.rt:87:1
pub returns-then-d-lt10 : goal.returns-then-d-lt10
returns-then-d-lt10 c = dot-digit c.args.b c.digit_of-d.result c.digit_of-d.ensures c.args.negative c.args.number c.if-d-lt10.true

-- src/figures.rt:87:1
pub returns-else-d-lt10 : goal.returns-else-d-lt10
returns-else-d-lt10 c = dot-other c.args.b c.digit_of-d.result c.digit_of-d.ensures c.args.negative c.args.number c.if-d-lt10.false
