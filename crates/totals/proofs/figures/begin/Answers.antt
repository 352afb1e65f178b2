-- A byte is a digit, or its number is not below 10.
-- src/figures.rt:45:9
use Rattle.totals.proofs.Stepping.{begun-yes, begun-not}
use Rattle.totals.proofs.figures.begin.Goals as goal

-- src/figures.rt:42:1
pub returns-then-d-lt10 : goal.returns-then-d-lt10
returns-then-d-lt10 c = begun-yes c.args.b c.digit_of-d.result c.digit_of-d.ensures c.args.negative c.if-d-lt10.true

-- src/figures.rt:42:1
pub returns-else-d-lt10 : goal.returns-else-d-lt10
returns-else-d-lt10 c = begun-not c.args.b c.digit_of-d.result c.digit_of-d.ensures c.args.negative c.if-d-lt10.false
