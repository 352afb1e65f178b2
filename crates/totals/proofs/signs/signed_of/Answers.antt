-- The sign is put to a number that fits.
-- src/signs.rt:12:13
use lib.IntN.{pos}
use Rattle.totals.proofs.Bits.{turned-fits, signed-minus, signed-plus}
use Rattle.totals.proofs.signs.signed_of.Goals as goal

-- src/signs.rt:13:19
pub overflow_sub-result : goal.overflow_sub-result
overflow_sub-result c = turned-fits (pos c.args.m) c.requires

-- src/signs.rt:8:1
pub returns-then-negative : goal.returns-then-negative
returns-then-negative c = signed-minus c.args.negative c.args.m c.requires c.if-negative.true

-- src/signs.rt:8:1
pub returns-else-negative : goal.returns-else-negative
returns-else-negative c = signed-plus c.args.negative c.args.m c.requires c.if-negative.false
