-- Both numbers and their sum fit.
-- src/signs.rt:21:5
use Rattle.totals.proofs.Bits.{sum_fits, sum_is}
use Rattle.totals.proofs.signs.add.Goals as goal

pub overflow_add-result : goal.overflow_add-result
overflow_add-result c = sum_fits c.args.a c.args.b c.requires

-- src/signs.rt:17:1
pub returns : goal.returns
returns c = sum_is c.args.a c.args.b c.requires
