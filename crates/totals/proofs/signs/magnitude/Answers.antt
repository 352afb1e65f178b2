-- A number below zero has the magnitude of its opposite.
-- src/signs.rt:29:17
use Rattle.totals.proofs.Bits.{turned-fits, cast-turned, turned-abs, cast-seen}
use Rattle.totals.proofs.signs.magnitude.Goals as goal

pub overflow_sub-result : goal.overflow_sub-result
overflow_sub-result c = turned-fits c.args.z c.requires

-- src/signs.rt:29:16
pub overflow_cast-result : goal.overflow_cast-result
overflow_cast-result c = cast-turned c.args.z c.requires c.if-z-lt0.true

-- src/signs.rt:29:37
pub overflow_cast-result-else-z-lt0 : goal.overflow_cast-result-else-z-lt0
overflow_cast-result-else-z-lt0 c = cast-seen c.args.z c.requires c.if-z-lt0.false

-- src/signs.rt:25:1
pub returns-then-z-lt0 : goal.returns-then-z-lt0
returns-then-z-lt0 c = turned-abs c.args.z c.requires
