-- `numbering::bounds::narrow_place` meets its contract.
use Prim.Native.Nat.{min, max}
use Rattle.format.specs.Numbering.{above, from}
use Rattle.numbers.specs.Meaning.{int_in}
use Rattle.numbering.proofs.Bounding.{joined-here, joined-none}
use Rattle.numbering.proofs.bounds.narrow_place.Goals as goal

pub returns-then-k-count : goal.returns-then-k-count
returns-then-k-count c =
    (joined-here max c.args.count c.args.k (from (int_in c.args.range.low)) c.args.floors.now c.raise.result c.if-k-count.true c.raise.ensures, joined-here min c.args.count c.args.k (above (int_in c.args.range.high)) c.args.limits.now c.lower.result c.if-k-count.true c.lower.ensures)

pub returns-else-k-count : goal.returns-else-k-count
returns-else-k-count c =
    (joined-none max c.args.count c.args.k (from (int_in c.args.range.low)) c.args.floors.now c.if-k-count.false, joined-none min c.args.count c.args.k (above (int_in c.args.range.high)) c.args.limits.now c.if-k-count.false)
