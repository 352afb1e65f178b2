-- `directory::inner::next_entry` meets its contract.
use Rattle.directory.proofs.Blocks.{next-none, next-there}
use Rattle.directory.proofs.inner.next_entry.Goals as goal

pub returns-in_default : goal.returns-in_default
returns-in_default c =
    next-none c.args.s.now c.next_set.result c.next_set.ensures c.in_default.is

pub returns : goal.returns
returns c =
    next-there c.args.s.now c.next_set.result c.next_set.ensures c.in-Some.q c.block_start.result c.in-Some.is c.block_start.ensures
