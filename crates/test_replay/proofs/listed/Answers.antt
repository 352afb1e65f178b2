-- `test_replay::listed` meets its contract.
use Rattle.io.proofs.Counting.{prefix_len_of_le}
use Rattle.test_replay.proofs.listed.Goals as goal

pub returns : goal.returns
returns c =
    prefix_len_of_le c.least.result c.args.list.now c.least.ensures.1
