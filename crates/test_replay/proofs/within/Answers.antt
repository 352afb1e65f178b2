-- `test_replay::within` meets its contract.
use Rattle.io.proofs.Counting.{prefix_len_of_le}
use Rattle.test_replay.proofs.within.Goals as goal

pub returns : goal.returns
returns c =
    prefix_len_of_le c.least.result c.args.answers.now c.least.ensures.1
