-- `test_frames::within` meets its contract.
use Rattle.io.proofs.Counting.{prefix_len_of_le}
use Rattle.test_frames.proofs.within.Goals as goal

pub returns : goal.returns
returns c =
    prefix_len_of_le c.least.result c.args.buf.now c.least.ensures.1
