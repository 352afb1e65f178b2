-- `test_frames::read` meets its contract: no more is read than the part of out that is lent.
use native.Mathlib.Omega.{arith}
use mathlib.Core.Path.{sym}
use lib.ListN.{drop, length-append}
use lib.Seq.{length-take-le}
use Rattle.io.proofs.Counting.{prefix_len_of_le}
use Rattle.test_frames.proofs.read.Goals as goal

pub returns-then-n-lt4 : goal.returns-then-n-lt4
returns-then-n-lt4 c =
    prefix_len_of_le 0 c.args.out.now (omega arith)

pub returns-then-out-size : goal.returns-then-out-size
returns-then-out-size c =
    prefix_len_of_le 0 c.args.out.now (omega arith)

pub slice_bounds-read_full-end-3 : goal.slice_bounds-read_full-end-3
slice_bounds-read_full-end-3 c =
    sym (length-take-le c.four-size.result c.args.out.now (omega arith))

pub returns : goal.returns
returns c =
    prefix_len_of_le c.read_full.result _ (omega (arith, length-append c.read_full.new.buf (drop c.four-size.result c.args.out.now), c.read_full.ensures.0))
