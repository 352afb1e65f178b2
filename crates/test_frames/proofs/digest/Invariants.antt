-- `test_frames::digest` is safe and ends. The invariant: both sums are reduced.
use Prim.Native.Nat.{◌<◌}
use Rattle.test_frames.proofs.digest.Given as goal

abbrev pub invariant-loop-x : goal.invariant-loop-x
invariant-loop-x l = (l.a < 65521) × (l.b < 65521)
