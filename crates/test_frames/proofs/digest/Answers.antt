use native.Mathlib.Omega.{arith}
use Rattle.test_frames.proofs.digest.Goals as goal

pub loop-x-init : goal.loop-x-init
loop-x-init c = (omega arith, omega arith)

pub reduced-a-requires : goal.reduced-a-requires
reduced-a-requires c =
    omega (arith, c.loop-x.invariant.0, c.wide.ensures)

pub reduced-b-requires : goal.reduced-b-requires
reduced-b-requires c =
    omega (arith, c.loop-x.invariant.1, c.reduced-a.ensures)

pub loop-x-preserved : goal.loop-x-preserved
loop-x-preserved c =
    (c.reduced-a.ensures, c.reduced-b.ensures)
