use Prim.Native.Nat.{◌-◌}
use native.Mathlib.Omega.{arith}
use mathlib.Core.Path.{refl}
use Rattle.integrity.proofs.Staging.{allowed-on, allowed-end}
use Rattle.integrity.proofs.all_allowed.Goals as goal

pub loop-b-init : goal.loop-b-init
loop-b-init c = (omega arith, refl)

pub loop-b-preserved : goal.loop-b-preserved
loop-b-preserved c =
    (omega arith, allowed-on c.args.s.now c.loop-b.b-index c.loop-b.ok c.loop-b.invariant.1 c.loop-b-test.true c.is_allowed-ok.result c.is_allowed-ok.ensures)

pub returns : goal.returns
returns c =
    allowed-end c.args.s.now c.loop-b.b-index c.loop-b.ok c.loop-b.invariant.1 (omega (arith, c.loop-b.invariant.0, c.loop-b-test.false))
