-- `integrity::is_ended` meets its contract.
use Prim.Native.Nat.{◌-◌}
use native.Mathlib.Omega.{arith}
use mathlib.Core.Path.{sym}
use lib.ListN.{length}
use Rattle.records.proofs.Looks.{last-ended}
use Rattle.integrity.proofs.Staging.{none-ended}
use Rattle.integrity.proofs.is_ended.Goals as goal

pub returns-then-len-eq0 : goal.returns-then-len-eq0
returns-then-len-eq0 c =
    none-ended c.args.s.now c.if-len-eq0.true

pub returns : goal.returns
returns c =
    sym (last-ended c.args.s.now (length c.args.s.now - 1) (omega (arith, c.if-len-eq0.false)))
