-- The sign of the sum is put to its rounded magnitude.
-- src/lib.rt:46:9
use native.Mathlib.Omega.{arith}
use mathlib.Core.Path.{ap}
use lib.IntN.{nat_abs}
use Rattle.totals.proofs.Bits.{seen-is, hundredths-is}
use Rattle.totals.proofs.hundredths.Goals as goal

-- src/lib.rt:47:9
pub rounded_of-r-requires : goal.rounded_of-r-requires
rounded_of-r-requires c = omega (arith, c.requires, c.magnitude-n.ensures, ap nat_abs (seen-is c.args.sum c.requires))

-- src/lib.rt:41:1
pub returns : goal.returns
returns c =
    hundredths-is c.args.sum c.signed_of.result c.magnitude-n.result c.rounded_of-r.result c.requires c.magnitude-n.ensures c.rounded_of-r.ensures c.signed_of.ensures
