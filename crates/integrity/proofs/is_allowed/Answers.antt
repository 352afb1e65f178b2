-- `integrity::is_allowed` meets its contract, byte by byte.
use native.Mathlib.Omega.{arith}
use Rattle.integrity.proofs.Staging.{allowed-by}
use Rattle.integrity.proofs.is_allowed.Goals as goal

pub returns : goal.returns
returns c = allowed-by c.args.b (omega (arith, c.well_formed))
