-- `lines::is_special` meets its contract.
use Prim.Native.Nat.{ℕ}
use mathlib.Core.Path.{ap}
use lib.Dec.{eqb}
use Rattle.lines.proofs.is_special.Goals as goal

pub returns : goal.returns
returns c =
    ap (λ (b : ℕ). eqb b 37) c.byte.ensures
