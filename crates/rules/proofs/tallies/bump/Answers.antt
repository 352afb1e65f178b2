-- `rules::tallies::bump` meets its contract.
use native.Mathlib.Omega.{arith}
use Prim.Native.Nat.{ℕ}
use mathlib.Core.Path.{ap}
use mathlib.Core.Bool.{Bool}
use Rattle.format.specs.Bytes.{pick}
use Rattle.rules.proofs.tallies.bump.Goals as goal

pub returns-then-hit : goal.returns-then-hit
returns-then-hit c =
    omega (arith, ap (λ (t : Bool). pick {A = ℕ} t 1 0) c.if-hit.true)

pub returns-else-hit : goal.returns-else-hit
returns-else-hit c =
    omega (arith, ap (λ (t : Bool). pick {A = ℕ} t 1 0) c.if-hit.false)
