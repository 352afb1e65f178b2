-- `limits::value_bound` meets its contract: a value is no longer than the bytes it is read from.
use mathlib.Core.Path.{ap}
use lib.Dec.{leb}
use Prim.Native.Nat.{ℕ}
use Rattle.format.specs.Limits.{value_bytes}
use Rattle.limits.proofs.Fits.{value-within}
use Rattle.limits.proofs.value_bound.Goals as goal

pub returns-then-len-le-VALUE : goal.returns-then-len-le-VALUE
returns-then-len-le-VALUE c =
    value-within c.args.s.now c.if-len-le-VALUE.true

pub returns : goal.returns
returns c =
    ap (λ (k : ℕ). leb k value_bytes) c.value_len.ensures
