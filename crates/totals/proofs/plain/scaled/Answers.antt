-- Two digits are filled with four zeros at once.
use Prim.Native.Nat.{ℕ, ◌+◌, ◌^◌, ◌<◌}
use native.Mathlib.Omega.{arith}
use mathlib.Core.Path.{subst}
use Rattle.totals.proofs.Running.{fill-two}
use Rattle.totals.proofs.plain.scaled.Goals as goal

pub overflow_mul-result : goal.overflow_mul-result
overflow_mul-result c =
    let h : c.args.number < 10000000000 = subst (λ (k : ℕ). c.args.number < 10 ^ (8 + k)) c.if-digits-eq2.true c.requires.1 in
    record { fits = omega (arith, h) }

pub returns-then-digits-eq2 : goal.returns-then-digits-eq2
returns-then-digits-eq2 c =
    let h : c.args.number < 10000000000 = subst (λ (k : ℕ). c.args.number < 10 ^ (8 + k)) c.if-digits-eq2.true c.requires.1 in
    (fill-two c.args.digits c.args.number c.if-digits-eq2.true, omega (arith, h))

pub filled-requires : goal.filled-requires
filled-requires c = c.requires

pub returns : goal.returns
returns c = c.filled.ensures
