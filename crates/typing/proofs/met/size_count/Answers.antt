use native.Mathlib.Omega.{arith}
use mathlib.Core.Path.{sym, ◌∙◌}
use Rattle.typing.proofs.Meeting.{size-counted, size-passed, size-end}
use Rattle.typing.proofs.met.size_count.Goals as goal
use Rattle.typing.proofs.met.size_count.Goals.{then-not-is_continuation, else-not-is_continuation}

pub loop-c-init : goal.loop-c-init
loop-c-init c = (omega arith, omega arith, omega arith)

pub loop-c-preserved : goal.loop-c-preserved
loop-c-preserved c =
    let told = sym c.is_continuation.ensures in
    elim c.if-not-is_continuation.branch [ then-not-is_continuation w ↦ (omega (arith, w.n-is, c.loop-c.invariant.0), omega arith, omega (arith, w.n-is, c.loop-c.invariant.2, size-counted c.args.v.now c.loop-c.c-index c.loop-c-test.true (told ∙ w.if-not-is_continuation.true))) | else-not-is_continuation w ↦ (omega (arith, w.n-is, c.loop-c.invariant.0), omega arith, omega (arith, w.n-is, c.loop-c.invariant.2, size-passed c.args.v.now c.loop-c.c-index c.loop-c-test.true (told ∙ w.if-not-is_continuation.false))) ]

pub returns : goal.returns
returns c =
    omega (arith, c.loop-c.invariant.2, size-end c.args.v.now c.loop-c.c-index c.loop-c-test.false)
