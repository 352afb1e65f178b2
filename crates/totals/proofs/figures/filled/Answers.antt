use Prim.Native.Nat.{◌+◌}
use native.Mathlib.Omega.{arith}
use mathlib.Core.Path.{refl, sym, ◌∙◌}
use Rattle.totals.specs.Totals.{whole_digits}
use Rattle.totals.proofs.Stepping.{power_below, fill_more, fill_end, fill-below}
use Rattle.totals.proofs.figures.filled.Goals as goal

-- src/figures.rt:192:5
pub loop-k-init : goal.loop-k-init
loop-k-init c = (c.requires.0, c.requires.1, refl)

-- src/figures.rt:193:13
pub overflow_mul-m : goal.overflow_mul-m
overflow_mul-m c = let at-loop = c.loop-k in record { fits = omega (arith, power_below 14 (whole_digits + at-loop.k) at-loop.m (omega (arith, at-loop.invariant.0)) at-loop.invariant.1) }

-- src/figures.rt:192:5
pub loop-k-preserved : goal.loop-k-preserved
loop-k-preserved c =
    (omega arith, fill-below c.loop-k.k c.loop-k.m c.loop-k.invariant.1, c.loop-k.invariant.2 ∙ fill_more c.loop-k.k c.loop-k.m c.loop-k-test.true)

-- src/figures.rt:186:1
pub returns : goal.returns
returns c =
    (sym (c.loop-k.invariant.2 ∙ fill_end c.loop-k.k c.loop-k.m c.loop-k-test.false), power_below 14 (whole_digits + c.loop-k.k) c.loop-k.m (omega (arith, c.loop-k.invariant.0)) c.loop-k.invariant.1)
