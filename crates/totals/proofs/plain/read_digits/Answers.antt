use Prim.Native.Nat.{ℕ, ◌+◌, ◌-◌}
use native.Mathlib.Omega.{arith}
use mathlib.Core.Path.{◌≡◌, subst}
use Rattle.totals.specs.Plain.{Run}
use Rattle.totals.proofs.Stepping.{power_below}
use Rattle.totals.proofs.Running.{run_none, run_more}
use Rattle.totals.proofs.plain.read_digits.Goals as goal

pub loop-at-init : goal.loop-at-init
loop-at-init c =
    run_none c.args.s.now c.args.i c.args.end c.args.number c.requires.0

pub bounds-s-at : goal.bounds-s-at
bounds-s-at c =
    omega (arith, c.loop-at-test.true, c.requires.1)

pub returns-then-d-gt9 : goal.returns-then-d-gt9
returns-then-d-gt9 c =
    c.loop-at.invariant

pub overflow_mul-m : goal.overflow_mul-m
overflow_mul-m c =
    record { fits = omega (arith, power_below 16 (8 + (c.loop-at.at - c.args.i)) c.loop-at.m (omega (arith, c.loop-at.invariant.before, c.requires.2)) (c.loop-at.invariant.small 8 c.requires.3)) }

pub overflow_add-m : goal.overflow_add-m
overflow_add-m c =
    record { fits = omega (arith, c.if-d-gt9.false, power_below 16 (8 + (c.loop-at.at - c.args.i)) c.loop-at.m (omega (arith, c.loop-at.invariant.before, c.requires.2)) (c.loop-at.invariant.small 8 c.requires.3)) }

pub loop-at-smaller : goal.loop-at-smaller
loop-at-smaller c =
    omega (arith, c.loop-at-test.true)

pub loop-at-preserved : goal.loop-at-preserved
loop-at-preserved c =
    run_more c.args.s.now c.args.i c.args.end c.args.number c.loop-at.at c.loop-at.m c.loop-at.invariant (omega (arith, c.loop-at-test.true, c.requires.1)) c.loop-at-test.true c.digit_of-d.result c.digit_of-d.ensures (omega (arith, c.if-d-gt9.false))

pub returns : goal.returns
returns c =
    subst (λ (j : ℕ). Run c.args.s.now c.args.i c.args.end c.args.number j c.loop-at.m) (let e : c.loop-at.at ≡ c.args.end = omega (arith, c.loop-at-test.false, c.loop-at.invariant.before) in e) c.loop-at.invariant
