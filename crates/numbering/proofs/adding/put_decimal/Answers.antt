use Prim.Native.Nat.{◌+◌, ◌-◌, ◌%◌, ◌≤◌}
use native.Mathlib.Omega.{arith}
use mathlib.Core.Path.{refl, sym, ◌∙◌}
use lib.ListN.{length, length-set}
use Rattle.format.specs.Numbering.{decimal}
use Rattle.numbering.proofs.Digits.{digits-start, digits-some, digits-few, digits_more, digits-less, digits-end}
use Rattle.numbering.proofs.adding.put_decimal.Goals as goal

pub loop-n-init : goal.loop-n-init
loop-n-init c =
    let f : length (decimal c.args.number) ≤ 20 = digits-few c.args.number (omega (arith, c.ranges)) in
    (refl, omega arith, omega (arith, f, c.requires), digits-start c.args.number c.args.text.now)

pub overflow_sub-at : goal.overflow_sub-at
overflow_sub-at c =
    omega (arith, digits-some c.loop-n.n, c.loop-n.invariant.2)

pub returns-then-n-lt10 : goal.returns-then-n-lt10
returns-then-n-lt10 c =
    (omega (arith, c.loop-n.invariant.1, length-set c.loop-n.text (c.loop-n.at - 1) (48 + c.loop-n.n % 10)), digits-end c.loop-n.n c.loop-n.text c.loop-n.at (48 + c.loop-n.n % 10) (omega (arith, digits-some c.loop-n.n, c.loop-n.invariant.2)) c.loop-n.invariant.1 refl c.if-n-lt10.true ∙ sym c.loop-n.invariant.3)

pub loop-n-smaller : goal.loop-n-smaller
loop-n-smaller c =
    omega (arith, digits-some c.loop-n.n, c.loop-n.invariant.2)

pub loop-n-preserved : goal.loop-n-preserved
loop-n-preserved c =
    (length-set c.loop-n.text (c.loop-n.at - 1) (48 + c.loop-n.n % 10) ∙ c.loop-n.invariant.0, omega (arith, c.loop-n.invariant.1, length-set c.loop-n.text (c.loop-n.at - 1) (48 + c.loop-n.n % 10)), digits-less c.loop-n.n c.loop-n.at c.if-n-lt10.false c.loop-n.invariant.2, c.loop-n.invariant.3 ∙ sym (digits_more c.loop-n.n c.loop-n.text c.loop-n.at (48 + c.loop-n.n % 10) (omega (arith, digits-some c.loop-n.n, c.loop-n.invariant.2)) c.loop-n.invariant.1 refl c.if-n-lt10.false))
