use native.Mathlib.Omega.{arith}
use mathlib.Core.Path.{refl, sym, ◌∙◌}
use Rattle.typedefs.proofs.Numbered.{tag-none, tag-here, tag-later}
use Rattle.typedefs.proofs.first_tag.Goals as goal

pub loop-k-init : goal.loop-k-init
loop-k-init c = (omega arith, omega arith, refl)

pub returns-then-has : goal.returns-then-has
returns-then-has c =
    sym (c.loop-k.invariant.2 ∙ tag-here c.args.set c.loop-k.k c.args.count c.loop-k-test.true (sym c.has.ensures ∙ c.if-has.true))

pub loop-k-preserved : goal.loop-k-preserved
loop-k-preserved c =
    (omega arith, omega arith, c.loop-k.invariant.2 ∙ tag-later c.args.set c.loop-k.k c.args.count c.loop-k-test.true (sym c.has.ensures ∙ c.if-has.false))

pub returns : goal.returns
returns c =
    sym (c.loop-k.invariant.2 ∙ tag-none c.args.set c.loop-k.k c.args.count c.loop-k-test.false)
