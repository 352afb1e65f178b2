use Prim.Native.Nat.{◌-◌}
use native.Mathlib.Omega.{arith}
use mathlib.Core.Path.{refl, sym, ◌∙◌}
use lib.ListN.{drop_of_length-le}
use Rattle.keys.specs.Marks.{mark_at}
use Rattle.keys.proofs.Pairs.{among-hit, among-miss}
use Rattle.keys.proofs.mark_among.Goals as goal

pub loop-y-init : goal.loop-y-init
loop-y-init c = (omega arith, refl)

pub alike-requires : goal.alike-requires
alike-requires c =
    (c.requires.x_in_bounds, c.requires.inside c.loop-y.y-index c.loop-y-test.true)

pub returns-then-alike : goal.returns-then-alike
returns-then-alike c =
    sym (among-hit c.args.s.now c.args.entries.now c.loop-y.y-index c.loop-y-test.true (mark_at c.args.s.now c.args.x) (sym c.alike.ensures ∙ c.if-alike.true)) ∙ c.loop-y.invariant.1

pub loop-y-preserved : goal.loop-y-preserved
loop-y-preserved c =
    (omega (arith, c.loop-y-test.true), sym (among-miss c.args.s.now c.args.entries.now c.loop-y.y-index c.loop-y-test.true (mark_at c.args.s.now c.args.x) (sym c.alike.ensures ∙ c.if-alike.false)) ∙ c.loop-y.invariant.1)

pub returns : goal.returns
returns c =
    rw (drop_of_length-le c.args.entries.now c.loop-y-test.false) at c.loop-y.invariant.1
