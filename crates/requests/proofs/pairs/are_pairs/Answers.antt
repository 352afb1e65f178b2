use native.Mathlib.Omega.{arith}
use mathlib.Core.Path.{refl, sym, ◌∙◌}
use Rattle.requests.proofs.Pairing.{some_more, some_end}
use Rattle.requests.proofs.pairs.are_pairs.Goals as goal

pub loop-pair-init : goal.loop-pair-init
loop-pair-init c = refl

pub returns-in_default : goal.returns-in_default
returns-in_default c =
    sym (c.loop-pair.invariant ∙ some_end c.args.req.now c.loop-pair.i c.in_default.ensures)

pub loop-pair-smaller : goal.loop-pair-smaller
loop-pair-smaller c =
    omega (arith, c.in-Some.ensures.2, c.in-Some.ensures.3.0, c.in-Some.ensures.4, c.in-Some.ensures.5.0, c.in-Some.ensures.5.1, c.in-Some.ensures.6)

pub loop-pair-preserved : goal.loop-pair-preserved
loop-pair-preserved c =
    c.loop-pair.invariant ∙ some_more c.args.req.now c.loop-pair.i c.in-Some.pair.name c.in-Some.pair.value c.in-Some.pair.next c.in-Some.ensures
