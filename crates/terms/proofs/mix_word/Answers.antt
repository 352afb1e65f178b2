use native.Mathlib.Omega.{arith}
use mathlib.Core.Path.{refl, sym, ap, ◌∙◌}
use lib.ListN.{drop_of_length-le}
use Rattle.lines.proofs.Cuts.{at-cons}
use Rattle.sorting.specs.Texts.{mixed}
use Rattle.terms.proofs.mix_word.Goals as goal

pub loop-b-init : goal.loop-b-init
loop-b-init c = (refl, omega arith)

pub loop-b-preserved : goal.loop-b-preserved
unfolding mixed
loop-b-preserved c =
    let e = c.mix_byte-h.ensures.0 in
    (rw e (sym (ap (mixed c.loop-b.h) (at-cons c.args.w.now c.loop-b.b-index c.loop-b-test.true)) ∙ c.loop-b.invariant.0), c.mix_byte-h.ensures.1)

pub returns : goal.returns
unfolding mixed
returns c =
    (sym (ap (mixed c.loop-b.h) (drop_of_length-le c.args.w.now c.loop-b-test.false)) ∙ c.loop-b.invariant.0, c.loop-b.invariant.1)
