use Prim.Native.Nat.{◌+◌}
use mathlib.Core.Path.{sym, ap, ◌∙◌, subst}
use lib.ListN.{drop, get_or, drop_of_length-le}
use Rattle.lines.proofs.Cuts.{at-cons}
use Rattle.totals.specs.Figures.{read_on, Within}
use Rattle.totals.specs.declared.figures.Figure.{Figure}
use Rattle.totals.proofs.Folding.{stepped_within, read-millionths}
use Rattle.totals.proofs.figures.millionths_of.Goals as goal

pub loop-b-init : goal.loop-b-init
loop-b-init c = (tt, sym (read-millionths c.args.v.now))

pub step-f-requires : goal.step-f-requires
step-f-requires c = c.loop-b.invariant.0

pub loop-b-preserved : goal.loop-b-preserved
loop-b-preserved c =
    let v = c.args.v.now in
    let i = c.loop-b.b-index in
    let e = c.step-f.ensures in (
      subst Within (sym e) (stepped_within c.loop-b.f (get_or v i 0) c.loop-b.invariant.0),
      c.loop-b.invariant.1 ∙ ap (read_on c.loop-b.f) (at-cons v i c.loop-b-test.true) ∙ ap (λ (f : Figure). read_on f (drop (i + 1) v)) (sym e),
    )

pub told-requires : goal.told-requires
told-requires c = c.loop-b.invariant.0

pub returns : goal.returns
returns c =
    c.told.ensures ∙ sym (c.loop-b.invariant.1 ∙ ap (read_on c.loop-b.f) (drop_of_length-le c.args.v.now c.loop-b-test.false))
