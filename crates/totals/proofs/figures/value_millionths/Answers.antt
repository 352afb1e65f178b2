use native.Mathlib.Omega.{arith}
use mathlib.Core.Path.{sym, ap, ◌∙◌, subst}
use lib.ListN.{drop}
use Rattle.values.specs.Value.{value_from}
use Rattle.values.proofs.Decoding.{ended, goes_on}
use Rattle.totals.specs.Figures.{read_on, Within}
use Rattle.totals.specs.declared.figures.Figure.{Figure}
use Rattle.totals.proofs.Folding.{stepped_within, read-millionths}
use Rattle.totals.proofs.figures.value_millionths.Goals as goal

pub loop-byte-init : goal.loop-byte-init
loop-byte-init c =
    (tt, sym (read-millionths (value_from c.args.s.now)))

pub told-requires : goal.told-requires
told-requires c =
    c.loop-byte.invariant.0

pub returns-in_default : goal.returns-in_default
returns-in_default c =
    c.told.ensures ∙ sym (c.loop-byte.invariant.1 ∙ ap (read_on c.loop-byte.f) (ended c.args.s.now c.loop-byte.i c.value_byte.result c.value_byte.ensures c.in_default.is))

pub step-f-requires : goal.step-f-requires
step-f-requires c =
    c.loop-byte.invariant.0

pub loop-byte-smaller : goal.loop-byte-smaller
loop-byte-smaller c =
    let e = goes_on c.args.s.now c.loop-byte.i c.value_byte.result c.value_byte.ensures c.in-Some.is in omega (arith, e.1, e.2)

pub loop-byte-preserved : goal.loop-byte-preserved
loop-byte-preserved c =
    let e = goes_on c.args.s.now c.loop-byte.i c.value_byte.result c.value_byte.ensures c.in-Some.is in (
      subst Within (sym c.step-f.ensures) (stepped_within c.loop-byte.f c.in-Some.field-0.byte c.loop-byte.invariant.0),
      c.loop-byte.invariant.1 ∙ ap (read_on c.loop-byte.f) e.0 ∙ ap (λ (f : Figure). read_on f (value_from (drop c.in-Some.field-0.next c.args.s.now))) (sym c.step-f.ensures),
    )
