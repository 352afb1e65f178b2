-- A value at its end, by what has been seen of it.
use native.Mathlib.Omega.{arith}
use mathlib.Core.Logic.{inl, inr}
use mathlib.Core.Path.{sym, ap, ◌∙◌, subst}
use Rattle.totals.specs.Figures.{filled_from, told_by, Within}
use Rattle.totals.proofs.Bits.{signed-value}
use Rattle.totals.proofs.Stepping.{power_below}
use Rattle.totals.proofs.figures.told.Goals as goal

pub filled-requires : goal.filled-requires
filled-requires c = let h = subst Within c.in-Whole.is c.requires in (omega arith, power_below 8 c.in-Whole.digits c.in-Whole.number h.0 h.1)

pub filled-requires-in-Fraction : goal.filled-requires-in-Fraction
filled-requires-in-Fraction c = subst Within c.in-Fraction.is c.requires

pub filled-requires-in-Behind : goal.filled-requires-in-Behind
filled-requires-in-Behind c = subst Within c.in-Behind.is c.requires

pub returns-in-Whole : goal.returns-in-Whole
unfolding told_by
returns-in-Whole c =
    signed-value c.in-Whole.negative c.signed_of.result c.filled.result (filled_from 0 c.in-Whole.number) c.filled.ensures c.signed_of.ensures ∙ sym (ap told_by c.in-Whole.is)

pub returns-in-Fraction : goal.returns-in-Fraction
unfolding told_by
returns-in-Fraction c =
    signed-value c.in-Fraction.negative c.signed_of-in-Fraction.result c.filled-in-Fraction.result (filled_from c.in-Fraction.digits c.in-Fraction.number) c.filled-in-Fraction.ensures c.signed_of-in-Fraction.ensures ∙ sym (ap told_by c.in-Fraction.is)

pub returns-in-Behind : goal.returns-in-Behind
unfolding told_by
returns-in-Behind c =
    signed-value c.in-Behind.negative c.signed_of-in-Behind.result c.filled-in-Behind.result (filled_from c.in-Behind.digits c.in-Behind.number) c.filled-in-Behind.ensures c.signed_of-in-Behind.ensures ∙ sym (ap told_by c.in-Behind.is)

pub returns-in-Start : goal.returns-in-Start
unfolding told_by
returns-in-Start c =
    elim c.in-Start.is [
      | inl e ↦ sym (ap told_by e)
      | inr r ↦ elim r [ inl e ↦ sym (ap told_by e) | inr q ↦ elim q [ inl e ↦ sym (ap told_by e.2) | inr e ↦ sym (ap told_by e) ] ]
    ]
