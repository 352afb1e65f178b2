-- A step by what has been seen so far.
-- src/figures.rt:163:26
use mathlib.Core.Path.{sym, ap, ◌∙◌, subst}
use Rattle.totals.specs.Figures.{stepped, Within}
use Rattle.totals.specs.declared.figures.Figure.{Figure}
use Rattle.totals.proofs.Stepping.{sign-digit, fault-stays}
use Rattle.totals.proofs.figures.step.Goals as goal

-- src/figures.rt:169:14
pub in_whole-requires : goal.in_whole-requires
in_whole-requires c = subst Within c.in-Whole.is c.requires

-- src/figures.rt:170:45
pub behind_dot-requires : goal.behind_dot-requires
behind_dot-requires c = subst Within c.in-Dot.is c.requires

-- src/figures.rt:175:14
pub in_fraction-requires : goal.in_fraction-requires
in_fraction-requires c = subst Within c.in-Fraction.is c.requires

-- src/figures.rt:158:1
pub returns-in-Start : goal.returns-in-Start
returns-in-Start c = c.at_start.ensures ∙ ap (λ (x : Figure). stepped x c.args.b) (sym c.in-Start.is)

-- src/figures.rt:158:1
pub returns-in-Sign : goal.returns-in-Sign
returns-in-Sign c = c.begin.ensures ∙ sign-digit c.args.b ∙ ap (λ (x : Figure). stepped x c.args.b) (sym c.in-Sign.is)

-- src/figures.rt:158:1
pub returns-in-Whole : goal.returns-in-Whole
returns-in-Whole c = c.in_whole.ensures ∙ ap (λ (x : Figure). stepped x c.args.b) (sym c.in-Whole.is)

-- src/figures.rt:158:1
pub returns-in-Dot : goal.returns-in-Dot
returns-in-Dot c = c.behind_dot.ensures ∙ ap (λ (x : Figure). stepped x c.args.b) (sym c.in-Dot.is)

-- src/figures.rt:158:1
pub returns-in-Fraction : goal.returns-in-Fraction
returns-in-Fraction c = c.in_fraction.ensures ∙ ap (λ (x : Figure). stepped x c.args.b) (sym c.in-Fraction.is)

-- src/figures.rt:158:1
pub returns-in-Behind : goal.returns-in-Behind
returns-in-Behind c = c.behind_value.ensures ∙ ap (λ (x : Figure). stepped x c.args.b) (sym c.in-Behind.is)

-- src/figures.rt:158:1
pub returns-in-Fault : goal.returns-in-Fault
returns-in-Fault c = fault-stays c.args.b ∙ ap (λ (x : Figure). stepped x c.args.b) (sym c.in-Fault.is)
