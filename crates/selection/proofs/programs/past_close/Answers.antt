-- `selection::programs::past_close` meets its contract.
use borrow.Author.Tests.{eq-eqb, ne_eqb}
use Rattle.selection.proofs.Ints.{pick_true, pick-false}
use mathlib.Core.Path.{sym, ◌∙◌}
use Rattle.selection.specs.Rows.{progress_in}
use Rattle.selection.specs.declared.programs.Step.{Step}
use Rattle.selection.proofs.Making.{at_stage, off-stage, step-met, step-left}
use Rattle.selection.proofs.programs.past_close.Goals as goal

pub returns-then-ne : goal.returns-then-ne
returns-then-ne c =
    λ s. off-stage 3 (progress_in s c.args.r) _ _ (step-left c.args.r.stage Step.Read c.ne.result c.ne.ensures c.if-ne.true) (c.to_stage.ensures s)

pub returns-then-r-eq0 : goal.returns-then-r-eq0
returns-then-r-eq0 c =
    λ s. at_stage 3 (progress_in s c.args.r) _ _ (step-met c.args.r.stage Step.Read c.ne.result c.ne.ensures c.if-ne.false) (c.to_stage-then-r-eq0.ensures s ∙ sym (pick_true _ _ _ (eq-eqb _ _ c.if-r-eq0.true)))

pub returns : goal.returns
returns c =
    λ s. at_stage 3 (progress_in s c.args.r) _ _ (step-met c.args.r.stage Step.Read c.ne.result c.ne.ensures c.if-ne.false) (sym (pick-false _ _ _ (ne_eqb _ _ c.if-r-eq0.false)))
