-- `selection::programs::past_open` meets its contract.
use borrow.Author.Tests.{lt-ltb, le-ltb}
use Rattle.selection.proofs.Ints.{pick_true, pick-false}
use mathlib.Core.Path.{sym, ◌∙◌}
use Rattle.selection.specs.Rows.{progress_in}
use Rattle.selection.specs.declared.programs.Step.{Step}
use Rattle.selection.proofs.Making.{at_stage, off-stage, step-met, step-left}
use Rattle.selection.proofs.programs.past_open.Goals as goal

pub returns-then-ne : goal.returns-then-ne
returns-then-ne c =
    λ s. off-stage 0 (progress_in s c.args.r) _ _ (step-left c.args.r.stage Step.Wanted c.ne.result c.ne.ensures c.if-ne.true) (c.to_stage.ensures s)

pub returns-then-r-lt-OPEN : goal.returns-then-r-lt-OPEN
returns-then-r-lt-OPEN c =
    λ s. at_stage 0 (progress_in s c.args.r) _ _ (step-met c.args.r.stage Step.Wanted c.ne.result c.ne.ensures c.if-ne.false) (sym (pick_true _ _ _ (lt-ltb _ _ c.if-r-lt-OPEN.true)))

pub returns : goal.returns
returns c =
    λ s. at_stage 0 (progress_in s c.args.r) _ _ (step-met c.args.r.stage Step.Wanted c.ne.result c.ne.ensures c.if-ne.false) (c.to_stage-2.ensures s ∙ sym (pick-false _ _ _ (le-ltb _ _ c.if-r-lt-OPEN.false)))
