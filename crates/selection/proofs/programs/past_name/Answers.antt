-- `selection::programs::past_name` meets its contract.
use mathlib.Core.Path.{refl}
use Rattle.selection.specs.Rows.{progress_in}
use Rattle.selection.specs.declared.programs.Step.{Step}
use Rattle.selection.proofs.Making.{at_stage, off-stage, step-met, step-left}
use Rattle.selection.proofs.programs.past_name.Goals as goal

pub returns-then-ne : goal.returns-then-ne
returns-then-ne c =
    λ s. off-stage 0 (progress_in s c.args.r) _ _ (step-left c.args.r.stage Step.Wanted c.ne.result c.ne.ensures c.if-ne.true) (c.to_stage.ensures s)

pub returns : goal.returns
returns c =
    λ s. at_stage 0 (progress_in s c.args.r) _ _ (step-met c.args.r.stage Step.Wanted c.ne.result c.ne.ensures c.if-ne.false) refl
