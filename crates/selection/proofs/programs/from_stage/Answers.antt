-- `selection::programs::from_stage` meets its contract.
use Rattle.selection.specs.Rows.{step_no, progress_in}
use Rattle.selection.proofs.Making.{at_stage, off-stage, step-is, step-other}
use Rattle.selection.proofs.programs.from_stage.Goals as goal

pub returns-then-eq : goal.returns-then-eq
returns-then-eq c =
    λ s. at_stage (step_no c.args.at) (progress_in s c.args.r) _ _ (step-is c.args.r.stage c.args.at c.eq.result c.eq.ensures c.if-eq.true) (c.to_stage.ensures s)

pub returns : goal.returns
returns c =
    λ s. off-stage (step_no c.args.at) (progress_in s c.args.r) _ _ (step-other c.args.r.stage c.args.at c.eq.result c.eq.ensures c.if-eq.false) (c.to_stage-2.ensures s)
