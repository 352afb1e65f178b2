-- `selection::programs::past_operand` meets its contract.
use mathlib.Core.Bool.{Bool}
use Rattle.format.specs.Bytes.{pick}
use Rattle.selection.specs.Programs.{to_stage}
use mathlib.Core.Path.{sym, ap, ◌∙◌}
use Rattle.selection.specs.Rows.{progress_in}
use Rattle.selection.specs.declared.programs.Step.{Step}
use Rattle.selection.proofs.Making.{at_stage, off-stage, step-met, step-left}
use Rattle.selection.proofs.programs.past_operand.Goals as goal

pub returns-then-ne : goal.returns-then-ne
returns-then-ne c =
    λ s. off-stage 2 (progress_in s c.args.r) _ _ (step-left c.args.r.stage Step.Compared c.ne.result c.ne.ensures c.if-ne.true) (c.to_stage.ensures s)

pub returns-then-may_take : goal.returns-then-may_take
returns-then-may_take c =
    λ s. at_stage 2 (progress_in s c.args.r) _ _ (step-met c.args.r.stage Step.Compared c.ne.result c.ne.ensures c.if-ne.false) (c.to_stage-then-may_take.ensures s ∙ ap (λ (b : Bool). to_stage (pick b 3 4) (progress_in s c.args.r)) (sym c.if-may_take.true ∙ c.may_take.ensures s))

pub returns : goal.returns
returns c =
    λ s. at_stage 2 (progress_in s c.args.r) _ _ (step-met c.args.r.stage Step.Compared c.ne.result c.ne.ensures c.if-ne.false) (c.to_stage-2.ensures s ∙ ap (λ (b : Bool). to_stage (pick b 3 4) (progress_in s c.args.r)) (sym c.if-may_take.false ∙ c.may_take.ensures s))
