-- `selection::programs::with_operand` meets its contract: the code first, and then the comparison.
use native.Mathlib.Omega.{arith}
use mathlib.Core.Path.{sym, ◌∙◌}
use lib.Dec.{eqb}
use borrow.Author.Tests.{eq-eqb, ne_eqb}
use Rattle.selection.specs.Rows.{step_no, tests_in}
use Rattle.selection.specs.declared.programs.Step.{Step}
use Rattle.selection.proofs.Ints.{pick-false}
use Rattle.selection.proofs.Making.{step-met, step-left, both-added, same_tests, test-added}
use Rattle.selection.proofs.programs.with_operand.Goals as goal

pub returns-then-ne : goal.returns-then-ne
returns-then-ne c =
    (c.with_code-q.ensures.0, λ s. same_tests s c.args.p c.with_code-q.result c.with_code-q.ensures.1 c.with_code-q.ensures.2 ∙ sym (pick-false (eqb (step_no c.args.r.stage) 2) _ _ (ne_eqb (step_no c.args.r.stage) 2 (step-left c.args.r.stage Step.Compared c.ne.result c.ne.ensures c.if-ne.true))))

pub with_row-requires : goal.with_row-requires
with_row-requires c =
    (c.with_code-q.ensures.0.filled, omega (arith, c.with_code-q.ensures.2, c.requires.2 (step-met c.args.r.stage Step.Compared c.ne.result c.ne.ensures c.if-ne.false)))

pub returns : goal.returns
returns c =
    (both-added c.args.p c.with_code-q.result c.with_row.result _ c.with_code-q.ensures.0 c.with_row.ensures.0 c.with_row.ensures.1, λ s. test-added (tests_in s c.args.p) (tests_in s c.with_code-q.result) (tests_in s c.with_row.result) _ (eqb (step_no c.args.r.stage) 2) (c.with_row.ensures.2 s) (same_tests s c.args.p c.with_code-q.result c.with_code-q.ensures.1 c.with_code-q.ensures.2) (eq-eqb (step_no c.args.r.stage) 2 (step-met c.args.r.stage Step.Compared c.ne.result c.ne.ensures c.if-ne.false)))
