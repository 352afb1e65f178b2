-- `editor::edit_judged` meets its contract: the file's own number, or the edit of one that passes.
use mathlib.Core.Path.{sym, ap, ◌∙◌}
use Rattle.std.specs.Prelude.{ℕ, Result}
use Rattle.format.specs.declared.refusals.Refusal.{Refusal}
use Rattle.format.specs.Refusals.{question_no, no_of}
use Rattle.format.specs.Calls.{check_answer, filled_by}
use Rattle.format.proofs.Answers.{answer-file}
use Rattle.format.proofs.Refused.{question-number, handed-as}
use Rattle.editor.proofs.edit_judged.Goals as goal

pub returns-in_err-k : goal.returns-in_err-k
unfolding check_answer
returns-in_err-k c =
    ap (λ (x : Result ℕ Refusal). filled_by x c.args.buf.now) (handed-as c.from_residual.result (Refusal.File c.in_err-k.field-0.0) c.from_residual.ensures)
    ∙ sym (answer-file c.args.buf.now c.args.used c.args.req.now (question_no c.in_err-k.field-0.0) (question-number c.in_err-k.field-0.0) (c.requires.used_value ∙ ap no_of c.in_err-k.was))
