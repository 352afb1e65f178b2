-- `limits::past` meets its contract.
use mathlib.Core.Path.{sym, ap, ◌∙◌}
use mathlib.Core.Bool.{Bool}
use Rattle.format.specs.Bytes.{pick}
use Rattle.format.specs.declared.refusals.Question.{Question}
use Rattle.limits.proofs.past.Goals as goal

pub returns-then-is_readable : goal.returns-then-is_readable
returns-then-is_readable c =
    sym (ap (λ (b : Bool). pick b Question.Limit Question.Line) (sym c.is_readable.ensures ∙ c.if-is_readable.true))

pub returns : goal.returns
returns c =
    sym (ap (λ (b : Bool). pick b Question.Limit Question.Line) (sym c.is_readable.ensures ∙ c.if-is_readable.false))
