-- `integrity::is_text` meets its contract, case by case.
use mathlib.Core.Path.{sym, ap, ◌∙◌}
use mathlib.Core.Bool.{Bool, ◌&&◌}
use Rattle.format.specs.Lines.{is_ended}
use Rattle.integrity.proofs.is_text.Goals as goal

pub returns-then-all_allowed : goal.returns-then-all_allowed
returns-then-all_allowed c =
    c.is_ended.ensures ∙ sym (ap (λ (b : Bool). b && is_ended c.args.s.now) (sym c.all_allowed.ensures ∙ c.if-all_allowed.true))

pub returns : goal.returns
returns c =
    sym (ap (λ (b : Bool). b && is_ended c.args.s.now) (sym c.all_allowed.ensures ∙ c.if-all_allowed.false))
