-- `selection::programs::may_take` meets its contract.
use mathlib.Core.Path.{sym, ap, ◌∙◌}
use Rattle.selection.specs.Reading.{may_take}
use Rattle.selection.specs.Tokens.{operator_in}
use Rattle.selection.specs.Rows.{operand_in}
use Rattle.selection.specs.declared.programs.Operand.{Operand}
use Rattle.selection.proofs.programs.may_take.Goals as goal

pub returns-in-Int : goal.returns-in-Int
returns-in-Int c =
    λ s. ap (λ (v : Operand). may_take (operator_in c.args.o) (operand_in s v)) (sym c.in-Int.is)

pub returns-in-Text : goal.returns-in-Text
returns-in-Text c =
    λ s. c.takes_strings.ensures ∙ ap (λ (v : Operand). may_take (operator_in c.args.o) (operand_in s v)) (sym c.in-Text.is)
