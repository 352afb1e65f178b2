-- `selection::fields::is_hit` meets its contract.
use mathlib.Core.Path.{sym, ap, ◌∙◌}
use mathlib.Core.Bool.{Bool, ◌&&◌}
use Rattle.selection.specs.Meaning.{satisfies}
use Rattle.selection.specs.Tokens.{operator_in}
use Rattle.selection.specs.Rows.{operand_in}
use Rattle.selection.proofs.fields.is_hit.Goals as goal

pub returns-then-asked : goal.returns-then-asked
returns-then-asked c =
    c.is_satisfied.ensures ∙ ap (λ (b : Bool). b && satisfies (operator_in c.args.row.operator) (operand_in c.args.e.now c.args.row.operand) c.args.v.now) (sym c.if-asked.true)

pub returns-else-asked : goal.returns-else-asked
returns-else-asked c =
    c.if-asked.false ∙ ap (λ (b : Bool). b && satisfies (operator_in c.args.row.operator) (operand_in c.args.e.now c.args.row.operand) c.args.v.now) (sym c.if-asked.false)
