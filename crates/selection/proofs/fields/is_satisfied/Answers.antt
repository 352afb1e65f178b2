-- `selection::fields::is_satisfied` meets its contract.
use mathlib.Core.Path.{ap, ◌∙◌}
use mathlib.Core.Option.{Option}
use Rattle.format.specs.Bytes.{Bytes, same}
use Rattle.format.specs.Numbers.{Int}
use Rattle.numbers.specs.Meaning.{int_in}
use Rattle.selection.specs.Meaning.{int_compares, string_compares}
use Rattle.selection.specs.Tokens.{operator_in}
use Rattle.selection.specs.declared.programs.Operand.{Operand}
use Rattle.selection.proofs.Marking.{operand-by}
use Rattle.selection.proofs.fields.is_satisfied.Goals as goal

pub returns-in-Int : goal.returns-in-Int
returns-in-Int c =
    operand-by c.args.e.now c.args.operator c.args.operand (Operand.Int c.in-Int.y) c.args.v.now _ c.in-Int.is (c.int_compares.ensures ∙ ap (λ (z : Option Int). int_compares (operator_in c.args.operator) z (int_in c.in-Int.y)) c.requires)

pub returns-in-Text : goal.returns-in-Text
returns-in-Text c =
    operand-by c.args.e.now c.args.operator c.args.operand (Operand.Text c.in-Text.start c.in-Text.end) c.args.v.now _ c.in-Text.is (c.string_compares.ensures ∙ ap (string_compares (operator_in c.args.operator)) (c.same_bytes.ensures ∙ ap (λ (w : Bytes). same c.args.v.now w) c.span_of-text.ensures))
