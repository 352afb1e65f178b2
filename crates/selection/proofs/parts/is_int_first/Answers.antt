-- `selection::parts::is_int_first` meets its contract.
use mathlib.Core.Path.{◌∙◌}
use borrow.Author.Tests.{eq-eqb, lt-leb}
use Rattle.selection.proofs.Marks.{begins-minus, begins-digit, begins-other}
use Rattle.selection.proofs.parts.is_int_first.Goals as goal

pub returns-then-b-eq45 : goal.returns-then-b-eq45
returns-then-b-eq45 c = eq-eqb c.args.b 45 c.if-b-eq45.true ∙ begins-minus c.args.b c.if-b-eq45.true

pub returns-then-b-ge48 : goal.returns-then-b-ge48
returns-then-b-ge48 c = begins-digit c.args.b c.if-b-eq45.false c.if-b-ge48.true

pub returns-else-b-ge48 : goal.returns-else-b-ge48
returns-else-b-ge48 c = lt-leb 48 c.args.b c.if-b-ge48.false ∙ begins-other c.args.b c.if-b-eq45.false c.if-b-ge48.false
