-- `typing::met::is_between` meets its contract.
use mathlib.Core.Path.{sym, ap, ◌∙◌}
use Rattle.format.specs.Types.{is_in_range}
use Rattle.numbers.specs.Meaning.{int_in, int_answer}
use Rattle.typing.proofs.met.is_between.Goals as goal

pub returns-in_default : goal.returns-in_default
returns-in_default c =
    sym (ap (is_in_range (int_in c.args.a) (int_in c.args.b)) (ap int_answer c.in_default.is))

pub returns-then-at_most : goal.returns-then-at_most
returns-then-at_most c =
    sym (ap (is_in_range (int_in c.args.a) (int_in c.args.b)) (ap int_answer c.in-Some.is) ∙ rw (← c.at_most.ensures, c.if-at_most.true, ← c.at_most-then-at_most.ensures))

pub returns-else-at_most : goal.returns-else-at_most
returns-else-at_most c =
    sym (ap (is_in_range (int_in c.args.a) (int_in c.args.b)) (ap int_answer c.in-Some.is) ∙ rw (← c.at_most.ensures, c.if-at_most.false))
