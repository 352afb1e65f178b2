-- `selection::fields::int_compares` meets its contract.
use Rattle.std.specs.Prelude.{Some}
use Rattle.numbers.specs.Meaning.{int_in}
use Rattle.selection.proofs.Marking.{int-by}
use Rattle.selection.proofs.fields.int_compares.Goals as goal

pub returns-in-Some : goal.returns-in-Some
returns-in-Some c =
    int-by c.args.o c.args.x (Some c.in-Some.w) (int_in c.args.y) _ c.in-Some.is c.ints_compare.ensures
