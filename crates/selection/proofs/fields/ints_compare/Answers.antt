-- `selection::fields::ints_compare` meets its contract.
use mathlib.Core.Path.{ap}
use mathlib.Core.Bool.{◌&&◌, not}
use Rattle.numbers.specs.Meaning.{int_in}
use Rattle.selection.proofs.Marking.{ints-by}
use Rattle.selection.proofs.fields.ints_compare.Goals as goal

pub returns-in-Equals : goal.returns-in-Equals
returns-in-Equals c =
    ints-by c.args.o _ c.in-Equals.is _ (int_in c.args.x) (int_in c.args.y) (λ i. (c.at_most-low.ensures i && c.at_most-high.ensures i))

pub returns-in-Differs : goal.returns-in-Differs
returns-in-Differs c =
    ints-by c.args.o _ c.in-Differs.is _ (int_in c.args.x) (int_in c.args.y) (λ i. not (c.at_most-low.ensures i && c.at_most-high.ensures i))

pub returns-in-LessThan : goal.returns-in-LessThan
returns-in-LessThan c =
    ints-by c.args.o _ c.in-LessThan.is _ (int_in c.args.x) (int_in c.args.y) (ap not c.at_most-high.ensures)

pub returns-in-AtMost : goal.returns-in-AtMost
returns-in-AtMost c =
    ints-by c.args.o _ c.in-AtMost.is _ (int_in c.args.x) (int_in c.args.y) c.at_most-low.ensures

pub returns-in-MoreThan : goal.returns-in-MoreThan
returns-in-MoreThan c =
    ints-by c.args.o _ c.in-MoreThan.is _ (int_in c.args.x) (int_in c.args.y) (ap not c.at_most-low.ensures)

pub returns-in-AtLeast : goal.returns-in-AtLeast
returns-in-AtLeast c =
    ints-by c.args.o _ c.in-AtLeast.is _ (int_in c.args.x) (int_in c.args.y) c.at_most-high.ensures
