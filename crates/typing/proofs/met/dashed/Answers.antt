-- `typing::met::dashed` meets its contract.
use Rattle.typing.proofs.met.dashed.Goals as goal

pub returns-then-are_digits : goal.returns-then-are_digits
returns-then-are_digits c =
    rw (← c.are_digits.ensures, c.if-are_digits.true)

pub returns-else-are_digits : goal.returns-else-are_digits
returns-else-are_digits c =
    rw (← c.are_digits.ensures, c.if-are_digits.false)
