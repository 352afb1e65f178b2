-- `typing::met::is_continuation` meets its contract.
use borrow.Author.Tests.{le-leb, lt-leb}
use Rattle.typing.proofs.met.is_continuation.Goals as goal

pub returns-then-c-ge128 : goal.returns-then-c-ge128
returns-then-c-ge128 c =
    rw (le-leb _ _ c.if-c-ge128.true)

pub returns-else-c-ge128 : goal.returns-else-c-ge128
returns-else-c-ge128 c =
    rw (lt-leb _ _ c.if-c-ge128.false)
