-- `typing::kinds::end_of` meets its contract.
use Rattle.typing.proofs.kinds.end_of.Goals as goal

pub returns-then-same_bytes : goal.returns-then-same_bytes
returns-then-same_bytes c =
    rw (← c.same_bytes.ensures, c.if-same_bytes.true)

pub returns-then-same_bytes-2 : goal.returns-then-same_bytes-2
returns-then-same_bytes-2 c =
    rw (← c.same_bytes.ensures, c.if-same_bytes.false, ← c.same_bytes-2.ensures, c.if-same_bytes-2.true)

pub returns : goal.returns
returns c =
    rw (← c.same_bytes.ensures, c.if-same_bytes.false, ← c.same_bytes-2.ensures, c.if-same_bytes-2.false) c.int_of.ensures
