-- `typing::symbols::symbol_byte` meets its contract.
use Rattle.typing.proofs.symbols.symbol_byte.Goals as goal

pub returns-then-is_later : goal.returns-then-is_later
returns-then-is_later c =
    rw (← c.is_later.ensures, c.if-is_later.true)

pub returns-else-is_later : goal.returns-else-is_later
returns-else-is_later c =
    rw (← c.is_later.ensures, c.if-is_later.false)
