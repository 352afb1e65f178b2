-- `numbering::types::is_counted` meets its contract, kind by kind.
use Rattle.numbering.proofs.Counted.{none-counted}
use borrow.Enum.Refused.{opened}
use Rattle.numbering.proofs.types.is_counted.Goals as goal

pub returns-in_default : goal.returns-in_default
returns-in_default c =
    none-counted c.args.kind (opened c.in_default.in_default-own.keys2)
