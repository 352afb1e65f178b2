-- `columns::text_of` meets its contract, kind by kind.
use mathlib.Core.Path.{sym, ap}
use Rattle.typing.specs.declared.Shape.{Shape}
use Rattle.columns.specs.Rows.{text_of}
use Rattle.columns.proofs.Shapes.{text-none}
use borrow.Enum.Refused.{opened}
use Rattle.columns.proofs.text_of.Goals as goal

pub returns-in-Enum : goal.returns-in-Enum
returns-in-Enum c =
    sym (ap (λ (k : Shape). text_of k c.args.value) c.in-Enum.is)

pub returns-in_default : goal.returns-in_default
returns-in_default c =
    text-none c.args.kind c.args.value (opened c.in_default.in_default-own.keys2)
