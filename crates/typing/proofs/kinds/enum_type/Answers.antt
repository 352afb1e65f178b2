-- `typing::kinds::enum_type` meets its contract.
use mathlib.Core.Path.{sym, ◌∙◌}
use Rattle.typing.proofs.TypeHeads.{told-enum, told-no-enum}
use Rattle.typing.proofs.kinds.enum_type.Goals as goal

pub returns-then-is_enum : goal.returns-then-is_enum
returns-then-is_enum c =
    told-enum c.args.s.now c.args.at (c.requires) (sym c.is_enum.ensures ∙ c.if-is_enum.true)

pub returns-else-is_enum : goal.returns-else-is_enum
returns-else-is_enum c =
    told-no-enum c.args.s.now c.args.at (c.requires) (sym c.is_enum.ensures ∙ c.if-is_enum.false)
