-- `descriptors::shapes::content_of` meets its contract.
use mathlib.Core.Path.{sym, ◌∙◌}
use Rattle.descriptors.proofs.Contents.{asks-plain}
use Rattle.descriptors.proofs.shapes.content_of.Goals as goal

pub special_content-requires : goal.special_content-requires
special_content-requires c =
    sym c.is_special.ensures ∙ c.if-is_special.true

pub returns-then-is_special : goal.returns-then-is_special
returns-then-is_special c =
    c.special_content.ensures

pub returns-else-is_special : goal.returns-else-is_special
returns-else-is_special c =
    asks-plain c.args.name.now (sym c.is_special.ensures ∙ c.if-is_special.false)
