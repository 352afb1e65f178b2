-- `typedefs::index_from` meets its contract: the first tag that the table has for a name is the number of the first typedef of that name.
use mathlib.Core.Path.{◌∙◌}
use Rattle.typedefs.proofs.Numbered.{found-index}
use Rattle.typedefs.proofs.index_from.Goals as goal

pub find-set-requires : goal.find-set-requires
find-set-requires c =
    c.requires.0.table

pub first_tag-requires : goal.first_tag-requires
first_tag-requires c =
    (c.requires.1, c.requires.0.values.few)

pub returns : goal.returns
returns c =
    c.first_tag.ensures ∙ found-index c.args.d.now c.args.names c.requires.0 c.args.name.now c.find-set.result c.find-set.ensures c.args.from c.requires.1
