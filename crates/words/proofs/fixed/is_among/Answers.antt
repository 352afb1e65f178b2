-- `words::fixed::is_among` meets its contract: the place is before the number of the words.
use mathlib.Core.Path.{ap₂, ◌∙◌}
use lib.Dec.{ltb}
use Rattle.format.specs.Words.{words}
use Rattle.words.proofs.RuleNames.{place-among}
use Rattle.words.proofs.fixed.is_among.Goals as goal

pub returns : goal.returns
returns c =
    ap₂ ltb c.word_place.ensures c.requires ∙ place-among c.args.w.now (words c.args.list.now)
