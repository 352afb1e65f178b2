-- `dictionary::wordsets::same_word` meets its contract: by how the words compare.
use mathlib.Core.Path.{◌∙◌}
use Rattle.dictionary.proofs.Firsts.{same_by}
use Rattle.dictionary.proofs.wordsets.same_word.Goals as goal

pub returns : goal.returns
returns c =
    c.is_eq.ensures ∙ same_by c.args.d.now c.args.x c.args.y c.place.result c.place-2.result c.place.ensures c.place-2.ensures c.compare_words.result c.compare_words.ensures
