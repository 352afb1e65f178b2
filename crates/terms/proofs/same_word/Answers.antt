-- `terms::same_word` meets its contract.
use mathlib.Core.Path.{ap, ◌∙◌}
use Rattle.std.specs.Ordering.{is_eq}
use Rattle.terms.specs.Entries.{word_at}
use Rattle.terms.proofs.Order.{equal-told}
use Rattle.terms.proofs.same_word.Goals as goal

pub returns : goal.returns
returns c =
    c.is_eq.ensures ∙ ap is_eq c.compare_entries.ensures ∙ equal-told (word_at c.args.s.now c.args.x) (word_at c.args.s.now c.args.y)
