-- `dictionary::wordsets::with_place` meets its contract.
use mathlib.Core.Path.{sym, ap, ◌∙◌}
use mathlib.Core.Bool.{Bool, ◌&&◌, ◌||◌, or-false}
use lib.Dec.{eqb}
use Rattle.terms.specs.Sets.{in_set}
use Rattle.dictionary.proofs.Sets.{in-with}
use Rattle.dictionary.proofs.wordsets.with_place.Goals as goal

pub returns-then-more : goal.returns-then-more
returns-then-more c =
    λ j. in-with j c.args.k c.args.set c.requires ∙ sym (ap (λ (b : Bool). in_set j c.args.set || (b && eqb j c.args.k)) c.if-more.true)

pub returns-else-more : goal.returns-else-more
returns-else-more c =
    λ j. sym (ap (λ (b : Bool). in_set j c.args.set || (b && eqb j c.args.k)) c.if-more.false ∙ or-false (in_set j c.args.set))
