-- `descriptors::sizes::size_exactly` meets its contract.
use mathlib.Core.Path.{sym, ap, ◌∙◌}
use mathlib.Core.Option.{some}
use lib.Dec.{eqb}
use Rattle.format.specs.Rules.{size_by}
use Rattle.numbers.specs.Meaning.{natural_answer}
use Rattle.descriptors.proofs.sizes.size_exactly.Goals as goal

pub returns-in-Some : goal.returns-in-Some
returns-in-Some c =
    sym (ap (size_by (some (λ m n. eqb m n))) (sym c.number_of.ensures ∙ ap natural_answer c.in-Some.is))

pub returns-in-None : goal.returns-in-None
returns-in-None c =
    sym (ap (size_by (some (λ m n. eqb m n))) (sym c.number_of.ensures ∙ ap natural_answer c.in-None.is))
