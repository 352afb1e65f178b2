-- `descriptors::sizes::size_signed` meets its contract.
use mathlib.Core.Path.{sym, ap, ◌∙◌}
use Rattle.format.specs.Rules.{order_of, size_by}
use Rattle.numbers.specs.Meaning.{natural_answer}
use Rattle.descriptors.proofs.Sizing.{no_number}
use Rattle.descriptors.proofs.sizes.size_signed.Goals as goal

pub returns-in-Some : goal.returns-in-Some
returns-in-Some c =
    c.size_by.ensures ∙ sym (ap (size_by (order_of c.args.sign.now)) (sym c.number_of.ensures ∙ ap natural_answer c.in-Some.is))

pub returns-in-None : goal.returns-in-None
returns-in-None c =
    sym (ap (size_by (order_of c.args.sign.now)) (sym c.number_of.ensures ∙ ap natural_answer c.in-None.is) ∙ no_number (order_of c.args.sign.now))
