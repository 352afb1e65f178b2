-- `values::ints::int_in` meets its contract.
use mathlib.Core.Path.{ap, ◌∙◌}
use Rattle.format.specs.Numbers.{int_bounds, int_of}
use Rattle.values.proofs.ints.int_in.Goals as goal

pub returns : goal.returns
returns c =
    c.int_of.ensures ∙ ap (int_of int_bounds) c.trimmed-t.ensures.2
