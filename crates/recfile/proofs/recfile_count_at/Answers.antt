-- `recfile::recfile_count_at` meets its contract.
use mathlib.Core.Path.{ap, ◌∙◌}
use Rattle.format.specs.Calls.{number_in, value_or}
use Rattle.recfile.proofs.recfile_count_at.Goals as goal

pub returns : goal.returns
returns c =
    (c.tell.ensures.0 ∙ ap (value_or 0) c.count_at-count.ensures, c.tell.ensures.1 ∙ ap number_in c.count_at-count.ensures)
