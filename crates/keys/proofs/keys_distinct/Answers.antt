-- `keys::keys_distinct` meets its contract: the entries stand for the values.
use mathlib.Core.Path.{◌∙◌}
use Rattle.keys.proofs.Gathering.{gathered-inside, gathered-distinct}
use Rattle.keys.proofs.keys_distinct.Goals as goal

pub distinct_marks-requires : goal.distinct_marks-requires
distinct_marks-requires c =
    record { n_in_bounds = c.gather-n.ensures.room; inside = gathered-inside c.gather-n.ensures }

pub returns : goal.returns
returns c =
    c.distinct_marks.ensures ∙ gathered-distinct c.gather-n.ensures
