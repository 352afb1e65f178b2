-- `recfile::recfile_set_name` meets its contract.
use mathlib.Core.Path.{sym, ◌∙◌}
use Rattle.recfile.proofs.Told.{filled-told}
use Rattle.recfile.proofs.recfile_set_name.Goals as goal

pub returns : goal.returns
returns c =
    let h = filled-told c.set_name-named.result _ 0 _ (sym c.set_name-named.ensures) in (c.tell.ensures.0 ∙ h.0, c.tell.ensures.1 ∙ h.1, h.2)
