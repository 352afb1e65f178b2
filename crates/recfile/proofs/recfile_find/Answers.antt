-- `recfile::recfile_find` meets its contract.
use mathlib.Core.Path.{sym, ◌∙◌}
use Rattle.recfile.proofs.Told.{listed-told}
use Rattle.recfile.proofs.recfile_find.Goals as goal

pub returns : goal.returns
returns c =
    let h = listed-told c.find-found.result _ 0 _ (sym c.find-found.ensures) in (c.tell.ensures.0 ∙ h.0, c.tell.ensures.1 ∙ h.1, h.2)
