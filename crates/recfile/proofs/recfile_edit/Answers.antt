-- `recfile::recfile_edit` meets its contract.
use mathlib.Core.Path.{◌∙◌}
use Rattle.recfile.proofs.Told.{filled-told}
use Rattle.recfile.proofs.recfile_edit.Goals as goal

pub returns : goal.returns
returns c =
    let h = filled-told c.edit-edited.result _ c.args.used _ c.edit-edited.ensures in (c.tell.ensures.0 ∙ h.0, c.tell.ensures.1 ∙ h.1, h.2)
