-- `recfile::recfile_write` meets its contract.
use mathlib.Core.Path.{◌∙◌}
use Rattle.recfile.proofs.Told.{filled-told}
use Rattle.recfile.proofs.recfile_write.Goals as goal

pub returns : goal.returns
returns c =
    let h = filled-told c.write_record-written.result _ 0 _ c.write_record-written.ensures in (c.tell.ensures.0 ∙ h.0, c.tell.ensures.1 ∙ h.1, h.2)
