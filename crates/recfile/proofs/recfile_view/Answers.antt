-- `recfile::recfile_view` meets its contract.
use lib.ListN.{take}
use mathlib.Core.Path.{◌∙◌}
use Rattle.recfile.proofs.Told.{view-ordered, view_tells, view-refused}
use Rattle.recfile.proofs.recfile_view.Goals as goal

pub overflow_sub-end : goal.overflow_sub-end
overflow_sub-end c =
    view-ordered (take c.args.used c.args.buf.now) c.view_place.result _ c.view_place.ensures c.in-Ok.field-0.start c.in-Ok.field-0.end c.in-Ok.is

pub returns-in-Ok : goal.returns-in-Ok
returns-in-Ok c =
    let h = view_tells (take c.args.used c.args.buf.now) c.view_place.result _ c.view_place.ensures c.in-Ok.field-0.start c.in-Ok.field-0.end c.in-Ok.is in
    (c.tell.ensures.0 ∙ h.0, h.1, c.tell.ensures.1 ∙ h.2)

pub returns-in-Err : goal.returns-in-Err
returns-in-Err c =
    let h = view-refused (take c.args.used c.args.buf.now) c.view_place.result _ c.view_place.ensures c.in-Err.refusal c.in-Err.is in
    (c.tell-in-Err.ensures.0 ∙ h.0, h.1, c.tell-in-Err.ensures.1 ∙ h.2)
