-- `recfile::recfile_fetch` meets its contract.
use mathlib.Core.Path.{sym, ◌∙◌}
use Rattle.recfile.proofs.Told.{filled-told}
use Rattle.recfile.proofs.recfile_fetch.Goals as goal

pub returns : goal.returns
returns c =
    let h = filled-told c.fetch-fetched.result _ 0 _ (sym c.fetch-fetched.ensures) in (c.tell.ensures.0 ∙ h.0, c.tell.ensures.1 ∙ h.1, h.2)
