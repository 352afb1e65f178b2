-- `recfile::recfile_edit_listed` meets its contract: what C is told of the answer.
use Rattle.format.specs.Directory.{kept_answer}
use Rattle.recfile.proofs.Telling.{kept-told}
use Rattle.recfile.proofs.recfile_edit_listed.Goals as goal

pub returns : goal.returns
returns c =
    kept-told c.edit-edited.result c.args.used c.tell.result c.tell.new.number c.tell.ensures.0 c.tell.ensures.1 c.edit-edited.new.buf c.edit-edited.new.entries (kept_answer c.args.buf.now c.args.used c.args.request.now c.args.entries.now) c.edit-edited.ensures
