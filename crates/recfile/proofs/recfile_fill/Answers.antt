-- `recfile::recfile_fill` meets its contract: what C is told of the answer.
use Rattle.format.specs.Directory.{fill_answer}
use Rattle.recfile.proofs.Telling.{listed-told}
use Rattle.recfile.proofs.recfile_fill.Goals as goal

pub returns : goal.returns
returns c =
    listed-told c.fill-filled.result 0 c.tell.result c.tell.new.number c.tell.ensures.0 c.tell.ensures.1 c.fill-filled.new.entries (fill_answer c.args.buf.now c.args.used c.args.entries.now) c.fill-filled.ensures
