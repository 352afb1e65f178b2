-- `recfile_edit_run` meets its contract: what C is told of the run's answer.
use Rattle.recfile.proofs.Telling.{numbered-told}
use Rattle.format.specs.Runs.{run_answer}
use Rattle.recfile.proofs.recfile_edit_run.Goals as goal

pub returns : goal.returns
returns c =
    numbered-told c.edit_run-sent.result c.args.used c.tell.result c.tell.new.number c.tell.ensures.0 c.tell.ensures.1 c.edit_run-sent.new.buf c.edit_run-sent.new.answers (run_answer c.args.buf.now c.args.used c.args.run.now c.args.answers.now) c.edit_run-sent.ensures
