-- `editor::edit_run` meets its contract: a run is refused before anything else, one of no request changes nothing, and any other is sent.
use borrow.Author.Tests.{not-true, not-false}
use native.Mathlib.Omega.{arith}
use mathlib.Core.Path.{sym, ◌∙◌}
use lib.ListN.{length}
use Rattle.editor.proofs.Running.{taken-run, answer-refused, answer-sent, answer-none}
use mathlib.Core.Bool.{not}
use mathlib.Core.Path.{ap}
use Rattle.editor.proofs.edit_run.Goals as goal

pub returns-then-not-is_taken : goal.returns-then-not-is_taken
returns-then-not-is_taken c =
    answer-refused c.args.buf.now c.args.used c.args.run.now c.args.answers.now (sym c.is_taken.ensures ∙ not-true c.is_taken.result (ap not c.if-not-is_taken.true))

pub returns-then-run-eq0 : goal.returns-then-run-eq0
returns-then-run-eq0 c =
    answer-none c.args.buf.now c.args.used c.args.run.now c.args.answers.now (sym c.is_taken.ensures ∙ not-false c.is_taken.result (ap not c.if-not-is_taken.false)) (omega arith)

pub edit_each-n-requires : goal.edit_each-n-requires
edit_each-n-requires c =
    record { used_value = sym c.check_with-k.ensures; file_bytes_in_bounds = omega arith; run_value = taken-run (length c.args.answers.now) c.args.run.now (sym c.is_taken.ensures ∙ not-false c.is_taken.result (ap not c.if-not-is_taken.false)) }

pub returns : goal.returns
returns c =
    answer-sent c.args.buf.now c.args.used c.args.run.now c.args.answers.now c.edit_each-n.result c.edit_each-n.new.buf c.edit_each-n.new.answers (sym c.is_taken.ensures ∙ not-false c.is_taken.result (ap not c.if-not-is_taken.false)) c.edit_each-n.ensures
