-- `editor::runs::is_taken` meets its contract: the lesser of the two numbers is asked.
use mathlib.Core.Path.{◌∙◌}
use Rattle.editor.proofs.Running.{taken-short, taken-long}
use Rattle.editor.proofs.runs.is_taken.Goals as goal

pub returns-then-answers-lt-REQUESTS : goal.returns-then-answers-lt-REQUESTS
returns-then-answers-lt-REQUESTS c =
    c.is_run.ensures ∙ taken-short c.args.answers c.args.run.now c.if-answers-lt-REQUESTS.true

pub returns : goal.returns
returns c =
    c.is_run-2.ensures ∙ taken-long c.args.answers c.args.run.now c.if-answers-lt-REQUESTS.false
