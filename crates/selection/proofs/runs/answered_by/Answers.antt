-- `selection::runs::answered_by` meets its contract.
use Rattle.selection.proofs.Running.{answered-on, answered-off}
use Rattle.selection.proofs.runs.answered_by.Goals as goal

pub returns-then-all-differ : goal.returns-then-all-differ
returns-then-all-differ c =
    answered-on c.args.x c.args.b c.differ.result c.differ.ensures c.if-all-differ.true

pub returns : goal.returns
returns c =
    answered-off c.args.x c.args.b c.differ.result c.differ.ensures c.if-all-differ.false
