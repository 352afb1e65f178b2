-- `selection::programs::with_row` meets its contract.
use Rattle.selection.proofs.Making.{row-added}
use Rattle.selection.proofs.programs.with_row.Goals as goal

pub returns : goal.returns
returns c =
    row-added c.args.p c.args.row c.requires.0 c.requires.1
