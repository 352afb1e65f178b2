-- `directory::count_at` meets its contract.
use Rattle.directory.proofs.Rows.{count-there, count_past}
use Rattle.directory.proofs.count_at.Goals as goal

pub returns-then-position-entries : goal.returns-then-position-entries
returns-then-position-entries c =
    count-there c.args.entries.now c.args.position c.if-position-entries.true

pub returns-else-position-entries : goal.returns-else-position-entries
returns-else-position-entries c =
    count_past c.args.entries.now c.args.position c.if-position-entries.false
