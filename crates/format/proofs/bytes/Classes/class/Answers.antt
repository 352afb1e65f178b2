-- By the table's rule at one entry.
use Rattle.std.proofs.Common.{rules}
use Rattle.format.proofs.Table.{class-at}
use Rattle.format.proofs.bytes.Classes.class.Goals as goal

pub returns : goal.returns
returns c = rw c.args.self.now.right (class-at c.args.b (search rules))
