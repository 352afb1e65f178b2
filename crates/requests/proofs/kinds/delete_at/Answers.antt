-- `requests::kinds::delete_at` meets its contract: a record, and nothing behind it.
use Rattle.requests.proofs.Kinding.{delete-fault, delete-reads}
use Rattle.requests.proofs.kinds.delete_at.Goals as goal

pub returns-in_err-row : goal.returns-in_err-row
returns-in_err-row c = rw c.from_residual.ensures (delete-fault c.args.req.now c.args.i c.in_err-row.ensures)

pub returns : goal.returns
returns c = delete-reads c.args.req.now c.args.i c.in_ok-row.row.value c.in_ok-row.row.next c.in_ok-row.ensures c.ending.result c.ending.ensures
