-- `requests::kinds::add_at` meets its contract: a record and a pair.
use Rattle.requests.proofs.Kinding.{add-fault, add-no-pair, add_reads}
use Rattle.requests.proofs.kinds.add_at.Goals as goal

pub returns-in_err-row : goal.returns-in_err-row
returns-in_err-row c = rw c.from_residual.ensures (add-fault c.args.req.now c.args.i c.in_err-row.ensures)

pub returns-in_err-pair : goal.returns-in_err-pair
returns-in_err-pair c = rw c.from_residual-in_err-pair.ensures (add-no-pair c.args.req.now c.args.i c.in_ok-row.row.value c.in_ok-row.row.next c.in_ok-row.ensures c.in_err-pair.ensures)

pub returns : goal.returns
returns c =
    add_reads c.args.req.now c.args.i c.in_ok-row.row.value c.in_ok-row.row.next c.in_ok-row.ensures c.in_ok-pair.pair.name c.in_ok-pair.pair.value c.in_ok-pair.pair.next c.in_ok-pair.ensures c.ending.result c.ending.ensures
