-- `requests::fields::place_at` meets its contract: a record, a name and an occurrence, one behind the other.
use Rattle.requests.proofs.Reading.{no_row, no-place-name, no-occurrence, whole-place}
use Rattle.requests.proofs.fields.place_at.Goals as goal

pub returns-in_err-row : goal.returns-in_err-row
returns-in_err-row c = rw c.from_residual.ensures (no_row c.args.req.now c.args.i c.in_err-row.ensures)

pub returns-in_err-name : goal.returns-in_err-name
returns-in_err-name c = rw c.from_residual-in_err-name.ensures (no-place-name c.args.req.now c.args.i c.in_ok-row.row.value c.in_ok-row.row.next c.in_ok-row.ensures c.in_err-name.ensures)

pub returns-in_err-occurrence : goal.returns-in_err-occurrence
returns-in_err-occurrence c =
    rw c.from_residual-in_err-occurrence.ensures (no-occurrence c.args.req.now c.args.i c.in_ok-row.row.value c.in_ok-row.row.next c.in_ok-row.ensures c.in_ok-name.name c.in_ok-name.ensures c.in_err-occurrence.ensures)

pub returns : goal.returns
returns c =
    whole-place c.args.req.now c.args.i c.in_ok-row.row.value c.in_ok-row.row.next c.in_ok-row.ensures c.in_ok-name.name c.in_ok-name.ensures c.in_ok-occurrence.occurrence.value c.in_ok-occurrence.occurrence.next c.in_ok-occurrence.ensures
