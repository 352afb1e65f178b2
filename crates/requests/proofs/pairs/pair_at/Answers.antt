-- `requests::pairs::pair_at` meets its contract: a name and the value behind it.
use Rattle.requests.proofs.Pairing.{no_name}
use Rattle.requests.proofs.pairs.pair_at.Goals as goal

pub returns-in_err-name : goal.returns-in_err-name
returns-in_err-name c = rw c.from_residual.ensures (no_name c.args.req.now c.args.i c.in_err-name.ensures)
