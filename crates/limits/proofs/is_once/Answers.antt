-- `limits::is_once` meets its contract.
use lib.Dec.{eqb}
use Rattle.limits.proofs.Opens.{once_by}
use Rattle.limits.proofs.is_once.Goals as goal

pub returns : goal.returns
returns c =
    once_by c.args.o.special (eqb c.args.o.recs 1)
