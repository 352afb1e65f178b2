-- `rules::tallies::has_all` meets its contract: none is missing.
use Rattle.rules.proofs.Sets.{none-missing}
use Rattle.rules.proofs.tallies.has_all.Goals as goal

pub returns : goal.returns
returns c =
    none-missing c.args.n c.args.set c.missing.result c.missing.ensures
