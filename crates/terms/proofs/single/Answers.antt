-- `terms::single` meets its contract.
use Rattle.terms.proofs.Sets.{one_bit}
use Rattle.terms.proofs.single.Goals as goal

pub returns : goal.returns
returns c =
    one_bit c.args.k (c.requires)
