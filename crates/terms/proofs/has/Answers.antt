-- `terms::has` meets its contract: a shift finds the bit.
use mathlib.Core.Path.{sym}
use Rattle.terms.proofs.Sets.{in_shift}
use Rattle.terms.proofs.has.Goals as goal

pub returns : goal.returns
returns c =
    sym (in_shift c.args.k c.args.set)
