-- `numbering::adding::stays_short` meets its contract.
use mathlib.Core.Path.{sym, ap, ◌∙◌}
use mathlib.Core.Bool.{Bool, ◌&&◌}
use lib.Dec.{leb}
use lib.ListN.{length}
use Rattle.numbering.proofs.adding.stays_short.Goals as goal

pub returns-then-short : goal.returns-then-short
returns-then-short c =
    sym (ap (λ (t : Bool). t && leb (length c.args.name.now) 64) c.if-short.true)

pub returns-else-short : goal.returns-else-short
returns-else-short c =
    c.if-short.false ∙ sym (ap (λ (t : Bool). t && leb (length c.args.name.now) 64) c.if-short.false)
