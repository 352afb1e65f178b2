-- `lines::same_bytes` meets its contract.
use mathlib.Core.Path.{◌∙◌}
use Rattle.lines.proofs.Scans.{same_pointwise}
use Rattle.lines.proofs.same_bytes.Goals as goal

pub returns : goal.returns
returns c = c.eq.ensures ∙ same_pointwise c.args.a.now c.args.b.now
