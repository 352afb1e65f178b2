-- `selection::programs::with_code` meets its contract.
use mathlib.Core.Path.{refl}
use Rattle.selection.proofs.Making.{code-added}
use Rattle.selection.proofs.programs.with_code.Goals as goal

pub returns : goal.returns
returns c =
    (code-added c.args.p c.args.c c.requires.0 c.requires.1, refl, refl)
