-- `selection::programs::is_end` meets its contract.
use mathlib.Core.Path.{sym, ap, ◌∙◌}
use mathlib.Core.Bool.{Bool, ◌&&◌}
use lib.Dec.{eqb}
use Rattle.selection.specs.declared.programs.Step.{Step}
use Rattle.selection.proofs.Making.{step_same}
use Rattle.selection.proofs.programs.is_end.Goals as goal

pub returns-then-eq : goal.returns-then-eq
returns-then-eq c =
    ap (λ (b : Bool). b && eqb c.args.r.groups 0) (sym c.if-eq.true ∙ c.eq.ensures ∙ step_same c.args.r.stage Step.Read)

pub returns-else-eq : goal.returns-else-eq
returns-else-eq c =
    c.if-eq.false ∙ ap (λ (b : Bool). b && eqb c.args.r.groups 0) (sym c.if-eq.false ∙ c.eq.ensures ∙ step_same c.args.r.stage Step.Read)
