-- `rules::members::with_types` meets its contract.
use Prim.Native.Nat.{ℕ}
use mathlib.Core.Path.{sym, ap, ◌∙◌}
use mathlib.Core.Bool.{Bool}
use Rattle.format.specs.Bytes.{pick}
use Rattle.format.specs.Refusals.{no_of}
use Rattle.format.proofs.Least.{least}
use Rattle.rules.proofs.Leasts.{least-none}
use Rattle.rules.proofs.members.with_types.Goals as goal

pub returns-then-typed : goal.returns-then-typed
returns-then-typed c =
    least-none (no_of c.args.worst) (pick c.args.typed 0 12) (ap (λ (b : Bool). pick {A = ℕ} b 0 12) c.if-typed.true)

pub returns : goal.returns
returns c =
    c.lesser.ensures ∙ ap (λ (b : Bool). least (no_of c.args.worst) (pick b 0 12)) (sym c.if-typed.false)
