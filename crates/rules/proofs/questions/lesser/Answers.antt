-- `rules::questions::lesser` meets its contract.
use native.Mathlib.Omega.{arith}
use mathlib.Core.Path.{sym, ap}
use Rattle.format.specs.Refusals.{no_of}
use Rattle.format.proofs.Least.{least}
use Rattle.rules.proofs.Leasts.{least-none, least-min, errs}
use Rattle.rules.proofs.questions.lesser.Goals as goal

pub returns-in_default : goal.returns-in_default
returns-in_default c =
    ap (λ x. least (no_of x) (no_of c.args.b)) (sym c.in_default.is)

pub returns-then-number : goal.returns-then-number
returns-then-number c =
    omega (arith, least-min (no_of c.args.a) (no_of c.args.b) (errs c.args.a c.in-Err.p c.in-Err.is) (errs c.args.b c.in-Err-b.q c.in-Err-b.is), ap no_of c.in-Err.is, ap no_of c.in-Err-b.is)

pub returns-else-number : goal.returns-else-number
returns-else-number c =
    omega (arith, least-min (no_of c.args.a) (no_of c.args.b) (errs c.args.a c.in-Err.p c.in-Err.is) (errs c.args.b c.in-Err-b.q c.in-Err-b.is), ap no_of c.in-Err.is, ap no_of c.in-Err-b.is)
