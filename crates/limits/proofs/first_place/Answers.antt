-- `limits::first_place` meets its contract, case by case.
use mathlib.Core.Path.{sym, ap}
use mathlib.Core.Bool.{Bool}
use borrow.Author.Tests.{eq-eqb, ne_eqb}
use Rattle.format.specs.Bytes.{pick}
use Rattle.limits.proofs.first_place.Goals as goal

pub returns-then-fields-eq0 : goal.returns-then-fields-eq0
returns-then-fields-eq0 c =
    sym (ap (λ (b : Bool). pick b c.args.here c.args.there) (eq-eqb c.args.fields 0 c.if-fields-eq0.true))

pub returns : goal.returns
returns c =
    sym (ap (λ (b : Bool). pick b c.args.here c.args.there) (ne_eqb c.args.fields 0 c.if-fields-eq0.false))
