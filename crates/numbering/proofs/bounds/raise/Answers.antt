-- `numbering::bounds::raise` meets its contract.
use native.Mathlib.Omega.{arith}
use mathlib.Core.Path.{ap}
use Rattle.format.specs.Numbering.{from}
use Rattle.numbers.specs.Meaning.{int_in}
use Rattle.numbers.specs.declared.Whole.{Whole}
use Rattle.numbering.proofs.bounds.raise.Goals as goal

pub returns-in-Plus : goal.returns-in-Plus
returns-in-Plus c =
    let e = ap (λ (y : Whole). from (int_in y)) c.in-Plus.is in
    omega (arith, e, c.max.ensures)

pub returns-in-Minus : goal.returns-in-Minus
returns-in-Minus c =
    let e = ap (λ (y : Whole). from (int_in y)) c.in-Minus.is in
    omega (arith, e)
