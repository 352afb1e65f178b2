-- `editor::runs::first_request` meets its contract: a length of two bytes, and as many bytes behind it.
use native.Mathlib.Omega.{arith}
use Rattle.editor.proofs.Running.{first-cut, first_past, first_ends}
use Rattle.editor.proofs.runs.first_request.Goals as goal

pub returns-then-run-lt2 : goal.returns-then-run-lt2
returns-then-run-lt2 c =
    first-cut c.args.run.now (omega (arith, c.requires)) c.if-run-lt2.true

pub overflow_cast-high : goal.overflow_cast-high
overflow_cast-high c =
    omega (arith, c.type_inv.run 0)

pub overflow_cast-low : goal.overflow_cast-low
overflow_cast-low c =
    omega (arith, c.type_inv.run 1)

pub overflow_mul-len : goal.overflow_mul-len
overflow_mul-len c =
    omega (arith, c.type_inv.run 0)

pub overflow_add-len : goal.overflow_add-len
overflow_add-len c =
    omega (arith, c.type_inv.run 0, c.type_inv.run 1)

pub returns-then-run-len : goal.returns-then-run-len
returns-then-run-len c =
    first_past c.args.run.now c.if-run-lt2.false (omega arith)

pub returns : goal.returns
returns c =
    first_ends c.args.run.now (omega arith)
