use native.Mathlib.Nat.{zero-add}
use native.Mathlib.Omega.{arith}
use mathlib.Core.Path.{ap}
use lib.ListN.{length}
use Rattle.values.specs.Value.{value_from}
use Rattle.values.proofs.Decoding.{ended, goes_on, value-length}
use Rattle.values.proofs.value_len.Goals as goal

pub loop-next-init : goal.loop-next-init
loop-next-init c =
    zero-add (length (value_from c.args.s.now))

pub returns-in_default : goal.returns-in_default
returns-in_default c =
    let e = ended c.args.s.now c.loop-next.i c.value_byte.result c.value_byte.ensures c.in_default.is in
    omega (arith, ap length e)

pub overflow_add-n : goal.overflow_add-n
overflow_add-n c =
    let u = goes_on c.args.s.now c.loop-next.i c.value_byte.result c.value_byte.ensures c.in-Some.is in
    omega (arith, ap length u.0, value-length c.args.s.now)

pub loop-next-smaller : goal.loop-next-smaller
loop-next-smaller c =
    let u = goes_on c.args.s.now c.loop-next.i c.value_byte.result c.value_byte.ensures c.in-Some.is in
    omega (arith, u.1, u.2)

pub loop-next-preserved : goal.loop-next-preserved
loop-next-preserved c =
    let u = goes_on c.args.s.now c.loop-next.i c.value_byte.result c.value_byte.ensures c.in-Some.is in
    omega (arith, ap length u.0)
