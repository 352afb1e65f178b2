use native.Mathlib.Nat.{zero-add}
use native.Mathlib.Omega.{arith}
use mathlib.Core.Path.{ap}
use lib.ListN.{length}
use Rattle.values.specs.Value.{value_from, here}
use Rattle.values.proofs.Decoding.{ended, goes_on, reaches-on, value-length}
use Rattle.values.proofs.ends.measure.Goals as goal

pub loop-next-init : goal.loop-next-init
loop-next-init c =
    (here, zero-add (length (value_from c.args.v.now)))

pub overflow_sub-n : goal.overflow_sub-n
overflow_sub-n c =
    c.plain_end-end.ensures.on

pub overflow_add-n : goal.overflow_add-n
overflow_add-n c =
    omega (arith, c.loop-next.invariant.1, c.plain_end-end.ensures.on, c.plain_end-end.ensures.counted, value-length c.args.v.now)

pub returns-in_default : goal.returns-in_default
returns-in_default c =
    let e = ended c.args.v.now c.plain_end-end.result c.value_byte.result c.value_byte.ensures c.in_default.is in
    record { size = omega (arith, c.loop-next.invariant.1, c.plain_end-end.ensures.counted, ap length e); reached = reaches-on c.loop-next.invariant.0 c.plain_end-end.ensures.reached; rest = e }

pub overflow_add-n-in-loop-next : goal.overflow_add-n-in-loop-next
overflow_add-n-in-loop-next c =
    let e = goes_on c.args.v.now c.plain_end-end.result c.value_byte.result c.value_byte.ensures c.in-Some.is in
    omega (arith, c.loop-next.invariant.1, c.plain_end-end.ensures.on, c.plain_end-end.ensures.counted, ap length e.0, value-length c.args.v.now)

pub loop-next-smaller : goal.loop-next-smaller
loop-next-smaller c =
    let e = goes_on c.args.v.now c.plain_end-end.result c.value_byte.result c.value_byte.ensures c.in-Some.is in
    omega (arith, e.1, e.2, c.plain_end-end.ensures.on)

pub loop-next-preserved : goal.loop-next-preserved
loop-next-preserved c =
    let e = goes_on c.args.v.now c.plain_end-end.result c.value_byte.result c.value_byte.ensures c.in-Some.is in
    (reaches-on (reaches-on c.loop-next.invariant.0 c.plain_end-end.ensures.reached) e.3, omega (arith, c.loop-next.invariant.1, c.plain_end-end.ensures.on, c.plain_end-end.ensures.counted, ap length e.0))
