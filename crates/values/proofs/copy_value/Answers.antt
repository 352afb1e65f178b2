use native.Mathlib.Nat.{zero-add}
use native.Mathlib.Numerals.{add-one}
use native.Mathlib.Omega.{arith}
use mathlib.Core.Path.{refl, ap, ◌∙◌}
use lib.ListN.{length, length-set}
use Rattle.values.specs.Value.{value_from}
use Rattle.lines.proofs.Over.{over-sets}
use Rattle.values.proofs.Decoding.{ended, goes_on}
use Rattle.values.proofs.copy_value.Goals as goal

pub loop-byte-init : goal.loop-byte-init
loop-byte-init c =
    (refl, zero-add (length (value_from c.args.s.now)), refl)

pub returns-in_default : goal.returns-in_default
returns-in_default c =
    let e = ended c.args.s.now c.loop-byte.i c.value_byte.result c.value_byte.ensures c.in_default.is in
    (omega (arith, ap length e), rw e at c.loop-byte.invariant.2 ∙ over-sets (value_from c.args.s.now) c.args.out.now (c.requires))

pub bounds-out-n : goal.bounds-out-n
bounds-out-n c =
    let u = goes_on c.args.s.now c.loop-byte.i c.value_byte.result c.value_byte.ensures c.in-Some.is in
    omega (arith, ap length u.0)

pub overflow_add-n : goal.overflow_add-n
overflow_add-n c =
    let u = goes_on c.args.s.now c.loop-byte.i c.value_byte.result c.value_byte.ensures c.in-Some.is in
    omega (arith, ap length u.0)

pub loop-byte-smaller : goal.loop-byte-smaller
loop-byte-smaller c =
    let u = goes_on c.args.s.now c.loop-byte.i c.value_byte.result c.value_byte.ensures c.in-Some.is in
    omega (arith, u.1, u.2)

pub loop-byte-preserved : goal.loop-byte-preserved
loop-byte-preserved c =
    let u = goes_on c.args.s.now c.loop-byte.i c.value_byte.result c.value_byte.ensures c.in-Some.is in
    (simp length-set c.loop-byte.invariant.0, omega (arith, ap length u.0), rw add-one (rw u.0 at c.loop-byte.invariant.2))
