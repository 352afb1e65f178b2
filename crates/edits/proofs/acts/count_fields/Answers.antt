use native.Mathlib.Omega.{arith}
use mathlib.Core.Path.{ap}
use lib.ListN.{length}
use Rattle.records.proofs.Readings.{part-readable}
use Rattle.records.proofs.NextFields.{next-told}
use Rattle.edits.proofs.acts.count_fields.Goals as goal

pub loop-end-init : goal.loop-end-init
loop-end-init c =
    (omega arith, c.requires, omega arith, omega arith)

pub next_field-requires : goal.next_field-requires
next_field-requires c =
    (part-readable c.args.s.now c.loop-end.i c.loop-end.invariant.1)

pub returns-in_default : goal.returns-in_default
returns-in_default c =
    let h = next-told c.args.s.now c.loop-end.i c.next_field.result c.next_field.ensures c.in_default.is in
    omega (arith, c.loop-end.invariant.3, ap length h)

pub overflow_add-n : goal.overflow_add-n
overflow_add-n c =
    omega (arith, c.well_formed.0.0, c.loop-end.invariant.0, c.loop-end.invariant.2)

pub overflow_add-i : goal.overflow_add-i
overflow_add-i c =
    let h = next-told c.args.s.now c.loop-end.i c.next_field.result c.next_field.ensures c.in-Some.is in
    omega (arith, h.inside)

pub loop-end-smaller : goal.loop-end-smaller
loop-end-smaller c =
    let h = next-told c.args.s.now c.loop-end.i c.next_field.result c.next_field.ensures c.in-Some.is in
    omega (arith, h.begins, h.moves, h.inside)

pub loop-end-preserved : goal.loop-end-preserved
loop-end-preserved c =
    let h = next-told c.args.s.now c.loop-end.i c.next_field.result c.next_field.ensures c.in-Some.is in
    (h.inside, h.readable, omega (arith, c.loop-end.invariant.2, h.begins, h.moves), omega (arith, c.loop-end.invariant.3, ap length h.fields))
