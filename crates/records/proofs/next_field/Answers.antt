use native.Mathlib.Omega.{arith}
use mathlib.Core.Path.{◌∙◌}
use Rattle.records.proofs.Readings.{part-ended}
use Rattle.records.proofs.Walks.{blank-loose, comment-loose}
use Rattle.records.proofs.Steps.{part-formed, steps, record-none}
use Rattle.records.proofs.NextFields.{fieldless-none, fieldless-on, fieldless-fields, field-here}
use Rattle.records.proofs.next_field.Goals as goal

pub loop-size-init : goal.loop-size-init
loop-size-init c =
    (omega arith, c.requires, fieldless-none c.args.s.now 0)

pub read_piece-requires : goal.read_piece-requires
read_piece-requires c =
    record { s_value = part-ended c.args.s.now c.loop-size.i c.loop-size.invariant.1; s_value_2 = part-formed c.args.s.now c.loop-size.i c.loop-size.invariant.1 }

pub overflow_add-i : goal.overflow_add-i
overflow_add-i c =
    let p = steps c.args.s.now c.loop-size.i c.read_piece.result c.loop-size.invariant.1 c.read_piece.ensures c.in-Blank.is in
    omega (arith, p.1.inside)

pub loop-size-smaller-in-Blank : goal.loop-size-smaller-in-Blank
loop-size-smaller-in-Blank c =
    let p = steps c.args.s.now c.loop-size.i c.read_piece.result c.loop-size.invariant.1 c.read_piece.ensures c.in-Blank.is in
    omega (arith, p.1.inside, p.1.moves)

pub loop-size-preserved-in-Blank : goal.loop-size-preserved-in-Blank
loop-size-preserved-in-Blank c =
    let p = steps c.args.s.now c.loop-size.i c.read_piece.result c.loop-size.invariant.1 c.read_piece.ensures c.in-Blank.is in
    (p.1.inside, p.1.readable, fieldless-on c.args.s.now 0 c.loop-size.i c.loop-size.invariant.2 _ c.in-Blank.size (blank-loose p.0) p.1)

pub overflow_add-i-in-Comment : goal.overflow_add-i-in-Comment
overflow_add-i-in-Comment c =
    let p = steps c.args.s.now c.loop-size.i c.read_piece.result c.loop-size.invariant.1 c.read_piece.ensures c.in-Comment.is in
    omega (arith, p.1.inside)

pub loop-size-smaller : goal.loop-size-smaller
loop-size-smaller c =
    let p = steps c.args.s.now c.loop-size.i c.read_piece.result c.loop-size.invariant.1 c.read_piece.ensures c.in-Comment.is in
    omega (arith, p.1.inside, p.1.moves)

pub loop-size-preserved : goal.loop-size-preserved
loop-size-preserved c =
    let p = steps c.args.s.now c.loop-size.i c.read_piece.result c.loop-size.invariant.1 c.read_piece.ensures c.in-Comment.is in
    (p.1.inside, p.1.readable, fieldless-on c.args.s.now 0 c.loop-size.i c.loop-size.invariant.2 _ c.in-Comment.size (comment-loose p.0) p.1)

pub overflow_add-result : goal.overflow_add-result
overflow_add-result c =
    let p = steps c.args.s.now c.loop-size.i c.read_piece.result c.loop-size.invariant.1 c.read_piece.ensures c.in-Field.is in
    omega (arith, p.passed.inside, p.name-inside)

pub overflow_add-result-in-Field : goal.overflow_add-result-in-Field
overflow_add-result-in-Field c =
    let p = steps c.args.s.now c.loop-size.i c.read_piece.result c.loop-size.invariant.1 c.read_piece.ensures c.in-Field.is in
    omega (arith, p.passed.inside, p.value-inside)

pub overflow_add-result-in-Field-2 : goal.overflow_add-result-in-Field-2
overflow_add-result-in-Field-2 c =
    let p = steps c.args.s.now c.loop-size.i c.read_piece.result c.loop-size.invariant.1 c.read_piece.ensures c.in-Field.is in
    omega (arith, p.passed.inside)

pub returns-in-Field : goal.returns-in-Field
returns-in-Field c =
    field-here c.args.s.now c.loop-size.i c.in-Field.name c.in-Field.value c.in-Field.size (steps c.args.s.now c.loop-size.i c.read_piece.result c.loop-size.invariant.1 c.read_piece.ensures c.in-Field.is) c.loop-size.invariant.1 c.loop-size.invariant.2

pub returns-in-End : goal.returns-in-End
returns-in-End c =
    fieldless-fields c.args.s.now 0 c.loop-size.i c.loop-size.invariant.2 ∙ record-none c.args.s.now c.loop-size.i (steps c.args.s.now c.loop-size.i c.read_piece.result c.loop-size.invariant.1 c.read_piece.ensures c.in-End.is)

pub returns-in-Fault : goal.returns-in-Fault
returns-in-Fault c =
    absurd (steps c.args.s.now c.loop-size.i c.read_piece.result c.loop-size.invariant.1 c.read_piece.ensures c.in-Fault.is)
