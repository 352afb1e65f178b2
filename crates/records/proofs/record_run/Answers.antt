use native.Mathlib.Omega.{arith}
use mathlib.Core.Path.{refl, sym, ◌∙◌}
use Rattle.records.proofs.Readings.{part-ended}
use Rattle.records.proofs.Steps.{part-formed, steps, run_none, run-blank, run-comment, run-field}
use Rattle.records.proofs.record_run.Goals as goal

pub loop-size-init : goal.loop-size-init
loop-size-init c =
    (omega arith, c.requires, refl)

pub read_piece-requires : goal.read_piece-requires
read_piece-requires c =
    record { s_value = part-ended c.args.s.now c.loop-size.i c.loop-size.invariant.1; s_value_2 = part-formed c.args.s.now c.loop-size.i c.loop-size.invariant.1 }

pub overflow_add-i : goal.overflow_add-i
overflow_add-i c =
    let p = steps c.args.s.now c.loop-size.i c.read_piece.result c.loop-size.invariant.1 c.read_piece.ensures c.in-Comment.is in
    omega (arith, p.1.inside)

pub loop-size-smaller-in-Comment : goal.loop-size-smaller-in-Comment
loop-size-smaller-in-Comment c =
    let p = steps c.args.s.now c.loop-size.i c.read_piece.result c.loop-size.invariant.1 c.read_piece.ensures c.in-Comment.is in
    omega (arith, p.1.inside, p.1.moves)

pub loop-size-preserved-in-Comment : goal.loop-size-preserved-in-Comment
loop-size-preserved-in-Comment c =
    let p = steps c.args.s.now c.loop-size.i c.read_piece.result c.loop-size.invariant.1 c.read_piece.ensures c.in-Comment.is in
    (p.1.inside, p.1.readable, c.loop-size.invariant.2 ∙ run-comment c.args.s.now c.loop-size.i c.loop-size.end c.loop-size.descriptor p.0 c.in-Comment.size p.1)

pub overflow_add-e : goal.overflow_add-e
overflow_add-e c =
    let p = steps c.args.s.now c.loop-size.i c.read_piece.result c.loop-size.invariant.1 c.read_piece.ensures c.in-Field.is in
    omega (arith, p.passed.inside, p.name-inside)

pub slice_bounds-is_rec-end : goal.slice_bounds-is_rec-end
slice_bounds-is_rec-end c =
    let p = steps c.args.s.now c.loop-size.i c.read_piece.result c.loop-size.invariant.1 c.read_piece.ensures c.in-Field.is in
    omega (arith, p.passed.inside, p.name-inside)

pub overflow_add-i-in-Field : goal.overflow_add-i-in-Field
overflow_add-i-in-Field c =
    let p = steps c.args.s.now c.loop-size.i c.read_piece.result c.loop-size.invariant.1 c.read_piece.ensures c.in-Field.is in
    omega (arith, p.passed.inside)

pub loop-size-smaller : goal.loop-size-smaller
loop-size-smaller c =
    let p = steps c.args.s.now c.loop-size.i c.read_piece.result c.loop-size.invariant.1 c.read_piece.ensures c.in-Field.is in
    omega (arith, p.passed.inside, p.passed.moves)

pub loop-size-preserved : goal.loop-size-preserved
loop-size-preserved c =
    let s = c.args.s.now in
    let i = c.loop-size.i in
    let p = steps s i c.read_piece.result c.loop-size.invariant.1 c.read_piece.ensures c.in-Field.is in
    (p.passed.inside, p.passed.readable, c.loop-size.invariant.2 ∙ run-field s i c.loop-size.end c.loop-size.descriptor _ _ _ c.is_rec-here.result p c.is_rec-here.ensures)

pub returns-in-Blank : goal.returns-in-Blank
returns-in-Blank c =
    let p = steps c.args.s.now c.loop-size.i c.read_piece.result c.loop-size.invariant.1 c.read_piece.ensures c.in-Blank.is in
    sym (c.loop-size.invariant.2 ∙ run-blank c.args.s.now c.loop-size.i c.loop-size.end c.loop-size.descriptor p.0 c.in-Blank.size p.1)

pub returns-in-End : goal.returns-in-End
returns-in-End c =
    let p = steps c.args.s.now c.loop-size.i c.read_piece.result c.loop-size.invariant.1 c.read_piece.ensures c.in-End.is in
    sym (c.loop-size.invariant.2 ∙ run_none c.args.s.now c.loop-size.i c.loop-size.end c.loop-size.descriptor p)

pub returns-in-Fault : goal.returns-in-Fault
returns-in-Fault c =
    absurd (steps c.args.s.now c.loop-size.i c.read_piece.result c.loop-size.invariant.1 c.read_piece.ensures c.in-Fault.is)
