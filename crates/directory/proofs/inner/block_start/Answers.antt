use native.Mathlib.Omega.{arith}
use mathlib.Core.Path.{refl, sym, ◌∙◌}
use Rattle.records.proofs.Readings.{part-ended}
use Rattle.records.proofs.Steps.{part-formed, steps}
use Rattle.directory.proofs.Blocks.{block_none, block-blank, block-comment, block-field}
use Rattle.directory.proofs.inner.block_start.Goals as goal

pub loop-size-init : goal.loop-size-init
loop-size-init c =
    (omega arith, c.requires, refl)

pub read_piece-requires : goal.read_piece-requires
read_piece-requires c =
    record { s_value = part-ended c.args.s.now c.loop-size.i c.loop-size.invariant.1; s_value_2 = part-formed c.args.s.now c.loop-size.i c.loop-size.invariant.1 }

pub overflow_add-i : goal.overflow_add-i
overflow_add-i c =
    let p = steps c.args.s.now c.loop-size.i c.read_piece.result c.loop-size.invariant.1 c.read_piece.ensures c.in-Blank.is in
    omega (arith, p.1.inside)

pub loop-size-smaller-in-Blank : goal.loop-size-smaller-in-Blank
loop-size-smaller-in-Blank c =
    let p = steps c.args.s.now c.loop-size.i c.read_piece.result c.loop-size.invariant.1 c.read_piece.ensures c.in-Blank.is in
    omega (arith, p.1.inside, p.1.moves)

pub loop-size-preserved-in-Blank : goal.loop-size-preserved-in-Blank
loop-size-preserved-in-Blank c =
    let p = steps c.args.s.now c.loop-size.i c.read_piece.result c.loop-size.invariant.1 c.read_piece.ensures c.in-Blank.is in
    (p.1.inside, p.1.readable, c.loop-size.invariant.2 ∙ block-blank c.args.s.now c.loop-size.start c.loop-size.i c.in-Blank.size p.0 p.1)

pub overflow_add-i-in-Comment : goal.overflow_add-i-in-Comment
overflow_add-i-in-Comment c =
    let p = steps c.args.s.now c.loop-size.i c.read_piece.result c.loop-size.invariant.1 c.read_piece.ensures c.in-Comment.is in
    omega (arith, p.1.inside)

pub loop-size-smaller : goal.loop-size-smaller
loop-size-smaller c =
    let p = steps c.args.s.now c.loop-size.i c.read_piece.result c.loop-size.invariant.1 c.read_piece.ensures c.in-Comment.is in
    omega (arith, p.1.inside, p.1.moves)

pub loop-size-preserved : goal.loop-size-preserved
loop-size-preserved c =
    let p = steps c.args.s.now c.loop-size.i c.read_piece.result c.loop-size.invariant.1 c.read_piece.ensures c.in-Comment.is in
    (p.1.inside, p.1.readable, c.loop-size.invariant.2 ∙ block-comment c.args.s.now c.loop-size.start c.loop-size.i c.in-Comment.size p.0 p.1)

pub returns-in-Field : goal.returns-in-Field
returns-in-Field c =
    let p = steps c.args.s.now c.loop-size.i c.read_piece.result c.loop-size.invariant.1 c.read_piece.ensures c.in-Field.is in
    sym (c.loop-size.invariant.2 ∙ block-field c.args.s.now c.loop-size.start c.loop-size.i _ _ _ p)

pub returns-in-End : goal.returns-in-End
returns-in-End c =
    let p = steps c.args.s.now c.loop-size.i c.read_piece.result c.loop-size.invariant.1 c.read_piece.ensures c.in-End.is in
    sym (c.loop-size.invariant.2 ∙ block_none c.args.s.now c.loop-size.start c.loop-size.i p)

pub returns-in-Fault : goal.returns-in-Fault
returns-in-Fault c =
    absurd (steps c.args.s.now c.loop-size.i c.read_piece.result c.loop-size.invariant.1 c.read_piece.ensures c.in-Fault.is)
