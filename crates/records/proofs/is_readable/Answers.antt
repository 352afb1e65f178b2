use Prim.Native.Nat.{◌-◌}
use native.Mathlib.Omega.{arith}
use mathlib.Core.Path.{refl, sym, ◌∙◌}
use lib.ListN.{length}
use borrow.Author.Tests.{eq-eqb, ne_eqb}
use Rattle.lines.proofs.Cuts.{rest, ended-drop}
use Rattle.records.proofs.Looks.{last-ended, empty-readable, open-unreadable, looks}
use Rattle.records.proofs.is_readable.Goals as goal

pub returns-then-len-eq0 : goal.returns-then-len-eq0
returns-then-len-eq0 c =
    sym (empty-readable c.args.s.now c.if-len-eq0.true)

pub overflow_sub-len : goal.overflow_sub-len
overflow_sub-len c =
    omega (arith, c.if-len-eq0.false)

pub bounds-s-len : goal.bounds-s-len
bounds-s-len c =
    omega (arith, c.if-len-eq0.false)

pub returns-then-s-len-ne10 : goal.returns-then-s-len-ne10
returns-then-s-len-ne10 c =
    sym (open-unreadable c.args.s.now (last-ended c.args.s.now (length c.args.s.now - 1) (omega (arith, c.if-len-eq0.false)) ∙ ne_eqb _ _ c.if-s-len-ne10.true))

pub loop-size-init : goal.loop-size-init
loop-size-init c =
    (omega arith, last-ended c.args.s.now (length c.args.s.now - 1) (omega (arith, c.if-len-eq0.false)) ∙ eq-eqb _ _ c.if-s-len-ne10.false, refl)

pub next_piece-requires : goal.next_piece-requires
next_piece-requires c =
    record { s_value = rw (rest c.args.s.now c.loop-size.i) (ended-drop c.args.s.now c.loop-size.i c.loop-size.invariant.1) }

pub overflow_add-i : goal.overflow_add-i
overflow_add-i c =
    let p = looks c.args.s.now c.loop-size.i c.next_piece.result c.loop-size.invariant.1 c.next_piece.ensures c.in-Blank.is in
    omega (arith, p.2)

pub loop-size-smaller-in-Blank : goal.loop-size-smaller-in-Blank
loop-size-smaller-in-Blank c =
    let p = looks c.args.s.now c.loop-size.i c.next_piece.result c.loop-size.invariant.1 c.next_piece.ensures c.in-Blank.is in
    omega (arith, p.1, p.2)

pub loop-size-preserved-in-Blank : goal.loop-size-preserved-in-Blank
loop-size-preserved-in-Blank c =
    let p = looks c.args.s.now c.loop-size.i c.next_piece.result c.loop-size.invariant.1 c.next_piece.ensures c.in-Blank.is in
    (p.2, c.loop-size.invariant.1, c.loop-size.invariant.2 ∙ p.0)

pub overflow_add-i-in-Comment : goal.overflow_add-i-in-Comment
overflow_add-i-in-Comment c =
    let p = looks c.args.s.now c.loop-size.i c.next_piece.result c.loop-size.invariant.1 c.next_piece.ensures c.in-Comment.is in
    omega (arith, p.2)

pub loop-size-smaller-in-Comment : goal.loop-size-smaller-in-Comment
loop-size-smaller-in-Comment c =
    let p = looks c.args.s.now c.loop-size.i c.next_piece.result c.loop-size.invariant.1 c.next_piece.ensures c.in-Comment.is in
    omega (arith, p.1, p.2)

pub loop-size-preserved-in-Comment : goal.loop-size-preserved-in-Comment
loop-size-preserved-in-Comment c =
    let p = looks c.args.s.now c.loop-size.i c.next_piece.result c.loop-size.invariant.1 c.next_piece.ensures c.in-Comment.is in
    (p.2, c.loop-size.invariant.1, c.loop-size.invariant.2 ∙ p.0)

pub overflow_add-i-in-Field : goal.overflow_add-i-in-Field
overflow_add-i-in-Field c =
    let p = looks c.args.s.now c.loop-size.i c.next_piece.result c.loop-size.invariant.1 c.next_piece.ensures c.in-Field.is in
    omega (arith, p.2)

pub loop-size-smaller : goal.loop-size-smaller
loop-size-smaller c =
    let p = looks c.args.s.now c.loop-size.i c.next_piece.result c.loop-size.invariant.1 c.next_piece.ensures c.in-Field.is in
    omega (arith, p.1, p.2)

pub loop-size-preserved : goal.loop-size-preserved
loop-size-preserved c =
    let p = looks c.args.s.now c.loop-size.i c.next_piece.result c.loop-size.invariant.1 c.next_piece.ensures c.in-Field.is in
    (p.2, c.loop-size.invariant.1, c.loop-size.invariant.2 ∙ p.0)

pub returns-in-End : goal.returns-in-End
returns-in-End c =
    sym (c.loop-size.invariant.2 ∙ looks c.args.s.now c.loop-size.i c.next_piece.result c.loop-size.invariant.1 c.next_piece.ensures c.in-End.is)

pub returns-in-Fault : goal.returns-in-Fault
returns-in-Fault c =
    sym (c.loop-size.invariant.2 ∙ looks c.args.s.now c.loop-size.i c.next_piece.result c.loop-size.invariant.1 c.next_piece.ensures c.in-Fault.is)
