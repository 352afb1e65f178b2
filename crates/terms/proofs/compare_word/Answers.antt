use native.Mathlib.Omega.{arith}
use mathlib.Core.Path.{refl, sym, ◌∙◌}
use mathlib.Core.Bool.{true}
use lib.ListN.{drop_of_length-le}
use Rattle.lines.proofs.Cuts.{at-cons}
use Rattle.sorting.specs.Order.{compared_of}
use Rattle.sorting.proofs.Texts.{text-told}
use Rattle.sorting.proofs.Order.{compared-cmp, compared-eq}
use Rattle.terms.proofs.compare_word.Goals as goal

pub loop-byte-init : goal.loop-byte-init
loop-byte-init c = (omega arith, refl)

pub returns-then-n-w : goal.returns-then-n-w
unfolding compared_of
returns-then-n-w c =
    let e = text-told true c.args.s.now c.loop-byte.i c.text_byte.result c.text_byte.ensures c.in_default.is in
    rw (e, at-cons c.args.w.now c.loop-byte.n c.if-n-w.true) at c.loop-byte.invariant.1

pub returns-in_default : goal.returns-in_default
unfolding compared_of
returns-in_default c =
    let e = text-told true c.args.s.now c.loop-byte.i c.text_byte.result c.text_byte.ensures c.in_default.is in
    rw (e, drop_of_length-le c.args.w.now c.if-n-w.false) at c.loop-byte.invariant.1

pub returns-then-w-n : goal.returns-then-w-n
unfolding compared_of
returns-then-w-n c =
    let e = text-told true c.args.s.now c.loop-byte.i c.text_byte.result c.text_byte.ensures c.in-Some.is in
    rw (e.0, drop_of_length-le c.args.w.now c.if-w-n.true) at c.loop-byte.invariant.1

pub returns-then-byte-b : goal.returns-then-byte-b
returns-then-byte-b c =
    let e = text-told true c.args.s.now c.loop-byte.i c.text_byte.result c.text_byte.ensures c.in-Some.is in
    c.cmp.ensures ∙ sym (compared-cmp _ _ _ _ c.if-byte-b.true) ∙ (rw (e.0, at-cons c.args.w.now c.loop-byte.n c.if-w-n.false) at c.loop-byte.invariant.1)

pub loop-byte-smaller : goal.loop-byte-smaller
loop-byte-smaller c =
    let e = text-told true c.args.s.now c.loop-byte.i c.text_byte.result c.text_byte.ensures c.in-Some.is in
    omega (arith, e.1, e.2)

pub loop-byte-preserved : goal.loop-byte-preserved
loop-byte-preserved c =
    let e = text-told true c.args.s.now c.loop-byte.i c.text_byte.result c.text_byte.ensures c.in-Some.is in
    (omega arith, rw (e.0, at-cons c.args.w.now c.loop-byte.n c.if-w-n.false, compared-eq _ _ _ _ c.if-byte-b.false) at c.loop-byte.invariant.1)
