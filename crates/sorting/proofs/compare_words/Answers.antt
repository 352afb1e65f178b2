use native.Mathlib.Omega.{arith}
use mathlib.Core.Path.{refl, sym, ◌∙◌}
use mathlib.Core.Bool.{true}
use Rattle.sorting.specs.Order.{compared_of}
use Rattle.sorting.proofs.Texts.{text-told}
use Rattle.sorting.proofs.Order.{compared-cmp, compared-eq}
use Rattle.sorting.proofs.compare_words.Goals as goal

pub loop-c-init : goal.loop-c-init
loop-c-init c = refl

pub returns-in_default-y : goal.returns-in_default-y
unfolding compared_of
returns-in_default-y c =
    let e = text-told true c.args.s.now c.loop-c.a c.text_byte-x.result c.text_byte-x.ensures c.in_default.is in
    let f = text-told true c.args.s.now c.loop-c.b c.text_byte-y.result c.text_byte-y.ensures c.in_default-y.is in
    rw (e, f) at c.loop-c.invariant

pub returns-in_default : goal.returns-in_default
unfolding compared_of
returns-in_default c =
    let e = text-told true c.args.s.now c.loop-c.a c.text_byte-x.result c.text_byte-x.ensures c.in_default.is in
    let f = text-told true c.args.s.now c.loop-c.b c.text_byte-y.result c.text_byte-y.ensures c.in-Some-y.is in
    rw (e, f.0) at c.loop-c.invariant

pub returns-in_default-y-2 : goal.returns-in_default-y-2
unfolding compared_of
returns-in_default-y-2 c =
    let e = text-told true c.args.s.now c.loop-c.a c.text_byte-x.result c.text_byte-x.ensures c.in-Some.is in
    let f = text-told true c.args.s.now c.loop-c.b c.text_byte-y.result c.text_byte-y.ensures c.in_default-y-2.is in
    rw (e.0, f) at c.loop-c.invariant

pub returns-then-c-d : goal.returns-then-c-d
returns-then-c-d c =
    let e = text-told true c.args.s.now c.loop-c.a c.text_byte-x.result c.text_byte-x.ensures c.in-Some.is in
    let f = text-told true c.args.s.now c.loop-c.b c.text_byte-y.result c.text_byte-y.ensures c.in-Some-y-2.is in
    c.cmp.ensures ∙ sym (compared-cmp _ _ _ _ c.if-c-d.true) ∙ (rw (e.0, f.0) at c.loop-c.invariant)

pub loop-c-smaller : goal.loop-c-smaller
loop-c-smaller c =
    let e = text-told true c.args.s.now c.loop-c.a c.text_byte-x.result c.text_byte-x.ensures c.in-Some.is in
    omega (arith, e.1, e.2)

pub loop-c-preserved : goal.loop-c-preserved
loop-c-preserved c =
    let e = text-told true c.args.s.now c.loop-c.a c.text_byte-x.result c.text_byte-x.ensures c.in-Some.is in
    let f = text-told true c.args.s.now c.loop-c.b c.text_byte-y.result c.text_byte-y.ensures c.in-Some-y-2.is in
    rw (e.0, f.0, compared-eq _ _ _ _ c.if-c-d.false) at c.loop-c.invariant
