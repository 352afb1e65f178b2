use native.Mathlib.Omega.{arith}
use mathlib.Core.Path.{sym, ap, ◌∙◌}
use lib.ListN.{length}
use Rattle.values.proofs.Backwards.{none_before, comes-before}
use Rattle.values.proofs.Endings.{place-before, first_ended, second_ended, differs, alike-before}
use Rattle.values.proofs.ends.last_difference.Goals as goal

pub loop-c-init : goal.loop-c-init
loop-c-init c =
    (c.requires.0.reached, c.requires.1.reached, c.requires.0.rest ∙ sym c.requires.1.rest, omega (arith, c.requires.0.size, ap length c.requires.0.rest))

pub byte_before-x-requires : goal.byte_before-x-requires
byte_before-x-requires c =
    c.loop-c.invariant.0

pub byte_before-y-requires : goal.byte_before-y-requires
byte_before-y-requires c =
    c.loop-c.invariant.1

pub returns-in_default : goal.returns-in_default
returns-in_default c =
    first_ended c.args.a.now c.args.b.now c.loop-c.p c.loop-c.q (c.requires.0.size ∙ sym c.requires.1.size) c.loop-c.invariant.2 c.loop-c.invariant.1 (none_before c.args.a.now c.loop-c.p c.byte_before-x.result c.byte_before-x.ensures c.in_default.is)

pub returns-in_default-y : goal.returns-in_default-y
returns-in_default-y c =
    second_ended c.args.a.now c.args.b.now c.loop-c.p c.loop-c.q (c.requires.0.size ∙ sym c.requires.1.size) c.loop-c.invariant.2 c.loop-c.invariant.0 (none_before c.args.b.now c.loop-c.q c.byte_before-y.result c.byte_before-y.ensures c.in_default-y.is)

pub overflow_sub-place : goal.overflow_sub-place
overflow_sub-place c =
    place-before c.args.a.now c.loop-c.p c.loop-c.place _ _ c.loop-c.invariant.3 (comes-before c.args.a.now c.loop-c.p c.byte_before-x.result c.byte_before-x.ensures c.in-Some.is)

pub returns-then-c-d : goal.returns-then-c-d
returns-then-c-d c =
    let x = comes-before c.args.a.now c.loop-c.p c.byte_before-x.result c.byte_before-x.ensures c.in-Some.is in
    let y = comes-before c.args.b.now c.loop-c.q c.byte_before-y.result c.byte_before-y.ensures c.in-Some-y.is in
    differs c.args.a.now c.args.b.now c.loop-c.p c.loop-c.q (c.requires.0.size ∙ sym c.requires.1.size) c.loop-c.invariant.2 _ _ _ _ x y c.loop-c.place c.loop-c.invariant.3 c.if-c-d.true

pub loop-c-smaller : goal.loop-c-smaller
loop-c-smaller c =
    (comes-before c.args.a.now c.loop-c.p c.byte_before-x.result c.byte_before-x.ensures c.in-Some.is).1

pub loop-c-preserved : goal.loop-c-preserved
loop-c-preserved c =
    let x = comes-before c.args.a.now c.loop-c.p c.byte_before-x.result c.byte_before-x.ensures c.in-Some.is in
    let y = comes-before c.args.b.now c.loop-c.q c.byte_before-y.result c.byte_before-y.ensures c.in-Some-y.is in
    let h = place-before c.args.a.now c.loop-c.p c.loop-c.place _ _ c.loop-c.invariant.3 x in
    (x.2, y.2, alike-before c.args.a.now c.args.b.now c.loop-c.p c.loop-c.q (c.requires.0.size ∙ sym c.requires.1.size) c.loop-c.invariant.2 _ _ _ _ x y c.if-c-d.false, omega (arith, c.loop-c.invariant.3, h, ap length x.0))
