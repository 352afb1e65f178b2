use mathlib.Core.Path.{refl}
use Prim.Native.Nat.{◌<◌}
use native.Mathlib.Omega.{arith}
use borrow.Author.Tests.{eq-eqb, ne_eqb}
use lib.ListN.{get_or, drop_of_length-le}
use Rattle.format.proofs.Table.{newline-class, blank-class}
use Rattle.lines.specs.Line.{line_len}
use Rattle.lines.proofs.Cuts.{at-cons}
use Rattle.lines.proofs.blank_line.Goals as goal

pub loop-b-init : goal.loop-b-init
loop-b-init c = (omega arith, refl)

pub returns-then-k-eq-NEWLINE : goal.returns-then-k-eq-NEWLINE
unfolding line_len
returns-then-k-eq-NEWLINE c =
    let s = c.args.s.now in
    let small : get_or s c.loop-b.b-index 0 < 256 = omega (arith, c.type_inv.s c.loop-b.b-index) in rw (c.loop-b.invariant.1, at-cons s c.loop-b.b-index c.loop-b-test.true, newline-class (get_or s c.loop-b.b-index 0) small, ← c.class-k.ensures, eq-eqb _ _ c.if-k-eq-NEWLINE.true)

pub returns-then-k-ne-BLANK : goal.returns-then-k-ne-BLANK
unfolding line_len
returns-then-k-ne-BLANK c =
    let s = c.args.s.now in
    let small : get_or s c.loop-b.b-index 0 < 256 = omega (arith, c.type_inv.s c.loop-b.b-index) in rw (c.loop-b.invariant.1, at-cons s c.loop-b.b-index c.loop-b-test.true, newline-class (get_or s c.loop-b.b-index 0) small, ← c.class-k.ensures, ne_eqb _ _ c.if-k-eq-NEWLINE.false, blank-class (get_or s c.loop-b.b-index 0) small, ← c.class-k.ensures, ne_eqb _ _ c.if-k-ne-BLANK.true)

pub loop-b-preserved : goal.loop-b-preserved
unfolding line_len
loop-b-preserved c =
    let s = c.args.s.now in
    let small : get_or s c.loop-b.b-index 0 < 256 = omega (arith, c.type_inv.s c.loop-b.b-index) in (omega arith, rw (c.loop-b.invariant.1, at-cons s c.loop-b.b-index c.loop-b-test.true, newline-class (get_or s c.loop-b.b-index 0) small, ← c.class-k.ensures, ne_eqb _ _ c.if-k-eq-NEWLINE.false, blank-class (get_or s c.loop-b.b-index 0) small, ← c.class-k.ensures, eq-eqb _ _ c.if-k-ne-BLANK.false))

pub returns : goal.returns
unfolding line_len
returns c =
    let s = c.args.s.now in
    rw (c.loop-b.invariant.1, drop_of_length-le s c.loop-b-test.false)
