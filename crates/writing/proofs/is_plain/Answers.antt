use Prim.Native.Nat.{◌<◌}
use native.Mathlib.Omega.{arith}
use mathlib.Core.Path.{refl}
use lib.ListN.{get_or}
use borrow.Author.Tests.{eq-eqb, ne_eqb}
use Rattle.format.proofs.Table.{control-class, newline-class}
use Rattle.writing.proofs.Plain.{plain_step, plain_end}
use Rattle.writing.proofs.is_plain.Goals as goal
use Rattle.writing.proofs.is_plain.Goals.{else-k-eq-NEWLINE-via-then-k-eq-NEWLINE+else-slash, else-k-eq-NEWLINE-via-else-k-eq-NEWLINE}

pub loop-b-init : goal.loop-b-init
loop-b-init c = refl

pub returns-then-k-eq-NONE : goal.returns-then-k-eq-NONE
returns-then-k-eq-NONE c =
    let h : get_or c.args.s.now c.loop-b.b-index 0 < 256 = omega (arith, c.type_inv.s c.loop-b.b-index) in rw (c.loop-b.invariant, plain_step c.args.s.now c.loop-b.b-index c.loop-b.slash c.loop-b-test.true, control-class (get_or c.args.s.now c.loop-b.b-index 0) h, newline-class (get_or c.args.s.now c.loop-b.b-index 0) h, ← c.class-k.ensures, eq-eqb _ _ c.if-k-eq-NONE.true)

pub returns-then-slash : goal.returns-then-slash
returns-then-slash c =
    let h : get_or c.args.s.now c.loop-b.b-index 0 < 256 = omega (arith, c.type_inv.s c.loop-b.b-index) in rw (c.loop-b.invariant, plain_step c.args.s.now c.loop-b.b-index c.loop-b.slash c.loop-b-test.true, control-class (get_or c.args.s.now c.loop-b.b-index 0) h, newline-class (get_or c.args.s.now c.loop-b.b-index 0) h, ← c.class-k.ensures, ne_eqb _ _ c.if-k-eq-NONE.false, eq-eqb _ _ c.if-k-eq-NEWLINE.true, c.if-slash.true)

pub loop-b-preserved : goal.loop-b-preserved
loop-b-preserved c =
    let h : get_or c.args.s.now c.loop-b.b-index 0 < 256 = omega (arith, c.type_inv.s c.loop-b.b-index) in
    elim c.else-k-eq-NEWLINE.branch [
      | else-k-eq-NEWLINE-via-then-k-eq-NEWLINE+else-slash w ↦ rw (c.loop-b.invariant, plain_step c.args.s.now c.loop-b.b-index c.loop-b.slash c.loop-b-test.true, control-class (get_or c.args.s.now c.loop-b.b-index 0) h, newline-class (get_or c.args.s.now c.loop-b.b-index 0) h, ← c.class-k.ensures, ne_eqb _ _ c.if-k-eq-NONE.false, eq-eqb _ _ w.if-k-eq-NEWLINE.true, w.if-slash.false)
      | else-k-eq-NEWLINE-via-else-k-eq-NEWLINE w ↦ rw (c.loop-b.invariant, plain_step c.args.s.now c.loop-b.b-index c.loop-b.slash c.loop-b-test.true, control-class (get_or c.args.s.now c.loop-b.b-index 0) h, newline-class (get_or c.args.s.now c.loop-b.b-index 0) h, ← c.class-k.ensures, ne_eqb _ _ c.if-k-eq-NONE.false, ne_eqb _ _ w.if-k-eq-NEWLINE.false)
    ]

pub returns : goal.returns
returns c =
    rw (c.loop-b.invariant, plain_end c.args.s.now c.loop-b.b-index c.loop-b.slash c.loop-b-test.false)
